use Rattle.flurry_steps_drive.proofs.HoldsLaws.{holds_nothing}
use Rattle.flurry_steps_drive.proofs.driver.no_parts_hold_nothing.Goals as goal

pub returns : goal.returns
returns g c = λ hash alike. holds_nothing g.K.Ord.cmp hash g.F.ComputeFn.changes g.met.K.Ord.total alike
