use Rattle.flurry_steps_drive.proofs.Driven.{exact}
use Rattle.flurry_steps_drive.proofs.driver.drive.Goals as goal

pub returns-clause-exact : goal.returns-clause-exact
returns-clause-exact g c =
    let to = c.finish.ensures in
    exact g.X.Room.Room.place_gives g.K.Ord.cmp g.met.K.Ord.total g.F.ComputeFn.changes g.X.Field.lends g.X.Field.lacks _ _ _ _ _ to.field_steps to.done
