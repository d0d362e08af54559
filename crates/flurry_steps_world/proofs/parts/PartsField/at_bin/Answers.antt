use Rattle.flurry_steps_sweep.specs.Part.{BinPart}
use Rattle.flurry_steps_world.proofs.PartsLaws.{field_step_of}
use Rattle.flurry_steps_world.proofs.parts.PartsField.at_bin.Goals as goal

pub returns : goal.returns
returns g c =
    let field_step = field_step_of g.K.Ord.cmp g.F.ComputeFn.changes c.args.party.now c.self.inside.control c.self.inside.tables c.has.ensures.within c.lend_bin.result c.lend_bin.new.party c.self.inside.control c.lend_bin.new.self (BinPart c.args.table c.args.index) c.requires (c.lend_bin.ensures.step c.self.inside.control) in
    rw (← c.self.view_is) (record { loan = field_step.loan; lent = field_step.lent; step = field_step.step })
