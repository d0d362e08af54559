use Rattle.std.proofs.Common.{rules}
use Rattle.flurry_steps_sweep.specs.Part.{MovePart}
use Rattle.flurry_steps_world.proofs.PartsLaws.{field_step_of}
use Rattle.flurry_steps_world.proofs.parts.PartsField.at_move.Goals as goal

pub returns : goal.returns
returns g c =
    let field_step = field_step_of g.K.Ord.cmp g.F.ComputeFn.changes c.args.party.now c.self.inside.control c.self.inside.tables c.has_halves.ensures.within c.lend_halves.result c.lend_halves.new.party c.self.inside.control c.lend_halves.new.self (MovePart c.args.table c.args.index) c.requires (c.lend_halves.ensures.step c.self.inside.control) in
    rw (← c.self.view_is) (record { loan = field_step.loan; lent = field_step.lent; step = field_step.step })

pub returns-then-not-has_halves : goal.returns-then-not-has_halves
returns-then-not-has_halves g c = search rules
