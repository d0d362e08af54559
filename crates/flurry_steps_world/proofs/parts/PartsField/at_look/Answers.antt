use Rattle.std.proofs.Common.{refl}
use Rattle.flurry_steps_sweep.specs.Part.{LookPart}
use Rattle.flurry_steps_world.proofs.PartsLaws.{field_step_of}
use Rattle.flurry_steps_world.proofs.parts.PartsField.at_look.Goals as goal

pub returns : goal.returns
returns g c =
    let field_step = field_step_of g.K.Ord.cmp g.F.ComputeFn.changes c.args.party.now c.self.inside.control c.self.inside.tables c.has.ensures.within c.on_look.result c.on_look.new.self c.self.inside.control c.self.inside.tables (LookPart c.args.table c.args.index) c.requires (c.slot.result.now, c.slot.ensures.slot, c.on_look.ensures.within, c.on_look.ensures.step, refl, refl) in
    rw (← c.self.view_is) (record { loan = field_step.loan; lent = field_step.lent; step = field_step.step })
