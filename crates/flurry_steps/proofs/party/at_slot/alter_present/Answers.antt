use Rattle.std.proofs.Common.{false}
use Rattle.flurry_steps.proofs.AtLiveBin.{without_rest, refused_alteration, decided_alteration}
use Rattle.flurry_steps.proofs.party.at_slot.alter_present.Goals as goal

pub returns-in-Err-clause-step : goal.returns-in-Err-clause-step
returns-in-Err-clause-step g c =
    rw c.in-Err.ensures.refused (refused_alteration g.K.Ord.cmp g.F.ComputeFn.changes c.args.hash _ false c.args.f c.args.table _ _ c.in-Err.ensures.in_vain)

pub returns-in-Ok-Here-clause-step : goal.returns-in-Ok-Here-clause-step
returns-in-Ok-Here-clause-step g c =
    let here = rw (c.in-Ok-Here.field-0-is) at c.in-Ok-Here.ensures.here in
    let live = without_rest _ _ c.args.slot.now.content c.alter_present.new.self.content here in
    decided_alteration g.K.Ord.cmp g.F.ComputeFn.changes c.args.hash _ false c.args.f c.args.table _ _ _ _ (rw (← c.requires.at) at live) c.after_alter_present-stage.ensures.stage
