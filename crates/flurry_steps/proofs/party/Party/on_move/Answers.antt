use Rattle.std.proofs.Common.{◌≡◌, ◌∙◌, sym, ap, None}
use Rattle.flurry_steps.specs.PartyKindView.{kind_state}
use Rattle.flurry_steps_stages.specs.Stage.{AtSweep}
use Rattle.flurry_steps.proofs.Singles.{no_move}
use Rattle.flurry_steps.proofs.party.Party.on_move.Goals as goal

pub unreachable-requires : goal.unreachable-requires
unreachable-requires g c =
    let same : c.args.self.now ≡ record { hash = c.in-Sweep.field-0; processors = c.in-Sweep.field-1; helped = None; stage = AtSweep c.in-Sweep.field-2 } = sym c.self.view_is ∙ ap kind_state c.in-Sweep.is in
    absurd (no_move c.in-Sweep.field-2.kind c.in-Sweep.field-2.stage c.args.old.now.table c.args.old.now.index (rw same at c.requires))
