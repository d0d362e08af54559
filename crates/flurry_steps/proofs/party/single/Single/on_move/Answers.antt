use Rattle.std.proofs.Common.{rules, ◌≡◌, refl}
use Rattle.flurry_steps_stages.specs.Help.{Help, moved_help}
use Rattle.flurry_steps_stages.specs.Stage.{AtHelp}
use Rattle.flurry_steps.specs.Party.{PartyState, with_stage}
use Rattle.flurry_steps.specs.PartySlots.{moved_stage}
use Rattle.flurry_steps_stages.specs.StageView.{help_of, resume_of}
use Rattle.flurry_steps.proofs.Moves.{moves_in}
use Rattle.flurry_steps.proofs.party.single.Single.on_move.Goals as goal

pub returns-clause-step : goal.returns-clause-step
returns-clause-step g c =
    let put : Help → PartyState g.row.K.Denot g.row.V.Denot g.row.F.Denot = λ h. record { hash = c.self.inside.hash; processors = c.self.inside.processors; helped = c.self.inside.helped; stage = AtHelp h (resume_of g.Q.Query.stands_for c.in-Help.field-1) } in
    let same : c.args.self.now ≡ put (help_of c.in-Help.help) = search rules in
    record { step = rw same (moves_in moved_help (λ p. with_stage p (moved_stage p.stage)) put (λ _. refl) (help_of c.in-Help.help) _ _ _ c.on_move.result (help_of c.on_move.new.self) _ _ _ c.on_move.ensures.step) }
