-- What the cases of a party's step share.
use Rattle.std.specs.Prelude.{ℕ, ℤ, pos, ◌+ℤ◌, ◌-ℤ◌, ◌+◌, ◌^◌, ◌≤◌, ◌==◌, true, false, slice_get, Option, Some, None, option_map, ◌≡◌}
use Rattle.std.specs.declared.cmp.Ordering.{Ordering}
use Rattle.std.specs.Int.{saturate_signed, w64}
use Rattle.std.specs.Cmp.{IsTotalOrder}
use Rattle.std.proofs.Common.{arith, sym, ◌∙◌, ap, subst}
use Rattle.std.proofs.lemmas.Int.{ints}
use Rattle.flurry_steps_control.specs.Control as control
use Rattle.flurry_steps_control.specs.Control.{ControlState}
use Rattle.flurry_steps_sweep.specs.Outcome.{Outcome}
use Rattle.flurry_steps_stages.specs.Stage.{Stage}
use Rattle.flurry_steps.specs.Party.{PartyState}
use Rattle.flurry_steps_sweep.specs.declared.step.Event.{Event}
use Rattle.flurry_steps_theory.specs.Machine.{Done, Quiet, Counts}
use Rattle.flurry_steps_theory.specs.Map.{same}
use Rattle.flurry_steps_theory.specs.Trace.{is_lookup}
use Rattle.flurry_steps_theory.specs.declared.Label.TheVariants as label
use Rattle.flurry_steps_world.specs.Tables.{Tables}
use Rattle.flurry_steps_world.specs.World.{PartyRecord, WorldState, Near, state_of, mode_in, claim_in, told_in, reply_in, mode_of_stage, claim_of_stage, told_of_stage, FollowsStage, IsWorld}
use Rattle.flurry_steps_world.specs.Steps.{label_of}
use Rattle.flurry_steps_world.proofs.StateLaws.{held_of_stage}
use Rattle.flurry_steps_world.proofs.TransitionLaws.{is_quiet, is_counted}
use Rattle.flurry_steps_world.proofs.Frames.{same_frame, counted_frame, IsStep, in_range}
use Rattle.flurry_base.specs.declared.verdict.Verdict.{Verdict}

module _ {K V F S : Type 0} (cmp : K → K → Ordering) (total : IsTotalOrder cmp) (hash : K → ℕ) (lawful : (j k : K) → same cmp j k ≡ true → hash j ≡ hash k) (gives : F → K → Option V → Verdict V → Type 0) (w : WorldState K V F S) (k : IsWorld cmp hash gives w) (p : ℕ) (x : PartyRecord K V F) (at : slice_get w.party_records p ≡ Some x) (c : PartyState K V F) where
  -- the machine's view of the party
  pub calls : (state_of w).call p ≡ Some x.call
  calls = ap (option_map (λ (z : PartyRecord K V F). z.call)) at

  pub in_mode : (s : Stage K V F) → x.party_state.stage ≡ s → (state_of w).mode p ≡ mode_of_stage s
  in_mode s e = ap mode_in at ∙ ap mode_of_stage e

  pub in_claim : (s : Stage K V F) → x.party_state.stage ≡ s → (state_of w).claim p ≡ claim_of_stage s
  in_claim s e = ap claim_in at ∙ ap claim_of_stage e

  pub in_told : (s : Stage K V F) → x.party_state.stage ≡ s → (state_of w).told p ≡ told_of_stage s
  in_told s e = ap told_in at ∙ ap told_of_stage e

  pub no_lookup : is_lookup (Some x.call) ≡ false → is_lookup ((state_of w).call p) ≡ false
  no_lookup h = ap is_lookup calls ∙ h

  -- a step told by the event, the stage, the control and the tables that it leaves
  pub settled : (ev ev' : Event) (s : Stage K V F) (b b' : ControlState) (t t' : Tables K V) → ev ≡ ev' → c.stage ≡ s → b ≡ b' → t ≡ t'
      → IsStep cmp hash gives w p x b' t' c (label_of p ev' s) → IsStep cmp hash gives w p x b t c (label_of p ev c.stage)
  settled ev ev' s b b' t t' e f g h step =
      subst (λ z. IsStep cmp hash gives w p x z t c (label_of p ev c.stage)) (sym g)
      (subst (λ z. IsStep cmp hash gives w p x b' z c (label_of p ev c.stage)) (sym h)
      (subst (λ z. IsStep cmp hash gives w p x b' t' c (label_of p z c.stage)) (sym e)
      (subst (λ z. IsStep cmp hash gives w p x b' t' c (label_of p ev' z)) (sym f) step)))

  -- a step that changes nothing which the machine sees
  pub quiet : (s : Stage K V F) → x.party_state.stage ≡ s → mode_of_stage c.stage ≡ mode_of_stage s → held_of_stage c.stage ≡ held_of_stage s → is_lookup (Some x.call) ≡ false → FollowsStage hash x.call c.stage
      → IsStep cmp hash gives w p x w.control_state w.tables c (label.Silent p)
  quiet s e mode claim lookup follows = record {
    transition = Quiet;
    can = λ h. absurd (grind (arith, h, no_lookup lookup));
    is = is_quiet cmp hash gives w p x at c (mode ∙ sym (in_mode s e)) (claim ∙ ap held_of_stage (sym e));
    follows = follows;
    frame = same_frame cmp hash gives w k;
  }

  -- a step that counts
  pub is_counting : (s : Stage K V F) (r : Outcome K V) (added removed : ℕ) (d : ℤ) → x.party_state.stage ≡ s → mode_of_stage s ≡ Done (reply_in r) added removed → held_of_stage s ≡ (None, None) → Near (2 ^ 62) w.control_state.count → d ≡ pos added -ℤ pos removed → added + removed ≤ 1
      → mode_of_stage c.stage ≡ Done (reply_in r) 0 0 → held_of_stage c.stage ≡ (None, None) → is_lookup (Some x.call) ≡ false → FollowsStage hash x.call c.stage
      → IsStep cmp hash gives w p x (control.after_count d w.control_state) w.tables c (label.Silent p)
  is_counting s r added removed d e before none near delta small mode claim lookup follows = record {
    transition = Counts (λ q. p == q);
    can = no_lookup lookup;
    is = is_counted cmp hash gives w p x at c (reply_in r) added removed _ (in_mode s e ∙ before) summed mode (claim ∙ sym (ap held_of_stage e ∙ none));
    follows = follows;
    frame = counted_frame cmp hash gives w d k;
  }
    where
      summed : saturate_signed w64 (w.control_state.count +ℤ d) ≡ w.control_state.count +ℤ pos added -ℤ pos removed
      summed = in_range (w.control_state.count +ℤ d) (2 ^ 62) (omega arith) (omega (arith, ints, near.most, delta, small)) (omega (arith, ints, near.least, delta, small)) ∙ omega (arith, ints, delta)
