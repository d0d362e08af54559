-- Any world is lawful.
use Rattle.std.specs.Prelude.{◌≡◌, ◌⊎◌, ℕ, ◌+◌, ◌<◌, Bool, true, false, slice_get, Option, Some, None, is_some, unwrap_or}
use Rattle.std.specs.declared.cmp.Ordering.{Ordering}
use Rattle.std.specs.Cmp.{IsTotalOrder}
use Rattle.std.proofs.Common.{refl, sym, ◌∙◌, ap, subst, inl, inr}
use Rattle.flurry_base.specs.declared.reply.KeptReply.{KeptReply}
use Rattle.flurry_steps_sweep.specs.Outcome.{OutcomeReply, OutcomeEnded, OutcomeRefused}
use Rattle.flurry_steps_stages.specs.Stage.{ForReserve, Stage, AtLocate, AtBin, AtHelp, AtGrow, AtReserve, AtSweep, AtDone, AtTaken}
use Rattle.flurry_base.specs.OneKey.{key_of}
use Rattle.flurry_steps_theory.specs.Map.{same}
use Rattle.flurry_steps_theory.specs.Machine.{Mode, Locating, Looking, Done, Finished}
use Rattle.flurry_steps_theory.specs.Trace.{is_lookup, decision, has_replied, has_closed}
use Rattle.flurry_steps_theory.specs.Invariant.{IsParty, one_key}
use Rattle.flurry_base.specs.declared.call.Call.{Call}
use Rattle.flurry_base.specs.declared.call.Call.TheVariants as call
use Rattle.flurry_base.specs.declared.sizes.TheConstants.{TABLES}
use Rattle.flurry_base.specs.declared.verdict.Verdict.{Verdict}
use Rattle.flurry_steps_world.specs.World.{PartyRecord, WorldState, state_of, steps_in, FollowsStage, IsWorld, history}
use Rattle.flurry_steps_world.specs.Lawful.{IsLawful}
use Rattle.flurry_steps_world.proofs.SweepLaws.{looks_not}
use Rattle.flurry_steps_world.proofs.Cases.{calls, in_mode}
use Rattle.flurry_steps_world.proofs.ClaimCases.{helper_writes}
use Rattle.flurry_steps_world.proofs.ThereLaws.{bin_is_there, frame_is_there}

lookup_has_key : {K V F : Type 0} (c : Call K V F) → is_lookup (Some c) ≡ true → is_some (key_of c) ≡ true
lookup_has_key (call.Reserve n) h = cc
lookup_has_key call.Clear h = cc
lookup_has_key call.Walk h = cc
lookup_has_key c h = refl

not_both : {b : Bool} → b ≡ true → b ≡ false → ⊥
not_both h g = let no : true ≡ false = sym h ∙ g in cc

module _ {K V F S : Type 0} (cmp : K → K → Ordering) (total : IsTotalOrder cmp) (hash : K → ℕ) (lawful : (j k : K) → same cmp j k ≡ true → hash j ≡ hash k) (gives : F → K → Option V → Verdict V → Type 0) (w : WorldState K V F S) (k : IsWorld cmp hash gives w) where
  module _ (p : ℕ) (x : PartyRecord K V F) (at : slice_get w.party_records p ≡ Some x) (lookup : is_lookup (Some x.call) ≡ true) (r : KeptReply K V) (decided : decision (history w) p ≡ Some r) (open_yet : has_replied (history w) p ≡ false) where
    ok : IsParty (state_of w) p
    ok = k.state.1.parties p

    -- a party in another mode has not decided
    other_mode : (m : Mode K V) → (state_of w).mode p ≡ m → ((q : KeptReply K V) (a b : ℕ) → m ≡ Done (Some q) a b → ⊥) → (m ≡ Finished → ⊥) → ⊥
    other_mode m e no_reply going = let none : decision (history w) p ≡ None = ok.no_decision (λ q a b h. no_reply q a b (sym e ∙ h)) (λ h. going (sym e ∙ h)) in cc

    over : (state_of w).mode p ≡ Finished → ⊥
    over e = by_end (ok.end_label e (ap is_some (calls cmp total hash lawful gives w k p x at x.party_state)))
      where
        by_end : (has_replied (history w) p ≡ true) ⊎ (has_closed (history w) p ≡ true) → ⊥
        by_end (inl h) = not_both h open_yet
        by_end (inr h) = let none : decision (history w) p ≡ None = ok.refused h (ap one_key (calls cmp total hash lawful gives w k p x at x.party_state) ∙ lookup_has_key x.call lookup) in cc

    writes_not : is_lookup (Some x.call) ≡ false → ⊥
    writes_not h = not_both lookup h

    by_stage : (s : Stage K V F) → x.party_state.stage ≡ s → FollowsStage hash x.call s → x.party_state.stage ≡ AtDone (OutcomeReply r)
    by_stage (AtLocate t) e f = absurd (other_mode Locating (in_mode cmp total hash lawful gives w k p x at x.party_state (AtLocate t) e) (λ q a b h. cc) (λ h. cc))
    by_stage (AtBin t n) e f = absurd (other_mode (Looking n) (in_mode cmp total hash lawful gives w k p x at x.party_state (AtBin t n) e) (λ q a b h. cc) (λ h. cc))
    by_stage (AtHelp h a) e f = absurd (writes_not (helper_writes x.call a f))
    by_stage (AtGrow n ForReserve) e (m, f) = absurd (writes_not (ap (λ d. is_lookup (Some d)) f))
    by_stage (AtSweep u) e f = absurd (writes_not (looks_not x.call u.kind u.last f.0))
    by_stage (AtReserve n) e f = absurd (writes_not (ap (λ d. is_lookup (Some d)) f))
    by_stage (AtDone (OutcomeReply q)) e f = let same_reply : Some q ≡ Some r = sym (ok.decided q 0 0 (in_mode cmp total hash lawful gives w k p x at x.party_state (AtDone (OutcomeReply q)) e)) ∙ decided in e ∙ ap (λ o. AtDone (OutcomeReply (unwrap_or o q))) same_reply
    by_stage (AtDone OutcomeEnded) e (m, f) = absurd (writes_not (ap (λ d. is_lookup (Some d)) f))
    by_stage (AtDone OutcomeRefused) e f = absurd (over (in_mode cmp total hash lawful gives w k p x at x.party_state (AtDone OutcomeRefused) e))
    by_stage AtTaken e f = absurd (over (in_mode cmp total hash lawful gives w k p x at x.party_state AtTaken e))
    by_stage s e f = absurd (writes_not f.writes)

    replies : x.party_state.stage ≡ AtDone (OutcomeReply r)
    replies = by_stage x.party_state.stage refl (k.party_records p x at).stage

  pub is_lawful : IsLawful cmp hash gives w
  is_lawful = record {
    legal = k.state.1.legal;
    removals = k.state.1.removals;
    count = k.state.1.counted.balance;
    there = λ p x t e at. bin_is_there cmp total hash lawful gives w k p x at t e;
    sweeps_there = λ p x u f at stage over. frame_is_there cmp total hash lawful gives w k p x at u stage f over;
    in_time = λ p x at lookup none going. subst (λ n. n < TABLES + 1) (ap steps_in at) ((k.state.1.lookups p).in_time (ap is_lookup (calls cmp total hash lawful gives w k p x at x.party_state) ∙ lookup) none going);
    replies_next = λ p x r at lookup decided open_yet. replies p x at lookup r decided open_yet;
  }
