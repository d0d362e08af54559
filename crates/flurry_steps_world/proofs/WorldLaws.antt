-- What each call of a world keeps.
use Rattle.std.specs.Prelude.{ℕ, suc, zero, ◌+◌, ◌^◌, ◌==◌, Bool, true, false, cond, List, [], ◌∷◌, ◌++◌, length, ◌≤◌, reverse, slice_get, slice_set, Option, Some, None, IsNone, option_map, is_some, if◌then◌else◌, ◌≡◌}
use Rattle.std.specs.declared.cmp.Ordering.{Ordering}
use Rattle.std.specs.Cmp.{IsTotalOrder}
use Rattle.std.proofs.Common.{arith, refl, sym, ◌∙◌, ap, subst}
use Rattle.std.proofs.lemmas.Bool.{eqb-true, eqb-false, eq-eqb, ne_eqb}
use Rattle.std.proofs.lemmas.List.{reverse-append, length-append, length-set}
use Rattle.flurry_steps_control.specs.Control.{ControlState}
use Rattle.flurry_steps_sweep.specs.Outcome.{Outcome, OutcomeReply, OutcomeEnded, OutcomeRefused}
use Rattle.flurry_steps_sweep.specs.Sweep as sweep
use Rattle.flurry_steps_sweep.specs.Sweep.{SweepState, SweepStage, AtSweepStart, OverBins, AtTotal, AtEnd, AfterEnd}
use Rattle.flurry_steps_stages.specs.Stage.{Stage, AtSweep, AtDone, AtTaken, taken_stage, last_seen, part_of, IsSingle}
use Rattle.flurry_steps.specs.Party.{PartyState, with_stage}
use Rattle.flurry_base.specs.OneKey.{key_of}
use Rattle.flurry_steps_theory.specs.Map.{same}
use Rattle.flurry_steps_theory.specs.Machine.{Enabled, Locating, Done, Finished, Begins, Quiet, Loses, Replies, Ends, update, next_state}
use Rattle.flurry_steps_theory.specs.Invariant.{Inv}
use Rattle.flurry_base.specs.declared.call.Call.{Call}
use Rattle.flurry_base.specs.declared.call.Call.TheVariants as call
use Rattle.flurry_base.specs.declared.call.Seen.{Seen}
use Rattle.flurry_base.specs.declared.sizes.TheConstants.{MAX_LABELS}
use Rattle.flurry_base.specs.declared.verdict.Verdict.{Verdict}
use Rattle.flurry_steps_theory.specs.declared.Label.{Label}
use Rattle.flurry_steps_theory.specs.declared.Label.TheVariants as label
use Rattle.flurry_steps_theory.proofs.Step.{inv_step}
use Rattle.flurry_steps_world.specs.Tables.{Tables}
use Rattle.flurry_steps_world.specs.World.{PartyRecord, WorldState, Near, state_of, start_of, mode_in, claim_in, told_in, seen_in, began_from_in, steps_in, mode_of_stage, mode_of_sweep, FollowsSweep, FollowsStage, Follows, IsWorld, DoesTransition, history}
use Rattle.flurry_steps_world.specs.Parts.{PartStep}
use Rattle.flurry_steps_world.specs.Steps.{with_label, with_loss, with_step, with_party_record, closing_label, GoesOn, SweepStageStep, StageStep}
use Rattle.flurry_steps_world.proofs.StateLaws.{held_of_stage, same_place, same_some, get_set, read_set}
use Rattle.flurry_steps_world.proofs.TransitionLaws.{is_quiet, is_replied, is_ended}
use Rattle.flurry_steps_world.proofs.Frames.{same_frame, StepOf, step_of, does_one, kept}
use Rattle.flurry_steps_world.proofs.SweepLaws.{IsGoingSingle, no_walk, no_seen, single_unread, no_key}
use Rattle.flurry_steps_world.proofs.SweepCases.{swept_step}
use Rattle.flurry_steps_world.proofs.Cases.{calls, in_mode, in_claim}
use Rattle.flurry_steps_world.proofs.PartyCases.{taken}
use Rattle.flurry_steps_world.proofs.LossLaws.{lost_as}
use Rattle.flurry_steps.specs.PartyBoard.{lost, stage_lost}
use Rattle.std.proofs.lemmas.Option.{slice_get_within}

pub get_append : {X : Type 0} (xs : List X) (y : X) (q : ℕ) → slice_get (xs ++ y ∷ []) q ≡ cond (length xs == q) (Some y) (slice_get xs q)
get_append [] y zero = refl
get_append [] y (suc q) = grind arith
get_append (x ∷ xs) y zero = grind (arith, eqb-true (suc (length xs)) zero)
get_append (x ∷ xs) y (suc q) = get_append xs y q ∙ ap (λ b. cond b (Some y) (slice_get xs q)) (by_test (length xs == q) refl)
  where
    by_test : (b : Bool) → (length xs == q) ≡ b → (length xs == q) ≡ (suc (length xs) == suc q)
    by_test true h = h ∙ sym (eq-eqb (suc (length xs)) (suc q) (ap suc (eqb-true (length xs) q h)))
    by_test false h = h ∙ sym (ne_eqb (suc (length xs)) (suc q) (λ g. eqb-false (length xs) q h (omega (arith, g))))

-- what is read of the list with one more
read_append : {X Y : Type 0} (f : Option X → Y) (xs : List X) (y : X) (q : ℕ) → f (slice_get (xs ++ y ∷ []) q) ≡ update (λ n. f (slice_get xs n)) (length xs) (f (Some y)) q
read_append f xs y q = ap f (get_append xs y q) ∙ through (length xs == q)
  where
    through : (b : Bool) → f (cond b (Some y) (slice_get xs q)) ≡ cond b (f (Some y)) (f (slice_get xs q))
    through true = refl
    through false = refl

module _ {K V F S : Type 0} (cmp : K → K → Ordering) (total : IsTotalOrder cmp) (hash : K → ℕ) (lawful : (j k : K) → same cmp j k ≡ true → hash j ≡ hash k) (gives : F → K → Option V → Verdict V → Type 0) (w : WorldState K V F S) (k : IsWorld cmp hash gives w) (near : Near (2 ^ 62) w.control_state.count) where
  -- an unknown party's step
  module _ (p : ℕ) (unknown : slice_get w.party_records p ≡ None) where
    silent_after : state_of (with_label w (label.Silent p)) ≡ next_state cmp hash gives (state_of w) p Quiet
    silent_after = λ i. record {
      start = ap (start_of w.first) after_field_step i;
      published = w.control_state.published;
      growth = (state_of w).growth;
      slot = (state_of w).slot;
      parties = (state_of w).parties;
      call = (state_of w).call;
      mode = (state_of w).mode;
      claim = (state_of w).claim;
      told = (state_of w).told;
      count = w.control_state.count;
      seen = (state_of w).seen;
      began_from = (state_of w).began_from;
      steps = λ q. (sym (same_place (state_of w).steps p ((state_of w).steps p) refl q) ∙ ap (λ b. update (state_of w).steps p (if b then suc ((state_of w).steps p) else (state_of w).steps p) q) (sym (ap is_some uncalled))) i;
      trace = after_field_step i;
    }
      where
        after_field_step : reverse (w.trace ++ label.Silent p ∷ []) ≡ label.Silent p ∷ history w
        after_field_step = reverse-append w.trace (label.Silent p ∷ [])

        uncalled : (state_of w).call p ≡ None
        uncalled = ap (option_map (λ (z : PartyRecord K V F). z.call)) unknown

    pub silent_line : DoesTransition cmp hash gives w p (with_label w (label.Silent p))
    silent_line = (Quiet, (λ h. ap mode_in unknown), silent_after)

    pub silent : IsWorld cmp hash gives (with_label w (label.Silent p))
    silent = record {
      state = (k.state.0, subst (Inv cmp hash gives w.first k.state.0) (sym silent_after) (inv_step cmp total hash lawful gives w.first k.state.0 (state_of w) p Quiet (λ h. ap mode_in unknown) k.state.1));
      party_records = k.party_records;
      hashed = k.hashed;
      control_state = k.control_state;
      tables = k.tables;
      no_table = k.no_table;
      next = k.next;
      running = k.running;
      over = k.over;
    }

  -- an attempt of a party is lost
  module _ (p : ℕ) (x : PartyRecord K V F) (at : slice_get w.party_records p ≡ Some x) where
    abbrev loser : PartyRecord K V F
    loser = record { call = x.call; began_from = x.began_from; party_state = lost x.party_state; steps = x.steps }

    stays : (mode_of_stage (stage_lost x.party_state.stage) ≡ mode_of_stage x.party_state.stage) × (held_of_stage (stage_lost x.party_state.stage) ≡ held_of_stage x.party_state.stage) × (last_seen (stage_lost x.party_state.stage) ≡ last_seen x.party_state.stage) × FollowsStage hash x.call (stage_lost x.party_state.stage)
    stays = lost_as hash x.call x.party_state.stage (k.party_records p x at).stage

    loss_after : state_of (with_loss w p x) ≡ next_state cmp hash gives (state_of w) p Loses
    loss_after = λ i. record {
      start = ap (start_of w.first) after_field_step i;
      published = w.control_state.published;
      growth = (state_of w).growth;
      slot = (state_of w).slot;
      parties = length-set w.party_records p loser i;
      call = λ q. as_read (option_map (λ (z : PartyRecord K V F). z.call)) (sym (ap (option_map (λ (z : PartyRecord K V F). z.call)) at)) q i;
      mode = λ q. as_read mode_in (stays.0 ∙ sym (ap mode_in at)) q i;
      claim = λ q. as_read claim_in (ap (λ h. h.0) stays.1 ∙ sym (ap claim_in at)) q i;
      told = λ q. as_read told_in (ap (λ h. h.1) stays.1 ∙ sym (ap told_in at)) q i;
      count = w.control_state.count;
      seen = λ q. as_read seen_in (stays.2 ∙ sym (ap seen_in at)) q i;
      began_from = λ q. as_read began_from_in (sym (ap began_from_in at)) q i;
      steps = λ q. (as_read steps_in (sym (ap steps_in at)) q ∙ sym (same_place (state_of w).steps p ((state_of w).steps p) refl q)) i;
      trace = after_field_step i;
    }
      where
        after_field_step : reverse (w.trace ++ label.Silent p ∷ []) ≡ label.Silent p ∷ history w
        after_field_step = reverse-append w.trace (label.Silent p ∷ [])

        -- what is read of the party as before
        as_read : {Y : Type 0} (f : Option (PartyRecord K V F) → Y) → f (Some loser) ≡ f (slice_get w.party_records p) → (q : ℕ) → f (slice_get (slice_set w.party_records p loser) q) ≡ f (slice_get w.party_records q)
        as_read f same q = read_set f w.party_records p q loser (slice_get_within w.party_records p x at) ∙ same_place (λ n. f (slice_get w.party_records n)) p (f (Some loser)) (sym same) q

    pub loss_line : DoesTransition cmp hash gives w p (with_loss w p x)
    loss_line = (Loses, tt, loss_after)

    pub loses : IsWorld cmp hash gives (with_loss w p x)
    loses = record {
      state = (k.state.0, subst (Inv cmp hash gives w.first k.state.0) (sym loss_after) (inv_step cmp total hash lawful gives w.first k.state.0 (state_of w) p Loses tt k.state.1));
      party_records = λ q y h. by_place q y (p == q) refl (sym (get_set w.party_records p q loser (slice_get_within w.party_records p x at)) ∙ h);
      hashed = k.hashed;
      control_state = k.control_state;
      tables = k.tables;
      no_table = k.no_table;
      next = k.next;
      running = k.running;
      over = k.over;
    }
      where
        by_place : (q : ℕ) (y : PartyRecord K V F) (b : Bool) → (p == q) ≡ b → cond b (Some loser) (slice_get w.party_records q) ≡ Some y → Follows hash y
        by_place q y true e h = subst (Follows hash) (same_some h) (record { own_hash = (k.party_records p x at).own_hash; stage = stays.3 })
        by_place q y false e h = k.party_records q y h

  -- a call begins
  module _ (d : Call K V F) (from : Option ℕ) (origin : (v : ℕ) → from ≡ Some v → (z : Seen K V) × (seen_in (slice_get w.party_records v) ≡ Some z) × (d ≡ call.RemoveSeen z)) (c : PartyState K V F) (mode : mode_of_stage c.stage ≡ Locating) (plain_entries : held_of_stage c.stage ≡ (None, None)) (unread : last_seen c.stage ≡ None) where
    abbrev new : PartyRecord K V F
    new = record { call = d; began_from = from; party_state = c; steps = 0 }

    begin_after : state_of (with_party_record w d from c) ≡ next_state cmp hash gives (state_of w) (length w.party_records) (Begins d from)
    begin_after = λ i. record {
      start = ap (start_of w.first) after_field_step i;
      published = w.control_state.published;
      growth = (state_of w).growth;
      slot = (state_of w).slot;
      parties = (length-append w.party_records (new ∷ []) ∙ (let one : length w.party_records + 1 ≡ suc (length w.party_records) = omega arith in one)) i;
      call = λ q. read_append (option_map (λ (z : PartyRecord K V F). z.call)) w.party_records new q i;
      mode = λ q. (read_append mode_in w.party_records new q ∙ ap (λ m. update (state_of w).mode (length w.party_records) m q) mode) i;
      claim = λ q. (read_append claim_in w.party_records new q ∙ ap (λ m. update (state_of w).claim (length w.party_records) m q) (ap (λ h. h.0) plain_entries)) i;
      told = λ q. (read_append told_in w.party_records new q ∙ ap (λ m. update (state_of w).told (length w.party_records) m q) (ap (λ h. h.1) plain_entries)) i;
      count = w.control_state.count;
      seen = λ q. (read_append seen_in w.party_records new q ∙ ap (λ m. update (state_of w).seen (length w.party_records) m q) unread) i;
      began_from = λ q. read_append began_from_in w.party_records new q i;
      steps = λ q. read_append steps_in w.party_records new q i;
      trace = after_field_step i;
    }
      where
        after_field_step : reverse (w.trace ++ label.Begin (length w.party_records) d ∷ []) ≡ label.Begin (length w.party_records) d ∷ history w
        after_field_step = reverse-append w.trace (label.Begin (length w.party_records) d ∷ [])

    begin_can : Enabled cmp hash gives (state_of w) (length w.party_records) (Begins d from)
    begin_can = (refl, origin)

    pub begin_line : DoesTransition cmp hash gives w (length w.party_records) (with_party_record w d from c)
    begin_line = (Begins d from, begin_can, begin_after)

    pub began : ((j : K) → key_of d ≡ Some j → c.hash ≡ hash j) → FollowsStage hash d c.stage → IsWorld cmp hash gives (with_party_record w d from c)
    began own follows = record {
      state = (k.state.0, subst (Inv cmp hash gives w.first k.state.0) (sym begin_after) (inv_step cmp total hash lawful gives w.first k.state.0 (state_of w) (length w.party_records) (Begins d from) begin_can k.state.1));
      party_records = λ q y h. by_place q y (length w.party_records == q) (sym (get_append w.party_records new q) ∙ h);
      hashed = k.hashed;
      control_state = k.control_state;
      tables = k.tables;
      no_table = k.no_table;
      next = k.next;
      running = k.running;
      over = k.over;
    }
      where
        by_place : (q : ℕ) (y : PartyRecord K V F) (b : Bool) → cond b (Some new) (slice_get w.party_records q) ≡ Some y → Follows hash y
        by_place q y true h = subst (Follows hash) (same_some h) (record { own_hash = own; stage = follows })
        by_place q y false h = k.party_records q y h

  module _ (p : ℕ) (x : PartyRecord K V F) (at : slice_get w.party_records p ≡ Some x) where
    -- the step of a party of another call than a walk or a clear, at the part that it wants
    goes_by : IsSingle x.party_state.stage → (x.call ≡ call.Walk → ⊥) → (l : Label K V F) (c : PartyState K V F) (b : ControlState) (t : Tables K V) → GoesOn cmp gives p x.party_state w.control_state w.tables l c b t → StepOf cmp hash gives w p x b t c l
    goes_by single other l c b t s =
        let step = taken cmp total hash lawful gives w k near p x at c s.event b t single s.part in
        subst (StepOf cmp hash gives w p x b t c) (sym s.label_is) (step_of cmp hash gives w p x b t c _ at step.hash_stays (no_seen hash x.call c.stage other step.step.follows ∙ sym (single_unread x.party_state.stage single)) step.step)

    pub goes_on : IsSingle x.party_state.stage → (x.call ≡ call.Walk → ⊥) → (l : Label K V F) (c : PartyState K V F) (b : ControlState) (t : Tables K V) → GoesOn cmp gives p x.party_state w.control_state w.tables l c b t → IsWorld cmp hash gives (with_step w p x b t c l)
    goes_on single other l c b t s = kept cmp hash gives total lawful w p x b t c l k at (goes_by single other l c b t s)

    -- a party that has finished does nothing
    finished : (s : Stage K V F) → x.party_state.stage ≡ s → mode_of_stage s ≡ Finished → held_of_stage s ≡ (None, None) → (c : PartyState K V F) → c.hash ≡ x.party_state.hash → last_seen c.stage ≡ last_seen x.party_state.stage → mode_of_stage c.stage ≡ Finished → held_of_stage c.stage ≡ (None, None) → FollowsStage hash x.call c.stage → StepOf cmp hash gives w p x w.control_state w.tables c (label.Silent p)
    finished s e over none c h seen mode claim follows = step_of cmp hash gives w p x w.control_state w.tables c (label.Silent p) at h seen (record {
      transition = Quiet;
      can = λ _. in_mode cmp total hash lawful gives w k p x at c s e ∙ over;
      is = is_quiet cmp hash gives w p x at c (mode ∙ sym (in_mode cmp total hash lawful gives w k p x at c s e ∙ over)) (claim ∙ sym (ap held_of_stage e ∙ none));
      follows = follows;
      frame = same_frame cmp hash gives w k;
    })

    -- a call without a key ends
    ends : (s : Stage K V F) → x.party_state.stage ≡ s → mode_of_stage s ≡ Done None 0 0 → held_of_stage s ≡ (None, None) → IsNone (key_of x.call) → (c : PartyState K V F) → c.hash ≡ x.party_state.hash → last_seen c.stage ≡ last_seen x.party_state.stage → mode_of_stage c.stage ≡ Finished → held_of_stage c.stage ≡ (None, None) → FollowsStage hash x.call c.stage → StepOf cmp hash gives w p x w.control_state w.tables c (label.End p)
    ends s e done none no_key c h seen mode claim follows = step_of cmp hash gives w p x w.control_state w.tables c (label.End p) at h seen (record {
      transition = Ends;
      can = (x.call, calls cmp total hash lawful gives w k p x at c, no_key, in_mode cmp total hash lawful gives w k p x at c s e ∙ done, in_claim cmp total hash lawful gives w k p x at c s e ∙ ap (λ h. h.0) none);
      is = is_ended cmp hash gives w p x at c mode (claim ∙ sym (ap held_of_stage e ∙ none));
      follows = follows;
      frame = same_frame cmp hash gives w k;
    })

    -- the step of a call that is done
    closes : (r : Outcome K V) → x.party_state.stage ≡ AtDone r → StepOf cmp hash gives w p x w.control_state w.tables (with_stage x.party_state AtTaken) (closing_label p r)
    closes (OutcomeReply r) e = step_of cmp hash gives w p x w.control_state w.tables (with_stage x.party_state AtTaken) (label.Reply p r) at refl (sym (ap last_seen e)) (record {
      transition = Replies r;
      can = (x.call, calls cmp total hash lawful gives w k p x at x.party_state, subst (FollowsStage hash x.call) e (k.party_records p x at).stage, in_mode cmp total hash lawful gives w k p x at x.party_state (AtDone (OutcomeReply r)) e, in_claim cmp total hash lawful gives w k p x at x.party_state (AtDone (OutcomeReply r)) e);
      is = is_replied cmp hash gives w p x at (with_stage x.party_state AtTaken) r refl (sym (ap held_of_stage e));
      follows = tt;
      frame = same_frame cmp hash gives w k;
    })
    closes OutcomeEnded e = ends (AtDone OutcomeEnded) e refl refl (let (n, is) = subst (FollowsStage hash x.call) e (k.party_records p x at).stage in subst (λ d. IsNone (key_of d)) (sym is) refl) (with_stage x.party_state AtTaken) refl (sym (ap last_seen e)) refl refl tt
    closes OutcomeRefused e = finished (AtDone OutcomeRefused) e refl refl (with_stage x.party_state AtTaken) refl (sym (ap last_seen e)) refl refl tt

  module _ (few : length w.trace ≤ MAX_LABELS) (p : ℕ) (x : PartyRecord K V F) (at : slice_get w.party_records p ≡ Some x) where
    -- that of a walk or a clear at the part that it wants
    sweep_step : (u : SweepState K V) → x.party_state.stage ≡ AtSweep u → (l : Label K V F) (c : PartyState K V F) (b : ControlState) (t : Tables K V) → GoesOn cmp gives p x.party_state w.control_state w.tables l c b t → StepOf cmp hash gives w p x b t c l
    sweep_step u e l c b t s = subst (StepOf cmp hash gives w p x b t c) (sym s.label_is) (swept_step cmp total hash lawful gives w k near few p x at c s.event b t u e (subst (λ z. PartStep cmp gives (part_of x.party_state.hash z) x.party_state w.control_state w.tables s.event c b t) e s.part))

    -- and each of its steps
    sweeps : (u : SweepState K V) → x.party_state.stage ≡ AtSweep u → (s : SweepStage K V) → u.stage ≡ s → (l : Label K V F) (c : PartyState K V F) (b : ControlState) (t : Tables K V) → SweepStageStep cmp gives p s x.party_state w.control_state w.tables l c b t → StepOf cmp hash gives w p x b t c l
    sweeps u e AtSweepStart f l c b t s = sweep_step u e l c b t s
    sweeps u e (OverBins d) f l c b t s = sweep_step u e l c b t s
    sweeps u e AtTotal f l c b t s = sweep_step u e l c b t s
    sweeps u e (AtEnd r) f l c b t (g, y, z, v) = rw (g, y, z, v) (swept r f)
      where
        own : FollowsStage hash x.call (AtSweep u)
        own = subst (FollowsStage hash x.call) e (k.party_records p x at).stage

        after : PartyState K V F
        after = with_stage x.party_state (taken_stage x.party_state.stage)

        to : taken_stage x.party_state.stage ≡ AtSweep (sweep.with_stage u AfterEnd)
        to = ap taken_stage e

        stays : last_seen after.stage ≡ last_seen x.party_state.stage
        stays = ap last_seen to ∙ sym (ap last_seen e)

        follows_on : FollowsStage hash x.call after.stage
        follows_on = subst (FollowsStage hash x.call) (sym to) (own.0, tt)

        swept : (q : Outcome K V) → u.stage ≡ AtEnd q → StepOf cmp hash gives w p x w.control_state w.tables after (closing_label p q)
        swept (OutcomeReply q) h = absurd (subst (λ z. FollowsSweep hash z u.kind) h own.1)
        swept OutcomeEnded h = ends p x at (AtSweep u) e (ap (λ z. mode_of_sweep z u.kind) h) refl (no_key x.call u.kind u.last own.0) after refl stays (ap mode_of_stage to) (ap held_of_stage to) follows_on
        swept OutcomeRefused h = finished p x at (AtSweep u) e (ap (λ z. mode_of_sweep z u.kind) h) refl after refl stays (ap mode_of_stage to) (ap held_of_stage to) follows_on
    sweeps u e AfterEnd f l c b t (g, y, z, v) = rw (g, y, z, v) (finished p x at (AtSweep u) e (ap (λ z. mode_of_sweep z u.kind) f) refl x.party_state refl refl (ap mode_of_stage e ∙ ap (λ z. mode_of_sweep z u.kind) f) (ap held_of_stage e) (k.party_records p x at).stage)

    single_at : {s : Stage K V F} → x.party_state.stage ≡ s → IsSingle s → IsSingle x.party_state.stage
    single_at e h = subst IsSingle (sym e) h

    no_walk_at : {s : Stage K V F} → x.party_state.stage ≡ s → IsGoingSingle s → x.call ≡ call.Walk → ⊥
    no_walk_at {s} e h = no_walk hash x.call s h (subst (FollowsStage hash x.call) e (k.party_records p x at).stage)

    by_stage : (s : Stage K V F) → x.party_state.stage ≡ s → (l : Label K V F) (c : PartyState K V F) (b : ControlState) (t : Tables K V) → StageStep cmp gives p s x.party_state w.control_state w.tables l c b t → StepOf cmp hash gives w p x b t c l
    by_stage (AtSweep u) e l c b t h = sweeps u e u.stage refl l c b t h
    by_stage (AtDone r) e l c b t (g, y, z, u) = rw (g, y, z, u) (closes p x at r e)
    by_stage AtTaken e l c b t (g, y, z, u) = rw (g, y, z, u) (finished p x at AtTaken e refl refl x.party_state refl refl (ap mode_of_stage e) (ap held_of_stage e) (subst (FollowsStage hash x.call) (sym e) tt))
    by_stage s e l c b t h = goes_by p x at (single_at e tt) (no_walk_at e tt) l c b t h

    -- each step of a party is a transition of the machine
    pub one_line : (l : Label K V F) (c : PartyState K V F) (b : ControlState) (t : Tables K V) → StageStep cmp gives p x.party_state.stage x.party_state w.control_state w.tables l c b t → DoesTransition cmp hash gives w p (with_step w p x b t c l)
    one_line l c b t h = does_one cmp hash gives w p x b t c l (by_stage x.party_state.stage refl l c b t h)

    -- and keeps the world
    pub stepped : (l : Label K V F) (c : PartyState K V F) (b : ControlState) (t : Tables K V) → StageStep cmp gives p x.party_state.stage x.party_state w.control_state w.tables l c b t → IsWorld cmp hash gives (with_step w p x b t c l)
    stepped l c b t h = kept cmp hash gives total lawful w p x b t c l k at (by_stage x.party_state.stage refl l c b t h)
