-- A call that is driven, as one more caller of a world.
use Rattle.std.specs.Prelude.{◌≡◌, ◌⊎◌, ℕ, suc, ◌+◌, ◌^◌, ◌≤◌, Bool, true, false, cond, [], ◌∷◌, ◌++◌, length, reverse, slice_get, Option, Some, None, is_some, ⊤}
use Rattle.std.specs.declared.cmp.Ordering.{Ordering}
use Rattle.std.specs.Cmp.{IsTotalOrder}
use Rattle.std.proofs.Common.{arith, refl, sym, ◌∙◌, ap, subst, inl, inr}
use Rattle.std.proofs.lemmas.Int.{ints}
use Rattle.std.proofs.lemmas.List.{reverse-append}
use Rattle.std.proofs.lemmas.Option.{slice_get_within}
use Rattle.flurry_steps_control.specs.Control.{ControlState}
use Rattle.flurry_steps_sweep.specs.Outcome.{OutcomeReply, OutcomeEnded, OutcomeRefused, Outcome}
use Rattle.flurry_steps_stages.specs.Stage.{Stage, AtLocate, AtBin, AtHelp, AtUncount, AtCount, AtRecount, AtBegin, AtGrow, AtReserve, AtSweep, IsSingle, final_outcome, AtDone, AtTaken, published_stage, is_locating, outcome_in, last_seen, task_of_call, stage_of_call}
use Rattle.flurry_steps.specs.Party.{PartyState, wanted_part, with_stage}
use Rattle.flurry_steps_sweep.specs.declared.step.Event.{Event}
use Rattle.flurry_steps_sweep.specs.declared.step.Event.TheVariants as event
use Rattle.flurry_steps_sweep.specs.Sweep.{SweepKind, Reads, Wipes}
use Rattle.flurry_base.specs.declared.call.Seen.{Seen}
use Rattle.flurry_base.specs.declared.reply.KeptReply.{KeptReply}
use Rattle.flurry_steps_theory.specs.Map.{Pairs, same, after, Allows, CanBeRefused}
use Rattle.flurry_steps_theory.specs.Machine.{Mode, Done, Finished, Finds}
use Rattle.flurry_steps_theory.specs.Trace.{decision, has_replied, has_closed, pairs}
use Rattle.flurry_steps_theory.specs.Legal.{EachMay, CallMay}
use Rattle.flurry_steps_theory.specs.Invariant.{IsParty, one_key}
use Rattle.flurry_base.specs.declared.call.Call.{Call}
use Rattle.flurry_base.specs.declared.call.Call.TheVariants as call
use Rattle.flurry_steps_world.specs.Tables.{Tables, PlaceGives}
use Rattle.flurry_steps_world.specs.Parts.{PartStep}
use Rattle.flurry_steps_world.specs.World.{PartyRecord, WorldState, Near, state_of, mode_of_stage, FollowsKind, FollowsStage, IsWorld, history}
use Rattle.flurry_steps_world.specs.Steps.{with_step, with_party_record, label_of, decide_label}
use Rattle.flurry_steps_world.proofs.StateLaws.{held_of_stage, get_set}
use Rattle.flurry_steps_world.proofs.CallLaws.{found_task}
use Rattle.flurry_steps_world.proofs.TransitionLaws.{is_finds}
use Rattle.flurry_steps_world.proofs.Frames.{same_frame, step_of, kept, IsStep}
use Rattle.flurry_steps_world.proofs.Cases.{calls, in_mode}
use Rattle.flurry_steps_world.proofs.WorldLaws.{goes_on}
use Rattle.flurry_steps.proofs.Events.{IsSweepEvent, single_at_control, single_at_slot, single_at_move, single_at_board}
use Rattle.flurry_steps_sweep.specs.Part.{Part, ControlPart, LookPart, BinPart, MovePart, SeatPart, BoardPart, GivePart, NoPart}
use Rattle.flurry_steps_world.specs.Parts.{Parts, PartStep, IsPublishedTable}
use Rattle.flurry_steps_drive.specs.Exact.{Holds, OutcomeAnswers, EndsOn, IsFresh, most_counted}
use Rattle.flurry_steps_drive.proofs.Begins.{was_published, begun}
use Rattle.flurry_steps_drive.proofs.Trace.{IsOwnLabel, ByEnd, Alone, alone_more, alone_began, itself}
use Rattle.flurry_steps_drive.proofs.CountLaws.{left, left_most, Room, near_of, room_left}
use Rattle.flurry_base.specs.declared.sizes.TheConstants.{MAX_LABELS}
use Rattle.flurry_base.specs.declared.verdict.Verdict.{Verdict}

-- the call does not go over all bins
abbrev pub IsPlain : {K V F : Type 0} → Call K V F → Type 0
IsPlain call.Clear = ⊥
IsPlain call.Walk = ⊥
IsPlain d = ⊤

-- a stage of such a call does not go over all bins either
errand_plain : {K V F : Type 0} (d : Call K V F) (w : SweepKind) (z : Option (Seen K V)) → IsPlain d → FollowsKind d w z → ⊥
errand_plain d Reads z plain f = subst IsPlain f plain
errand_plain d (Wipes n) z plain f = subst IsPlain f.0 plain

follows_single : {K V F : Type 0} (hash : K → ℕ) (d : Call K V F) (s : Stage K V F) → IsPlain d → FollowsStage hash d s → IsSingle s
follows_single hash d (AtSweep w) plain h = errand_plain d w.kind w.last plain h.0
follows_single hash d s plain h = tt

-- so its step at a part reads and wipes nothing
module _ {K V F : Type 0} (cmp : K → K → Ordering) (changes : F → K → Option V → Verdict V → Type 0) (c : PartyState K V F) (b : ControlState) (t : Tables K V) (ev : Event) (c' : PartyState K V F) (b' : ControlState) (t' : Tables K V) (single : IsSingle c.stage) where
  single_part : (a : Part) → PartStep cmp changes a c b t ev c' b' t' → IsSweepEvent ev → ⊥
  single_part ControlPart h = single_at_control PlaceGives c.processors c.helped b t ev c'.stage b' t' c.stage single h.step
  single_part (LookPart e i) (q, there, inside, h, y, z) = single_at_slot cmp changes c.hash ev c'.stage q.content c.stage q.content single h.step
  single_part (BinPart e i) (q, q', there, inside, h, y, z) = single_at_slot cmp changes c.hash ev c'.stage q'.content c.stage q.content single h.step
  single_part (MovePart e i) (q, low, high, q', low', high', old_at, low_at, high_at, inside, h, y, z) = single_at_move c q low high ev c' q' low' high' h.step
  single_part (SeatPart e) (x, h, gives, y) = single_at_board c x ev c' h
  single_part (BoardPart e) (x, h, gives, y) = single_at_board c x ev c' h
  single_part (GivePart e) (x, h, gives, y) = single_at_board c x ev c' h
  single_part NoPart h = absurd h

-- the label of a step is one that a party may have when it is alone
own_label : {K V F : Type 0} (p : ℕ) (ev : Event) (s : Stage K V F) → (IsSweepEvent ev → ⊥) → IsOwnLabel p (label_of p ev s)
own_label {K} {V} {F} p event.Decide s other = decided (outcome_in s)
  where
    decided : (o : Option (Outcome K V)) → IsOwnLabel {F = F} p (decide_label p o)
    decided None = tt
    decided (Some (OutcomeReply r)) = refl
    decided (Some OutcomeEnded) = tt
    decided (Some OutcomeRefused) = tt
own_label p event.Read s other = absurd (other tt)
own_label p (event.Wipe e i) s other = absurd (other tt)
own_label p event.Refused s other = refl
own_label p ev s other = tt

module _ {K V F : Type 0} (cmp : K → K → Ordering) (total : IsTotalOrder cmp) (hash : K → ℕ) (lawful : (j k : K) → same cmp j k ≡ true → hash j ≡ hash k) (gives : F → K → Option V → Verdict V → Type 0) (n : ℕ) (few : n ≤ MAX_LABELS) (p : ℕ) (d : Call K V F) (m : Pairs K V) where
  -- the parts s are those of a world, in which party p is a caller with the call d, which began on the map m, was alone since, and
  -- stands at c
  pub record InWorld (s : Parts K V) (c : PartyState K V F) : Type 0 where
    pub world : WorldState K V F (Unit {0})
    pub is_world : IsWorld cmp hash gives world
    pub caller : PartyRecord K V F
    pub at : slice_get world.party_records p ≡ Some caller
    pub call : caller.call ≡ d
    pub plain : IsPlain d
    pub party_state : caller.party_state ≡ c
    pub parts : record { control_state = world.control_state; tables = world.tables } ≡ s
    pub alone : Alone cmp hash gives p d m (history world)
    pub room : Room n (left c.stage) s.control_state.count

  module _ (w : WorldState K V F (Unit {0})) (k : IsWorld cmp hash gives w) (x : PartyRecord K V F) (at : slice_get w.party_records p ≡ Some x) (called : x.call ≡ d) (alone : Alone cmp hash gives p d m (history w)) (room : Room n (left x.party_state.stage) w.control_state.count) (plain : IsPlain d) where
    single : IsSingle x.party_state.stage
    single = follows_single hash x.call x.party_state.stage (subst IsPlain (sym called) plain) (k.party_records p x at).stage

    no_walk : x.call ≡ call.Walk → ⊥
    no_walk h = subst IsPlain (sym called ∙ h) plain

    near : Near (2 ^ 62) w.control_state.count
    near = let z = near_of n (left x.party_state.stage) w.control_state.count room in record { most = omega (arith, ints, z.most, few); least = omega (arith, ints, z.least, few) }

    -- the world after a step
    stepped : (c : PartyState K V F) (b : ControlState) (t : Tables K V) (ev : Event) → (IsSweepEvent ev → ⊥) → IsWorld cmp hash gives (with_step w p x b t c (label_of p ev c.stage)) → Room n (left c.stage) b.count → InWorld (record { control_state = b; tables = t }) c
    stepped c b t ev other after counted = record {
      world = with_step w p x b t c (label_of p ev c.stage);
      is_world = after;
      caller = new;
      at = get_set w.party_records p p new (slice_get_within w.party_records p x at) ∙ ap (λ z. cond z (Some new) (slice_get w.party_records p)) (itself p);
      call = called;
      plain = plain;
      party_state = refl;
      parts = refl;
      alone = subst (Alone cmp hash gives p d m) (sym after_field_step) (alone_more cmp hash gives p d m (history w) alone (label_of p ev c.stage) (own_label p ev c.stage other) may);
      room = counted;
    }
      where
        new : PartyRecord K V F
        new = record { call = x.call; began_from = x.began_from; party_state = c; steps = suc x.steps }

        after_field_step : reverse (w.trace ++ label_of p ev c.stage ∷ []) ≡ label_of p ev c.stage ∷ history w
        after_field_step = reverse-append w.trace (label_of p ev c.stage ∷ [])

        may : CallMay cmp hash gives (history w) (label_of p ev c.stage)
        may = (subst (EachMay (CallMay cmp hash gives)) after_field_step after.state.1.legal.calls).0

    -- a step at the part that the call wants
    pub part_step : (c : PartyState K V F) (b : ControlState) (t : Tables K V) (ev : Event) → PartStep cmp gives (wanted_part x.party_state) x.party_state w.control_state w.tables ev c b t → InWorld (record { control_state = b; tables = t }) c
    part_step c b t ev h = stepped c b t ev (single_part cmp gives x.party_state w.control_state w.tables ev c b t single (wanted_part x.party_state) h)
        (goes_on cmp total hash lawful gives w k near p x at single no_walk (label_of p ev c.stage) c b t (record { event = ev; part = h; label_is = refl }))
        (room_left cmp gives n few x.party_state w.control_state w.tables ev c b t room single (wanted_part x.party_state) h)

    -- a step at a number that was published
    pub start_step : (e : ℕ) (c : PartyState K V F) (ev : Event) → is_locating x.party_state.stage ≡ true → IsPublishedTable (record { control_state = w.control_state; tables = w.tables }) e → ev ≡ event.Silent → c ≡ with_stage x.party_state (published_stage e x.party_state.stage) → InWorld (record { control_state = w.control_state; tables = w.tables }) c
    start_step e c ev loc start silent is = by_stage x.party_state.stage refl
      where
        not_there : is_locating x.party_state.stage ≡ false → ⊥
        not_there h = let no : true ≡ false = sym loc ∙ h in cc

        by_stage : (s : Stage K V F) → x.party_state.stage ≡ s → InWorld (record { control_state = w.control_state; tables = w.tables }) c
        by_stage (AtLocate t) f = stepped c w.control_state w.tables ev (λ u. subst IsSweepEvent silent u)
            (kept cmp hash gives total lawful w p x w.control_state w.tables c (label_of p ev c.stage) k at (step_of cmp hash gives w p x w.control_state w.tables c (label_of p ev c.stage) at (ap (λ r. r.hash) is) (ap last_seen stands ∙ sym (ap last_seen f))
            (subst (λ v. IsStep cmp hash gives w p x w.control_state w.tables c (label_of p v c.stage)) (sym silent) (record {
              transition = Finds e;
              can = (x.call, calls cmp total hash lawful gives w k p x at c, in_mode cmp total hash lawful gives w k p x at c (AtLocate t) f, was_published cmp hash gives w k e start);
              is = is_finds cmp hash gives w p x at c e (ap mode_of_stage stands ∙ sym (found_task x.call t e follows)) (ap held_of_stage stands ∙ sym (ap held_of_stage f));
              follows = subst (FollowsStage hash x.call) (sym stands) follows;
              frame = same_frame cmp hash gives w k;
            }))))
            (subst (λ l. Room n l w.control_state.count) (ap left f ∙ sym (ap left stands)) room)
          where
            follows : task_of_call x.call ≡ Some t
            follows = subst (FollowsStage hash x.call) f (k.party_records p x at).stage

            stands : c.stage ≡ AtBin t e
            stands = ap (λ r. r.stage) is ∙ ap (published_stage e) f
        by_stage (AtBin t g) f = absurd (not_there (ap is_locating f))
        by_stage (AtHelp r a) f = absurd (not_there (ap is_locating f))
        by_stage (AtUncount r) f = absurd (not_there (ap is_locating f))
        by_stage (AtCount r) f = absurd (not_there (ap is_locating f))
        by_stage (AtRecount r) f = absurd (not_there (ap is_locating f))
        by_stage (AtBegin g r) f = absurd (not_there (ap is_locating f))
        by_stage (AtGrow g r) f = absurd (not_there (ap is_locating f))
        by_stage (AtReserve a) f = absurd (not_there (ap is_locating f))
        by_stage (AtSweep z) f = absurd (subst IsSingle f single)
        by_stage (AtDone r) f = absurd (not_there (ap is_locating f))
        by_stage AtTaken f = absurd (not_there (ap is_locating f))

    -- the call is done
    pub ended : (r : Outcome K V) → final_outcome x.party_state.stage ≡ Some r → (m' : Pairs K V) × OutcomeAnswers cmp hash gives d m r m' × Holds cmp hash gives n (record { control_state = w.control_state; tables = w.tables }) m'
    ended r f = (
      pairs cmp hash (history w),
      answers r (done x.party_state.stage refl f),
      record {
        world = w;
        is_world = k;
        control_state = refl;
        tables = refl;
        map = refl;
        near = near_of n (left x.party_state.stage) w.control_state.count room;
      },
    )
      where
        ok : IsParty (state_of w) p
        ok = k.state.1.parties p

        done : (s : Stage K V F) → x.party_state.stage ≡ s → final_outcome s ≡ Some r → x.party_state.stage ≡ AtDone r
        done (AtSweep z) e h = absurd (subst IsSingle e single)
        done (AtDone q) e h = let one : q ≡ r = cc in e ∙ ap AtDone one
        done s e h = cc

        mode : (q : Outcome K V) → x.party_state.stage ≡ AtDone q → (state_of w).mode p ≡ mode_of_stage {F = F} (AtDone q)
        mode q e = in_mode cmp total hash lawful gives w k p x at x.party_state (AtDone q) e

        answers : (q : Outcome K V) → x.party_state.stage ≡ AtDone q → OutcomeAnswers cmp hash gives d m q (pairs cmp hash (history w))
        answers (OutcomeReply q) e = subst (λ o. ByEnd cmp hash gives p d m o (has_closed (history w) p) (pairs cmp hash (history w))) (ok.decided q 0 0 (mode (OutcomeReply q) e)) alone.end
        answers OutcomeEnded e =
            let none : decision (history w) p ≡ None = ok.no_decision (λ z a b h. other (sym (mode OutcomeEnded e) ∙ h)) (λ h. going (sym (mode OutcomeEnded e) ∙ h)) in
            let open_yet : has_closed (history w) p ≡ false = (ok.going (λ h. going (sym (mode OutcomeEnded e) ∙ h))).1 in
            let (a, is) = subst (FollowsStage hash x.call) e (k.party_records p x at).stage in
            subst (λ c. EndsOn c m (pairs cmp hash (history w))) (sym is ∙ called) (subst (λ b. ByEnd cmp hash gives p d m None b (pairs cmp hash (history w))) open_yet (subst (λ o. ByEnd cmp hash gives p d m o (has_closed (history w) p) (pairs cmp hash (history w))) none alone.end))
          where
            other : {z : KeptReply K V} {a b : ℕ} → Done None 0 0 ≡ Done (Some z) a b → ⊥
            other h = cc

            going : ◌≡◌ {A = Mode K V} (Done None 0 0) Finished → ⊥
            going h = cc
        answers OutcomeRefused e = by_end (decision (history w) p) refl (has_closed (history w) p) refl
          where
            finished : (has_replied (history w) p ≡ true) ⊎ (has_closed (history w) p ≡ true)
            finished = ok.end_label (mode OutcomeRefused e) (ap is_some (calls cmp total hash lawful gives w k p x at x.party_state))

            not_both : {b : Bool} → b ≡ true → b ≡ false → ⊥
            not_both h g = let no : true ≡ false = sym h ∙ g in cc

            refused : has_closed (history w) p ≡ true
            refused = by_case finished
              where
                by_case : (has_replied (history w) p ≡ true) ⊎ (has_closed (history w) p ≡ true) → has_closed (history w) p ≡ true
                by_case (inl h) = absurd (not_both h alone.open_yet)
                by_case (inr h) = h

            no_reply : (c : Call K V F) (q : KeptReply K V) (l : Pairs K V) → one_key (Some c) ≡ false → Allows cmp gives c l q → ⊥
            no_reply (call.Get j) q l h a = cc
            no_reply (call.GetKeyValue j) q l h a = cc
            no_reply (call.ContainsKey j) q l h a = cc
            no_reply (call.Insert j v) q l h a = cc
            no_reply (call.TryInsert j v) q l h a = cc
            no_reply (call.Compute j g) q l h a = cc
            no_reply (call.Alter j may_add g) q l h a = cc
            no_reply (call.Remove j) q l h a = cc
            no_reply (call.RemoveEntry j) q l h a = cc
            no_reply (call.RemoveSeen z) q l h a = cc
            no_reply (call.Reserve z) q l h a = absurd a
            no_reply call.Clear q l h a = absurd a
            no_reply call.Walk q l h a = absurd a

            by_end : (o : Option (KeptReply K V)) → decision (history w) p ≡ o → (b : Bool) → has_closed (history w) p ≡ b → CanBeRefused cmp gives d m × (pairs cmp hash (history w) ≡ m)
            by_end None e true f = subst (λ b. ByEnd cmp hash gives p d m None b (pairs cmp hash (history w))) f (subst (λ o. ByEnd cmp hash gives p d m o (has_closed (history w) p) (pairs cmp hash (history w))) e alone.end)
            by_end None e false f = absurd (not_both refused f)
            by_end (Some q) e b f = absurd (by_kind (one_key (Some d)) refl)
              where
                allowed : Allows cmp gives d m q
                allowed = (subst (λ o. ByEnd cmp hash gives p d m o (has_closed (history w) p) (pairs cmp hash (history w))) e alone.end).0

                by_kind : (b : Bool) → one_key (Some d) ≡ b → ⊥
                by_kind true h = let none : decision (history w) p ≡ None = ok.refused refused (ap one_key (calls cmp total hash lawful gives w k p x at x.party_state) ∙ ap (λ z. one_key (Some z)) called ∙ h) in let no : Some q ≡ None = sym e ∙ none in cc
                by_kind false h = no_reply d q m h allowed

module _ {K V F : Type 0} where
  -- it counts what it has left to count, at most
  first_left : (d : Call K V F) (m : Pairs K V) (s : Stage K V F) → IsPlain d → s ≡ stage_of_call d → left s ≤ most_counted d m
  first_left (call.Reserve a) m s plain h = omega (arith, ap left h)
  first_left call.Clear m s plain h = absurd plain
  first_left call.Walk m s plain h = absurd plain
  first_left d m s plain h = left_most s

module _ {K V F : Type 0} (cmp : K → K → Ordering) (total : IsTotalOrder cmp) (hash : K → ℕ) (lawful : (j k : K) → same cmp j k ≡ true → hash j ≡ hash k) (gives : F → K → Option V → Verdict V → Type 0) where
  -- it begins as one more caller of the world
  pub begins : (n : ℕ) (d : Call K V F) (m : Pairs K V) (few : n + most_counted d m ≤ MAX_LABELS) (s : Parts K V) (h : Holds cmp hash gives n s m) (q : PartyState K V F) → IsFresh cmp hash gives d q → IsPlain d → InWorld cmp total hash lawful gives (n + most_counted d m) few (length h.world.party_records) d m s q
  begins n d m few s h q fresh plain =
      let b = begun cmp hash gives total lawful n (omega (arith, few)) m s h d q fresh in
      let more = first_left d m q.stage plain fresh.stage in
      record {
        world = with_party_record h.world d None q;
        is_world = b.is_world;
        caller = record { call = d; began_from = None; party_state = q; steps = 0 };
        at = b.at;
        call = refl;
        plain = plain;
        party_state = refl;
        parts = b.parts;
        alone = subst (Alone cmp hash gives (length h.world.party_records) d m) (sym b.trace) (alone_began cmp hash gives (length h.world.party_records) d m (history h.world) b.unreplied b.no_decision b.going h.map);
        room = record { most = omega (arith, ints, h.near.most, more); least = omega (arith, ints, h.near.least, more) };
      }
