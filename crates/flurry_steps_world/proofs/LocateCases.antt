-- Steps at the control that ask for the published table, or make the first one.
use Rattle.std.specs.Prelude.{ℕ, ◌^◌, ◌≤◌, ◌==◌, ◌&&◌, nat_lt, Bool, true, false, List, [], ◌∷◌, slice_get, Option, Some, None, MatchOption, if◌then◌else◌, ◌≡◌}
use Rattle.std.specs.declared.cmp.Ordering.{Ordering}
use Rattle.std.specs.Cmp.{IsTotalOrder}
use Rattle.std.proofs.Common.{arith, refl, sym, ◌∙◌, ap, subst}
use Rattle.flurry_bins_slots.specs.Slot as slots
use Rattle.flurry_bins_slots.specs.Slot.{IsLive}
use Rattle.std.proofs.lemmas.List.{set-get_or}
use Rattle.flurry_steps_control.specs.Control.{ControlState, after_open, GrowthIsIn}
use Rattle.flurry_steps_sweep.specs.Outcome.{OutcomeReply, OutcomeRefused}
use Rattle.flurry_steps_stages.specs.Stage.{Task, Finds, Removes, RemovesSeen, Inserts, Adds, Computes, Alters, ForReserve, Stage, AtLocate, AtBin, AtGrow, AtReserve, AtDone, reply_for, task_of_call}
use Rattle.flurry_steps.specs.Party.{PartyState}
use Rattle.flurry_steps.specs.PartyControl.{OpensFor, LocatesNone, MakesFor, ReservesFor}
use Rattle.flurry_steps_sweep.specs.declared.step.Event.{Event}
use Rattle.flurry_steps_sweep.specs.declared.step.Event.TheVariants as event
use Rattle.flurry_steps_theory.specs.Map.{same}
use Rattle.flurry_steps_theory.specs.Trace.{published_in}
use Rattle.flurry_steps_theory.specs.Machine.{Locating, Done, Live, Finds as FindsTable, Opens, IsRefused, DecidesEmpty, MayOpen, RefusedAt, mode_at_table}
use Rattle.flurry_base.specs.declared.call.Call.TheVariants as call
use Rattle.flurry_steps_theory.specs.declared.Label.{Label}
use Rattle.flurry_steps_theory.specs.declared.Label.TheVariants as label
use Rattle.flurry_steps_world.specs.Entries.{slot_of, IsHashed}
use Rattle.flurry_steps_world.specs.Tables.{Tables, content_at, is_made, fresh, with_table, MadeGives, PlaceGives}
use Rattle.flurry_steps_world.specs.World.{PartyRecord, WorldState, state_of, mode_of_stage, FollowsStage, IsWorld, history}
use Rattle.flurry_steps_world.specs.Steps.{label_of}
use Rattle.flurry_steps_world.proofs.StateLaws.{held_of_stage}
use Rattle.flurry_steps_world.proofs.CallLaws.{AddsNothing, empty_reply, found_task, key_of_task, opens_first, empty_allowed}
use Rattle.flurry_steps_world.proofs.TransitionLaws.{is_finds, is_opened, is_refused, is_decided_empty}
use Rattle.flurry_steps_world.proofs.PlaceLaws.{same_live, refused_place}
use Rattle.flurry_steps_world.proofs.TableLaws.{content_at-made, AreTables-placed}
use Rattle.flurry_steps_world.proofs.Frames.{same_growth, same_frame, running_on, over_on, IsStep}
use Rattle.flurry_steps_world.proofs.Cases.{calls, in_mode, in_claim, settled}
use Rattle.flurry_base.specs.declared.sizes.TheConstants.{MAX_TABLE}
use Rattle.flurry_base.specs.declared.verdict.Verdict.{Verdict}

-- a trace that publishes nothing began with nothing
none_first : {K V F : Type 0} (first : Option ℕ) (t : List (Label K V F)) → published_in first t ≡ None → first ≡ None
none_first first [] h = h
none_first first (label.Opened e ∷ t) h = cc
none_first first (label.Published e ∷ t) h = cc
none_first first (l ∷ t) h = none_first first t h

-- without a table there is no growth
idle_without : (p : Option ℕ) (g : Option ℕ) → p ≡ None → GrowthIsIn p g → g ≡ None
idle_without None None h i = refl
idle_without None (Some e) h i = let no : None ≡ Some e = i.0 in cc
idle_without (Some e) g h i = cc

module _ {K V F S : Type 0} (cmp : K → K → Ordering) (total : IsTotalOrder cmp) (hash : K → ℕ) (lawful : (j k : K) → same cmp j k ≡ true → hash j ≡ hash k) (gives : F → K → Option V → Verdict V → Type 0) (w : WorldState K V F S) (k : IsWorld cmp hash gives w) (p : ℕ) (x : PartyRecord K V F) (at : slice_get w.party_records p ≡ Some x) (c : PartyState K V F) where
  -- a party that locates goes on at the published table
  pub finds : (s : Stage K V F) (e : ℕ) → x.party_state.stage ≡ s → mode_of_stage s ≡ Locating → held_of_stage s ≡ (None, None) → w.control_state.published ≡ Some e → mode_of_stage c.stage ≡ mode_at_table e x.call → held_of_stage c.stage ≡ (None, None) → FollowsStage hash x.call c.stage
      → IsStep cmp hash gives w p x w.control_state w.tables c (label.Silent p)
  finds s e f locating none there mode claim follows = record {
    transition = FindsTable e;
    can = (x.call, calls cmp total hash lawful gives w k p x at c, in_mode cmp total hash lawful gives w k p x at c s f ∙ locating, ((k.state.1.tables.from e there).0, e, there, omega arith));
    is = is_finds cmp hash gives w p x at c e mode (claim ∙ sym (ap held_of_stage f ∙ none));
    follows = follows;
    frame = same_frame cmp hash gives w k;
  }

  -- or makes the first one
  opens : (s : Stage K V F) (e : ℕ) (t : Tables K V) → x.party_state.stage ≡ s → mode_of_stage s ≡ Locating → held_of_stage s ≡ (None, None) → w.control_state.published ≡ None → e ≤ MAX_TABLE → MayOpen x.call e → PlaceGives w.tables e None true t
      → mode_of_stage c.stage ≡ mode_at_table e x.call → held_of_stage c.stage ≡ (None, None) → FollowsStage hash x.call c.stage → IsStep cmp hash gives w p x (after_open e w.control_state) t c (label.Opened e)
  opens s e t f locating none bare le may gives_table mode claim follows = record {
    transition = Opens e;
    can = (x.call, calls cmp total hash lawful gives w k p x at c, in_mode cmp total hash lawful gives w k p x at c s f ∙ locating, bare, may);
    is = is_opened cmp hash gives w p x at c e t first (same_growth w.control_state.growth w.tables t boards) filled mode (claim ∙ sym (ap held_of_stage f ∙ none));
    follows = follows;
    frame = record {
      hashed = λ d i l h. hashed_in d i l (e == d && nat_lt i (2 ^ e)) (sym (contents d i) ∙ h);
      control_state = record { published = le; growth = subst (GrowthIsIn (Some e)) (sym (idle_without w.control_state.published w.control_state.growth bare k.control_state.growth)) tt };
      tables = AreTables-placed w.tables e None true t k.tables le gives_table;
      no_table = λ h. cc;
      next = λ d h. absurd (grind (arith, h, idle_without w.control_state.published w.control_state.growth bare k.control_state.growth));
      running = running_on cmp hash gives w t k boards;
      over = over_on cmp hash gives w t k boards;
    };
  }
    where
      first : w.first ≡ None
      first = none_first w.first (history w) (k.state.1.grown.number ∙ bare)

      made : t ≡ with_table w.tables e None
      made = subst (λ b. MadeGives b w.tables e None true t) (ap is_made (k.no_table bare e)) gives_table

      boards : t.boards ≡ w.tables.boards
      boards = ap (λ u. u.boards) made ∙ set-get_or w.tables.boards e None

      contents : (d j : ℕ) → content_at t d j ≡ (if e == d && nat_lt j (2 ^ e) then fresh true else content_at w.tables d j)
      contents d j = ap (λ u. content_at u d j) made ∙ content_at-made w.tables e None k.tables le d j

      filled : (d j : ℕ) → slot_of (content_at t d j) ≡ (if e == d && nat_lt j (2 ^ e) then Live [] 0 else slot_of (content_at w.tables d j))
      filled d j = ap slot_of (contents d j) ∙ through (e == d && nat_lt j (2 ^ e))
        where
          through : (b : Bool) → slot_of (if b then fresh true else content_at w.tables d j) ≡ (if b then Live [] 0 else slot_of (content_at w.tables d j))
          through true = refl
          through false = refl

      hashed_in : (d i : ℕ) (l : slots.Live K V) (b : Bool) → (if b then fresh true else content_at w.tables d i) ≡ IsLive l → IsHashed hash l.plain_entries
      hashed_in d i l true h = subst (λ z. IsHashed hash z.plain_entries) (same_live h) tt
      hashed_in d i l false h = k.hashed d i l h

  -- or is refused it
  refused : (s : Stage K V F) (e : ℕ) → x.party_state.stage ≡ s → mode_of_stage s ≡ Locating → held_of_stage s ≡ (None, None) → w.control_state.published ≡ None → MayOpen x.call e → c.stage ≡ AtDone OutcomeRefused → IsStep cmp hash gives w p x w.control_state w.tables c (label.Refused p)
  refused s e f locating none bare may g = record {
    transition = IsRefused;
    can = (x.call, calls cmp total hash lawful gives w k p x at c, in_claim cmp total hash lawful gives w k p x at c s f ∙ ap (λ h. h.0) none, subst (RefusedAt cmp hash gives (state_of w) x.call) (sym (in_mode cmp total hash lawful gives w k p x at c s f ∙ locating)) (bare, e, may));
    is = is_refused cmp hash gives w p x at c (ap mode_of_stage g) (ap held_of_stage g ∙ sym (ap held_of_stage f ∙ none));
    follows = subst (FollowsStage hash x.call) (sym g) tt;
    frame = same_frame cmp hash gives w k;
  }

  -- or decides on the empty map
  decides_empty : (t : Task K V F) → x.party_state.stage ≡ AtLocate t → w.control_state.published ≡ None → task_of_call x.call ≡ Some t → AddsNothing t → c.stage ≡ AtDone (OutcomeReply (empty_reply t)) → IsStep cmp hash gives w p x w.control_state w.tables c (label.Decide p (empty_reply t))
  decides_empty t f bare task nothing g = record {
    transition = DecidesEmpty x.call (empty_reply t);
    can = let (adds, allowed) = empty_allowed cmp gives x.call t task nothing in (calls cmp total hash lawful gives w k p x at c, in_mode cmp total hash lawful gives w k p x at c (AtLocate t) f, bare, adds, allowed);
    is = is_decided_empty cmp hash gives w p x at c x.call (empty_reply t) (ap mode_of_stage g) (ap held_of_stage g ∙ sym (ap held_of_stage f));
    follows = subst (FollowsStage hash x.call) (sym g) (key_of_task x.call t task);
    frame = same_frame cmp hash gives w k;
  }

  module _ (ev : Event) (b : ControlState) (t' : Tables K V) where
    -- a call that may add a pair, without a table
    opens_for : (t : Task K V F) → x.party_state.stage ≡ AtLocate t → w.control_state.published ≡ None → task_of_call x.call ≡ Some t → (AddsNothing t → ⊥) → OpensFor PlaceGives x.party_state.processors x.party_state.helped t w.control_state w.tables ev c.stage b t' → IsStep cmp hash gives w p x b t' c (label_of p ev c.stage)
    opens_for t f bare task adds h = by_event ev refl h
      where
        by_event : (a : Event) → ev ≡ a → OpensFor PlaceGives x.party_state.processors x.party_state.helped t w.control_state w.tables a c.stage b t' → IsStep cmp hash gives w p x b t' c (label_of p ev c.stage)
        by_event (event.Opened e) q g =
            settled cmp total hash lawful gives w k p x at c ev (event.Opened 4) (AtBin t 4) b (after_open 4 w.control_state) t' t' (q ∙ ap event.Opened g.0) g.1 g.2 refl
            (opens (AtLocate t) 4 t' f refl refl bare (omega arith) (opens_first x.call t task adds) g.3 (ap mode_of_stage g.1 ∙ sym (found_task x.call t 4 task)) (ap held_of_stage g.1) (subst (FollowsStage hash x.call) (sym g.1) task))
        by_event event.Refused q g =
            settled cmp total hash lawful gives w k p x at c ev event.Refused (AtDone OutcomeRefused) b w.control_state t' w.tables q g.0 g.1 (refused_place w.tables 4 None t' g.2)
            (refused (AtLocate t) 4 f refl refl bare (opens_first x.call t task adds) g.0)
        by_event event.Decide q g = absurd g
        by_event (event.Placed e) q g = absurd g
        by_event (event.Moved e i) q g = absurd g
        by_event event.Read q g = absurd g
        by_event (event.Wipe _ _) q g = absurd g
        by_event (event.Published e) q g = absurd g
        by_event event.Silent q g = absurd g

    locates_none : (t : Task K V F) → x.party_state.stage ≡ AtLocate t → w.control_state.published ≡ None → task_of_call x.call ≡ Some t → LocatesNone PlaceGives x.party_state.processors x.party_state.helped t w.control_state w.tables ev c.stage b t' → IsStep cmp hash gives w p x b t' c (label_of p ev c.stage)
    locates_none (Finds y j) f bare task h = settled cmp total hash lawful gives w k p x at c ev event.Decide (AtDone (OutcomeReply (reply_for y None))) b w.control_state t' w.tables h.0 h.1 h.2 h.3 (decides_empty (Finds y j) f bare task tt h.1)
    locates_none (Removes y j) f bare task h = settled cmp total hash lawful gives w k p x at c ev event.Decide (AtDone (OutcomeReply (reply_for y None))) b w.control_state t' w.tables h.0 h.1 h.2 h.3 (decides_empty (Removes y j) f bare task tt h.1)
    locates_none (RemovesSeen z) f bare task h = settled cmp total hash lawful gives w k p x at c ev event.Decide (AtDone (OutcomeReply (empty_reply {F = F} (RemovesSeen z)))) b w.control_state t' w.tables h.0 h.1 h.2 h.3 (decides_empty (RemovesSeen z) f bare task tt h.1)
    locates_none (Inserts j v) f bare task h = opens_for (Inserts j v) f bare task (λ n. n) h
    locates_none (Adds j v) f bare task h = opens_for (Adds j v) f bare task (λ n. n) h
    locates_none (Computes j g) f bare task h = settled cmp total hash lawful gives w k p x at c ev event.Decide (AtDone (OutcomeReply (empty_reply (Computes j g)))) b w.control_state t' w.tables h.0 h.1 h.2 h.3 (decides_empty (Computes j g) f bare task tt h.1)
    locates_none (Alters j true g) f bare task h = opens_for (Alters j true g) f bare task (λ n. n) h
    locates_none (Alters j false g) f bare task h = settled cmp total hash lawful gives w k p x at c ev event.Decide (AtDone (OutcomeReply (empty_reply (Alters j false g)))) b w.control_state t' w.tables h.0 h.1 h.2 h.3 (decides_empty (Alters j false g) f bare task tt h.1)

    pub is_locating : (t : Task K V F) → x.party_state.stage ≡ AtLocate t → FollowsStage hash x.call (AtLocate t)
        → MatchOption w.control_state.published (LocatesNone PlaceGives x.party_state.processors x.party_state.helped t w.control_state w.tables ev c.stage b t') (λ e. (ev ≡ event.Silent) × (c.stage ≡ AtBin t e) × (b ≡ w.control_state) × (t' ≡ w.tables)) → IsStep cmp hash gives w p x b t' c (label_of p ev c.stage)
    is_locating t f task h = by_table w.control_state.published refl h
      where
        by_table : (o : Option ℕ) → w.control_state.published ≡ o → MatchOption o (LocatesNone PlaceGives x.party_state.processors x.party_state.helped t w.control_state w.tables ev c.stage b t') (λ e. (ev ≡ event.Silent) × (c.stage ≡ AtBin t e) × (b ≡ w.control_state) × (t' ≡ w.tables)) → IsStep cmp hash gives w p x b t' c (label_of p ev c.stage)
        by_table None q g = locates_none t f q task g
        by_table (Some e) q g =
            settled cmp total hash lawful gives w k p x at c ev event.Silent (AtBin t e) b w.control_state t' w.tables g.0 g.1 g.2 g.3
            (finds (AtLocate t) e f refl refl q (ap mode_of_stage g.1 ∙ sym (found_task x.call t e task)) (ap held_of_stage g.1) (subst (FollowsStage hash x.call) (sym g.1) task))

    -- a reserve
    pub reserves : (a n : ℕ) → x.party_state.stage ≡ AtReserve a → x.call ≡ call.Reserve a → n ≤ MAX_TABLE → ReservesFor PlaceGives x.party_state.processors x.party_state.helped n w.control_state w.tables ev c.stage b t' → IsStep cmp hash gives w p x b t' c (label_of p ev c.stage)
    reserves a n f is le h = by_table w.control_state.published refl h
      where
        at_found : (e : ℕ) → Done None 0 0 ≡ mode_at_table e x.call
        at_found e = ap (mode_at_table e) (sym is)

        may : MayOpen x.call n
        may = subst (λ z. MayOpen z n) (sym is) le

        makes : w.control_state.published ≡ None → (o : Event) → ev ≡ o → MakesFor PlaceGives x.party_state.processors x.party_state.helped n w.control_state w.tables o c.stage b t' → IsStep cmp hash gives w p x b t' c (label_of p ev c.stage)
        makes bare (event.Opened e) q g =
            settled cmp total hash lawful gives w k p x at c ev (event.Opened n) (AtGrow n ForReserve) b (after_open n w.control_state) t' t' (q ∙ ap event.Opened g.0) g.1 g.2 refl
            (opens (AtReserve a) n t' f refl refl bare le may g.3 (ap mode_of_stage g.1 ∙ at_found n) (ap held_of_stage g.1) (subst (FollowsStage hash x.call) (sym g.1) (a, is)))
        makes bare event.Refused q g =
            settled cmp total hash lawful gives w k p x at c ev event.Refused (AtDone OutcomeRefused) b w.control_state t' w.tables q g.0 g.1 (refused_place w.tables n None t' g.2)
            (refused (AtReserve a) n f refl refl bare may g.0)
        makes bare event.Decide q g = absurd g
        makes bare (event.Placed e) q g = absurd g
        makes bare (event.Moved e i) q g = absurd g
        makes bare event.Read q g = absurd g
        makes bare (event.Wipe _ _) q g = absurd g
        makes bare (event.Published e) q g = absurd g
        makes bare event.Silent q g = absurd g

        by_table : (o : Option ℕ) → w.control_state.published ≡ o → MatchOption o (MakesFor PlaceGives x.party_state.processors x.party_state.helped n w.control_state w.tables ev c.stage b t') (λ e. (ev ≡ event.Silent) × (c.stage ≡ AtGrow n ForReserve) × (b ≡ w.control_state) × (t' ≡ w.tables)) → IsStep cmp hash gives w p x b t' c (label_of p ev c.stage)
        by_table None q g = makes q ev refl g
        by_table (Some e) q g =
            settled cmp total hash lawful gives w k p x at c ev event.Silent (AtGrow n ForReserve) b w.control_state t' w.tables g.0 g.1 g.2 g.3
            (finds (AtReserve a) e f refl refl q (ap mode_of_stage g.1 ∙ at_found e) (ap held_of_stage g.1) (subst (FollowsStage hash x.call) (sym g.1) (a, is)))
