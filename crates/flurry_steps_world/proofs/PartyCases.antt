-- Each step of a party at the part that it wants is a transition of the machine, where its call does not go over all bins.
use Rattle.std.specs.Prelude.{ℕ, ◌^◌, ◌%◌, ◌==◌, ◌&&◌, Bool, true, false, slice_get, Option, Some, None, is_some, if◌then◌else◌, ◌≡◌}
use Rattle.std.specs.declared.cmp.Ordering.{Ordering}
use Rattle.std.specs.Cmp.{IsTotalOrder}
use Rattle.std.proofs.Common.{refl, sym, ap, subst, inl, inr}
use Rattle.std.proofs.lemmas.Bool.{eqb-true, and_parts}
use Rattle.flurry_bins_slots.specs.Slot.{SlotState, IsSlot, IsContent}
use Rattle.flurry_steps_control.specs.Claim.{ClaimState, next_of}
use Rattle.flurry_steps_control.specs.Control.{ControlState}
use Rattle.flurry_steps_sweep.specs.Part.{ControlPart, LookPart, BinPart}
use Rattle.flurry_steps_stages.specs.Help.{Help, WantsSeat, AtBoard, Moving, Publishing, GivesBack, move_part, helped_table}
use Rattle.flurry_steps_stages.specs.Stage.{Task, Finds, Removes, RemovesSeen, Inserts, Adds, Computes, Alters, Resume, Stage, AtLocate, AtBin, AtHelp, AtUncount, AtCount, AtRecount, AtBegin, AtGrow, AtReserve, AtSweep, AtDone, AtTaken, part_of, IsSingle}
use Rattle.flurry_steps.specs.Party.{PartyState, wanted_part}
use Rattle.flurry_steps.specs.PartyControl.{StageAtControl, ControlStep}
use Rattle.flurry_steps.specs.PartySlots.{SlotStep, MoveGives, StageAtSlot}
use Rattle.flurry_steps_sweep.specs.declared.step.Event.{Event}
use Rattle.flurry_steps_sweep.specs.declared.step.Event.TheVariants as event
use Rattle.flurry_steps_theory.specs.Map.{same}
use Rattle.flurry_steps_world.specs.Tables.{Tables, AreTables, place_at, content_at, put_place, PlaceGives}
use Rattle.flurry_steps_world.specs.Parts.{AtBoardOf, PartStep}
use Rattle.flurry_steps_world.specs.World.{PartyRecord, WorldState, Near, FollowsStage, IsWorld}
use Rattle.flurry_steps_world.specs.Steps.{label_of}
use Rattle.flurry_steps_world.proofs.TableLaws.{content_of_place, AreTables-put, length_of_put_slots}
use Rattle.flurry_steps_world.proofs.HomeLaws.{put_content}
use Rattle.flurry_steps_world.proofs.Frames.{IsStep}
use Rattle.flurry_steps_world.proofs.LocateCases.{is_locating, reserves}
use Rattle.flurry_steps_world.proofs.CountCases.{uncounts, counts_one, recounts, begins, grows}
use Rattle.flurry_steps_world.proofs.ClaimCases.{helps_at, publishes}
use Rattle.flurry_steps_world.proofs.SlotCases.{Put, at_bin_step}
use Rattle.flurry_steps_world.proofs.MoveCases.{at_move, no_slots}
use Rattle.flurry_base.specs.declared.verdict.Verdict.{Verdict}

module _ {K V : Type 0} where
  -- tables with the same content at a slot
  pub put_same : (t : Tables K V) (e i : ℕ) (q : SlotState K V) → AreTables t → place_at t e i ≡ Some q → Put t e i q.content t
  put_same t e i q are at = record { contents = λ d j. by_place d j (e == d && i == j) refl; tables = are; boards = refl; made = λ d h. h; no_table = λ d h. h }
    where
      by_place : (d j : ℕ) (b : Bool) → (e == d && i == j) ≡ b → content_at t d j ≡ (if b then q.content else content_at t d j)
      by_place d j true h = let here = and_parts (e == d) (i == j) h in subst (λ n. content_at t n j ≡ q.content) (eqb-true e d here.0) (subst (λ n. content_at t e n ≡ q.content) (eqb-true i j here.1) (content_of_place t e i q at))
      by_place d j false h = refl

  -- tables with another slot
  pub put_other : (t : Tables K V) (e i : ℕ) (q q' : SlotState K V) → AreTables t → place_at t e i ≡ Some q → q'.table ≡ q.table → q'.index ≡ q.index → Put t e i q'.content (put_place t e i q')
  put_other t e i q q' are at table index = record {
    contents = put_content t e i q' (ap is_some at);
    tables = AreTables-put t e i q' q are at table index;
    boards = refl;
    made = λ d h. no_slots _ _ (length_of_put_slots t e i q' d) h;
    no_table = λ d h. no_slots _ _ (sym (length_of_put_slots t e i q' d)) h;
  }

module _ {K V F S : Type 0} (cmp : K → K → Ordering) (total : IsTotalOrder cmp) (hash : K → ℕ) (lawful : (j k : K) → same cmp j k ≡ true → hash j ≡ hash k) (gives : F → K → Option V → Verdict V → Type 0) (w : WorldState K V F S) (k : IsWorld cmp hash gives w) (near : Near (2 ^ 62) w.control_state.count) (p : ℕ) (x : PartyRecord K V F) (at : slice_get w.party_records p ≡ Some x) (c : PartyState K V F) (ev : Event) (b : ControlState) (t' : Tables K V) where
  -- the step, and that the hash stays
  pub record Taken : Type 0 where
    pub hash_stays : c.hash ≡ x.party_state.hash
    pub step : IsStep cmp hash gives w p x b t' c (label_of p ev c.stage)

  follows : FollowsStage hash x.call x.party_state.stage
  follows = (k.party_records p x at).stage

  at_control : (s : Stage K V F) → x.party_state.stage ≡ s → IsSingle s → part_of x.party_state.hash s ≡ ControlPart → StageAtControl PlaceGives x.party_state.processors x.party_state.helped s w.control_state w.tables ev c.stage b t' → IsStep cmp hash gives w p x b t' c (label_of p ev c.stage)
  at_control (AtLocate t) e single q h = is_locating cmp total hash lawful gives w k p x at c ev b t' t e (subst (FollowsStage hash x.call) e follows) h
  at_control (AtHelp (Publishing n) a) e single q h = publishes cmp total hash lawful gives w k p x at c ev b t' n a e (subst (FollowsStage hash x.call) e follows) h
  at_control (AtUncount r) e single q h = uncounts cmp total hash lawful gives w k p x at c ev b t' r e (subst (FollowsStage hash x.call) e follows) near h
  at_control (AtCount r) e single q h = counts_one cmp total hash lawful gives w k p x at c ev b t' r e (subst (FollowsStage hash x.call) e follows) near h
  at_control (AtRecount r) e single q h = recounts cmp total hash lawful gives w k p x at c ev b t' r e (subst (FollowsStage hash x.call) e follows) near h
  at_control (AtBegin n r) e single q h = begins cmp total hash lawful gives w k p x at c ev b t' n r e (subst (FollowsStage hash x.call) e follows) h
  at_control (AtGrow n g) e single q h = grows cmp total hash lawful gives w k p x at c ev b t' n g e (subst (FollowsStage hash x.call) e follows) h
  at_control (AtReserve a) e single q (n, sized, h) = reserves cmp total hash lawful gives w k p x at c ev b t' a n e (subst (FollowsStage hash x.call) e follows) sized.within h
  at_control (AtSweep u) e single q h = absurd single
  at_control s e single q h = absurd h

  control_step : (s : Stage K V F) → x.party_state.stage ≡ s → IsSingle s → part_of x.party_state.hash s ≡ ControlPart → ControlStep PlaceGives x.party_state w.control_state w.tables ev c b t' → Taken
  control_step s e single q h = record { hash_stays = h.hash; step = at_control s e single q (subst (λ z. StageAtControl PlaceGives x.party_state.processors x.party_state.helped z w.control_state w.tables ev c.stage b t') e h.step) }

  -- at its bin, to read or to write it
  module _ (t : Task K V F) (n : ℕ) (e : x.party_state.stage ≡ AtBin t n) where
    slot_step : (q q' : SlotState K V) → place_at w.tables n (x.party_state.hash % 2 ^ n) ≡ Some q → IsSlot cmp q → SlotStep cmp gives x.party_state q ev c q' → b ≡ w.control_state → Put w.tables n (x.party_state.hash % 2 ^ n) q'.content t' → Taken
    slot_step q q' there inside h y put = record {
      hash_stays = h.hash;
      step = subst (λ z. IsStep cmp hash gives w p x z t' c (label_of p ev c.stage)) (sym y)
          (at_bin_step cmp total hash lawful gives w k p x at c t n e (subst (FollowsStage hash x.call) e follows) q (content_of_place w.tables n (x.party_state.hash % 2 ^ n) q there)
          (let is = k.tables.order n (x.party_state.hash % 2 ^ n) q there in subst (λ z. IsContent cmp z (x.party_state.hash % 2 ^ n) q.content) is.0 (subst (λ z. IsContent cmp q.table z q.content) is.1 inside.content))
          ev q'.content t' put (subst (λ z. StageAtSlot cmp gives x.party_state.hash z q.content ev c.stage q'.content) e h.step));
    }

    looks : PartStep cmp gives (LookPart n (x.party_state.hash % 2 ^ n)) x.party_state w.control_state w.tables ev c b t' → Taken
    looks (q, there, inside, h, y, z) = slot_step q q there inside h y (subst (λ u. Put w.tables n (x.party_state.hash % 2 ^ n) q.content u) (sym z) (put_same w.tables n (x.party_state.hash % 2 ^ n) q k.tables there))

    writes : PartStep cmp gives (BinPart n (x.party_state.hash % 2 ^ n)) x.party_state w.control_state w.tables ev c b t' → Taken
    writes (q, q', there, inside, h, y, z) = slot_step q q' there inside h y (subst (λ u. Put w.tables n (x.party_state.hash % 2 ^ n) q'.content u) (sym z) (put_other w.tables n (x.party_state.hash % 2 ^ n) q q' k.tables there h.table h.index))

  -- at a board, or at the seats there
  helps : (h : Help) (a : Resume K V F) → x.party_state.stage ≡ AtHelp h a → AtBoardOf (helped_table h) x.party_state w.control_state w.tables ev c b t' → Taken
  helps h a e (y, step, gave, same) = record {
    hash_stays = ap (λ z. z.hash) step.after;
    step = helps_at cmp total hash lawful gives w k p x at c ev b t' h a e (subst (FollowsStage hash x.call) e follows) (y, step, gave, same);
  }

  moves : (m : ClaimState) (a : Resume K V F) → x.party_state.stage ≡ AtHelp (Moving m) a → (o : Option (ℕ × ℕ)) → next_of m ≡ o → PartStep cmp gives (move_part m.range.table o) x.party_state w.control_state w.tables ev c b t' → Taken
  moves m a e None q h = helps (Moving m) a e h
  moves m a e (Some d) q (old, low, high, old', low', high', old_at, low_at, high_at, inside, h, y, z) = record {
    hash_stays = hash_of_move ev h.step;
    step = at_move cmp total hash lawful gives w k p x at c m a e (subst (FollowsStage hash x.call) e follows) d.0 d.1 q old low high old_at low_at high_at inside old' low' high' ev b t' h.step y z;
  }
    where
      hash_of_move : (v : Event) → MoveGives x.party_state old low high v c old' low' high' → c.hash ≡ x.party_state.hash
      hash_of_move (event.Moved g j) u = ap (λ r. r.hash) u.3
      hash_of_move event.Silent (_, _, _, inl (moved, u)) = ap (λ r. r.hash) u
      hash_of_move event.Silent (_, _, _, inr (clash, u)) = ap (λ r. r.hash) u
      hash_of_move v u = absurd u

  by_stage : (s : Stage K V F) → x.party_state.stage ≡ s → IsSingle s → PartStep cmp gives (part_of x.party_state.hash s) x.party_state w.control_state w.tables ev c b t' → Taken
  by_stage (AtBin (Finds y j) n) e single h = looks (Finds y j) n e h
  by_stage (AtBin (Removes y j) n) e single h = writes (Removes y j) n e h
  by_stage (AtBin (RemovesSeen z) n) e single h = writes (RemovesSeen z) n e h
  by_stage (AtBin (Inserts j v) n) e single h = writes (Inserts j v) n e h
  by_stage (AtBin (Adds j v) n) e single h = writes (Adds j v) n e h
  by_stage (AtBin (Computes j g) n) e single h = writes (Computes j g) n e h
  by_stage (AtBin (Alters j may_add g) n) e single h = writes (Alters j may_add g) n e h
  by_stage (AtHelp (WantsSeat n) a) e single h = helps (WantsSeat n) a e h
  by_stage (AtHelp (AtBoard n) a) e single h = helps (AtBoard n) a e h
  by_stage (AtHelp (Moving m) a) e single h = moves m a e (next_of m) refl h
  by_stage (AtHelp (GivesBack n) a) e single h = helps (GivesBack n) a e h
  by_stage (AtSweep u) e single h = absurd single
  by_stage (AtDone r) e single h = absurd h
  by_stage AtTaken e single h = absurd h
  by_stage s e single h = control_step s e tt refl h

  pub taken : IsSingle x.party_state.stage → PartStep cmp gives (wanted_part x.party_state) x.party_state w.control_state w.tables ev c b t' → Taken
  taken single h = by_stage x.party_state.stage refl single h
