-- A call that is driven begins as one more caller of a world.
use Rattle.std.specs.Prelude.{◌≡◌, ℕ, ◌^◌, ◌≤◌, Bool, true, false, cond, [], ◌∷◌, ◌++◌, length, reverse, slice_get, nat_lt, Option, Some, None}
use Rattle.std.specs.declared.cmp.Ordering.{Ordering}
use Rattle.std.specs.Cmp.{IsTotalOrder}
use Rattle.std.proofs.Common.{arith, refl, sym, ◌∙◌, ap, subst}
use Rattle.std.proofs.lemmas.Bool.{ltb-true, ltb-false}
use Rattle.std.proofs.lemmas.Int.{ints}
use Rattle.std.proofs.lemmas.List.{reverse-append}
use Rattle.flurry_bins_slots.specs.Slot.{Content, IsLive, HasMoved, IsUnborn}
use Rattle.flurry_steps_stages.specs.Stage.{Task, AtLocate, last_seen, stage_of_call, task_of_call}
use Rattle.flurry_steps.specs.Party.{PartyState}
use Rattle.flurry_base.specs.OneKey.{key_of}
use Rattle.flurry_steps_theory.specs.Map.{Pairs, same}
use Rattle.flurry_steps_theory.specs.Machine as machine
use Rattle.flurry_steps_theory.specs.Machine.{WasPublished}
use Rattle.flurry_steps_theory.specs.Trace.{decision, has_replied, has_closed}
use Rattle.flurry_base.specs.declared.call.Call.{Call}
use Rattle.flurry_base.specs.declared.call.Call.TheVariants as call
use Rattle.flurry_steps_theory.specs.declared.Label.TheVariants as label
use Rattle.flurry_steps_world.specs.Entries.{slot_of}
use Rattle.flurry_steps_world.specs.Parts.{Parts, IsPublishedTable}
use Rattle.flurry_steps_world.specs.Steps.{with_party_record}
use Rattle.flurry_steps_world.specs.Tables.{content_at}
use Rattle.flurry_steps_world.specs.World.{PartyRecord, WorldState, Near, state_of, mode_of_stage, FollowsStage, IsWorld, history}
use Rattle.flurry_steps_world.proofs.StateLaws.{held_of_stage}
use Rattle.flurry_steps_world.proofs.BeginLaws.{IsBeginning}
use Rattle.flurry_steps_world.proofs.WorldLaws.{began, get_append}
use Rattle.flurry_steps_drive.specs.Exact.{Holds, IsFresh}
use Rattle.flurry_steps_drive.proofs.Trace.{itself}
use Rattle.flurry_base.specs.declared.sizes.TheConstants.{MAX_LABELS}
use Rattle.flurry_base.specs.declared.verdict.Verdict.{Verdict}

module _ {K V F : Type 0} where
  module _ (hash : K → ℕ) where
    at_task : (d : Call K V F) (q : PartyState K V F) → ((k : K) → key_of d ≡ Some k → q.hash ≡ hash k) → (t : Task K V F) → task_of_call d ≡ Some t → q.stage ≡ AtLocate t → IsBeginning hash d q
    at_task d q own t is e = record { own_hash = own; follows = subst (FollowsStage hash d) (sym e) is; mode = ap mode_of_stage e; plain_entries = ap held_of_stage e; unread = ap last_seen e }

    first_begins : (d : Call K V F) (q : PartyState K V F) → ((k : K) → key_of d ≡ Some k → q.hash ≡ hash k) → q.stage ≡ stage_of_call d → IsBeginning hash d q
    first_begins (call.Reserve a) q own e = record { own_hash = own; follows = subst (FollowsStage hash (call.Reserve a)) (sym e) refl; mode = ap mode_of_stage e; plain_entries = ap held_of_stage e; unread = ap last_seen e }
    first_begins call.Clear q own e = record { own_hash = own; follows = subst (FollowsStage hash call.Clear) (sym e) ((refl, refl), refl); mode = ap mode_of_stage e; plain_entries = ap held_of_stage e; unread = ap last_seen e }
    first_begins call.Walk q own e = record { own_hash = own; follows = subst (FollowsStage hash call.Walk) (sym e) (refl, tt); mode = ap mode_of_stage e; plain_entries = ap held_of_stage e; unread = ap last_seen e }
    first_begins d q own e = at_task d q own _ refl e

module _ {K V F : Type 0} (cmp : K → K → Ordering) (hash : K → ℕ) (gives : F → K → Option V → Verdict V → Type 0) where
  -- a table where a call may begin was published
  pub was_published : (w : WorldState K V F (Unit {0})) → IsWorld cmp hash gives w → (e : ℕ) → IsPublishedTable (record { control_state = w.control_state; tables = w.tables }) e → WasPublished cmp hash gives (state_of w) e
  was_published w k e start = (not_early (nat_lt e (state_of w).start) refl, start.newest, start.published, start.within)
    where
      not_early : (b : Bool) → nat_lt e (state_of w).start ≡ b → (state_of w).start ≤ e
      not_early true h = absurd (unborn (content_at w.tables e 0) refl (k.state.1.tables.early e 0 (ltb-true e (state_of w).start h)))
        where
          unborn : (z : Content K V) → content_at w.tables e 0 ≡ z → slot_of z ≡ machine.Unborn → ⊥
          unborn (IsLive b) f g = cc
          unborn HasMoved f g = cc
          unborn IsUnborn f g = start.born f
      not_early false h = ltb-false e (state_of w).start h

  -- the world w, whose parts are s and hold a map with a count of at most n from 0, with one more caller: the call d, which stands at q
  pub record Begun (n : ℕ) (s : Parts K V) (w : WorldState K V F (Unit {0})) (d : Call K V F) (q : PartyState K V F) : Type 0 where
    pub is_world : IsWorld cmp hash gives (with_party_record w d None q)
    pub at : slice_get (w.party_records ++ record { call = d; began_from = None; party_state = q; steps = 0 } ∷ []) (length w.party_records) ≡ Some (record { call = d; began_from = None; party_state = q; steps = 0 })
    pub parts : record { control_state = w.control_state; tables = w.tables } ≡ s
    pub near : Near n w.control_state.count
    pub trace : reverse (w.trace ++ label.Begin (length w.party_records) d ∷ []) ≡ label.Begin (length w.party_records) d ∷ history w
    -- it was nobody before
    pub no_decision : decision (history w) (length w.party_records) ≡ None
    pub unreplied : has_replied (history w) (length w.party_records) ≡ false
    pub going : has_closed (history w) (length w.party_records) ≡ false

  pub begun : (total : IsTotalOrder cmp) (lawful : (j k : K) → same cmp j k ≡ true → hash j ≡ hash k) (n : ℕ) → n ≤ MAX_LABELS → (m : Pairs K V) (s : Parts K V) (h : Holds cmp hash gives n s m) (d : Call K V F) (q : PartyState K V F) → IsFresh cmp hash gives d q → Begun n s h.world d q
  begun total lawful n few m s h d q fresh =
      let is = first_begins hash d q fresh.hash_is fresh.stage in
      let unknown = (h.is_world.state.1.parties (length h.world.party_records)).beyond (omega arith) in
      record {
        is_world = began cmp total hash lawful gives h.world h.is_world far d None (λ v e. cc) q is.mode is.plain_entries is.unread is.own_hash is.follows;
        at = get_append h.world.party_records new (length h.world.party_records) ∙ ap (λ z. cond z (Some new) (slice_get h.world.party_records (length h.world.party_records))) (itself (length h.world.party_records));
        parts = λ i. record { control_state = h.control_state i; tables = h.tables i };
        near = count;
        trace = reverse-append h.world.trace (label.Begin (length h.world.party_records) d ∷ []);
        no_decision = unknown.3;
        unreplied = unknown.4;
        going = unknown.5;
      }
    where
      new : PartyRecord K V F
      new = record { call = d; began_from = None; party_state = q; steps = 0 }

      count : Near n h.world.control_state.count
      count = subst (λ b. Near n b.count) (sym h.control_state) h.near

      far : Near (2 ^ 62) h.world.control_state.count
      far = record { most = omega (arith, ints, count.most, few); least = omega (arith, ints, count.least, few) }
