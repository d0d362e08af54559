-- What a step gives, and what stays around it.
use Rattle.std.specs.Prelude.{ℕ, ℤ, pos, negsuc, neg_ℤ, ◌≤ℤ◌, suc, ◌+◌, ◌≤◌, ◌==◌, Bool, true, false, cond, [], slice_get, get_or, Option, Some, None, option_map, is_some, IsSome, ◌≡◌, ◌⊎◌}
use Rattle.std.specs.declared.cmp.Ordering.{Ordering}
use Rattle.std.specs.Int.{saturate_signed, w64}
use Rattle.std.proofs.Common.{arith, refl, sym, ◌∙◌, ap, subst, inl, inr}
use Rattle.std.proofs.lemmas.Bool.{cases_eq}
use Rattle.std.proofs.lemmas.Int.{ints}
use Rattle.std.specs.Cmp.{IsTotalOrder}
use Rattle.flurry_bins_slots.specs.Slot.{Live, IsLive}
use Rattle.flurry_steps_claims.specs.PlainBoard.{PlainBoardState, unclaimed_of}
use Rattle.flurry_steps_control.specs.Control.{ControlState, IsControl, after_count}
use Rattle.flurry_steps_stages.specs.Stage.{last_seen}
use Rattle.flurry_steps.specs.Party.{PartyState}
use Rattle.flurry_steps_theory.specs.Map.{same}
use Rattle.flurry_steps_theory.specs.Machine.{Transition, Enabled, next_state}
use Rattle.flurry_steps_theory.specs.Invariant.{Inv, home_after}
use Rattle.flurry_steps_theory.specs.declared.Label.{Label}
use Rattle.flurry_steps_theory.proofs.Step.{inv_step}
use Rattle.flurry_steps_world.specs.Entries.{IsHashed}
use Rattle.flurry_steps_world.specs.Tables.{Tables, AreTables, slots_of, content_at, board_at, put_board}
use Rattle.flurry_steps_world.specs.World.{PartyRecord, WorldState, state_of, growth_at, growth_of, FollowsStage, Follows, IsWorld, DoesTransition}
use Rattle.flurry_steps_world.specs.Steps.{with_step}
use Rattle.flurry_steps_world.proofs.TableLaws.{board_in, board_at-put, board_at-put_other, AreTables-put_board}
use Rattle.flurry_steps_world.proofs.StateLaws.{IsTransition, does_transition, get_set, same_some}
use Rattle.std.proofs.lemmas.Option.{slice_get_within}
use Rattle.flurry_base.specs.declared.sizes.TheConstants.{MAX_LABELS}
use Rattle.flurry_base.specs.declared.verdict.Verdict.{Verdict}

-- a count within so many labels is not cut off
pub in_range : (z : ℤ) (n : ℕ) → n ≤ MAX_LABELS → z ≤ℤ pos (suc n) → neg_ℤ (pos (suc n)) ≤ℤ z → saturate_signed w64 z ≡ z
in_range (pos m) n l u d = ap pos (omega (arith, ints, u, l))
in_range (negsuc m) n l u d = ap negsuc (omega (arith, ints, d, l))

module _ {K V : Type 0} where
  -- the growth is read off the boards alone
  pub same_growth : (g : Option ℕ) (t t' : Tables K V) → t'.boards ≡ t.boards → growth_of g t' ≡ growth_of g t
  same_growth None t t' stays = refl
  same_growth (Some e) t t' stays = ap (λ b. option_map growth_at (get_or b (e + 1) None)) stays

  -- another board that shows the same growth is no change of it
  pub growth_put : (g : Option ℕ) (t : Tables K V) (e : ℕ) (d d' : PlainBoardState) → board_at t e ≡ Some d → growth_at d' ≡ growth_at d → growth_of g (put_board t e d') ≡ growth_of g t
  growth_put None t e d d' at shows = refl
  growth_put (Some n) t e d d' at shows = by_place (cases_eq n e)
    where
      by_place : (n ≡ e) ⊎ (n ≡ e → ⊥) → growth_of (Some n) (put_board t e d') ≡ growth_of (Some n) t
      by_place (inr apart) = ap (option_map growth_at) (board_at-put_other t e d' n apart)
      by_place (inl here) =
          ap (λ m. option_map growth_at (board_at (put_board t e d') m)) here ∙ ap (option_map growth_at) (board_at-put t e d' (board_in t e d at)) ∙ ap Some shows
          ∙ sym (ap (λ m. option_map growth_at (board_at t m)) here ∙ ap (option_map growth_at) at)

module _ {K V : Type 0} (hash : K → ℕ) where
  -- what a board and tables keep, beside the machine's invariant
  pub record Frame (b : ControlState) (t : Tables K V) : Type 0 where
    pub hashed : (e i : ℕ) (l : Live K V) → content_at t e i ≡ IsLive l → IsHashed hash l.plain_entries
    pub control_state : IsControl b
    pub tables : AreTables t
    pub no_table : b.published ≡ None → (e : ℕ) → slots_of t e ≡ []
    pub next : (e : ℕ) → b.growth ≡ Some e → (slots_of t (suc e) ≡ [] → ⊥)
    pub running : (e : ℕ) → b.growth ≡ Some e → IsSome (board_at t e)
    pub over : (e : ℕ) (d : PlainBoardState) → board_at t e ≡ Some d → (b.growth ≡ Some e → ⊥) → unclaimed_of d ≡ 0

module _ {K V F S : Type 0} (cmp : K → K → Ordering) (hash : K → ℕ) (gives : F → K → Option V → Verdict V → Type 0) where
  pub same_frame : (w : WorldState K V F S) → IsWorld cmp hash gives w → Frame hash w.control_state w.tables
  same_frame w k = record { hashed = k.hashed; control_state = k.control_state; tables = k.tables; no_table = k.no_table; next = k.next; running = k.running; over = k.over }

  -- the same once pairs are counted
  pub counted_frame : (w : WorldState K V F S) (d : ℤ) → IsWorld cmp hash gives w → Frame hash (after_count d w.control_state) w.tables
  counted_frame w d k = record {
    hashed = k.hashed;
    control_state = record { published = k.control_state.published; growth = k.control_state.growth };
    tables = k.tables;
    no_table = k.no_table;
    next = k.next;
    running = k.running;
    over = k.over;
  }

  -- where the boards stay
  pub running_on : (w : WorldState K V F S) (t : Tables K V) → IsWorld cmp hash gives w → t.boards ≡ w.tables.boards → (e : ℕ) → w.control_state.growth ≡ Some e → IsSome (board_at t e)
  running_on w t k stays e h = subst (λ b. IsSome (get_or b (e + 1) None)) (sym stays) (k.running e h)

  pub over_on : (w : WorldState K V F S) (t : Tables K V) → IsWorld cmp hash gives w → t.boards ≡ w.tables.boards → (e : ℕ) (d : PlainBoardState) → board_at t e ≡ Some d → (w.control_state.growth ≡ Some e → ⊥) → unclaimed_of d ≡ 0
  over_on w t k stays e d at idle = k.over e d (ap (λ b. get_or b (e + 1) None) (sym stays) ∙ at) idle

  -- and where a board is another: one that is left without a growth has nothing unclaimed
  pub board_frame : (w : WorldState K V F S) (e : ℕ) (d d' : PlainBoardState) → IsWorld cmp hash gives w → board_at w.tables e ≡ Some d → d'.table ≡ d.table → ((w.control_state.growth ≡ Some e → ⊥) → unclaimed_of d' ≡ 0)
      → Frame hash w.control_state (put_board w.tables e d')
  board_frame w e d d' k at table left = record {
    hashed = k.hashed;
    control_state = k.control_state;
    tables = AreTables-put_board w.tables e d' d k.tables at table;
    no_table = k.no_table;
    next = k.next;
    running = λ n h. runs n h (cases_eq n e);
    over = λ n r there idle. ends n r there idle (cases_eq n e);
  }
    where
      put : board_at (put_board w.tables e d') e ≡ Some d'
      put = board_at-put w.tables e d' (board_in w.tables e d at)

      runs : (n : ℕ) → w.control_state.growth ≡ Some n → (n ≡ e) ⊎ (n ≡ e → ⊥) → IsSome (board_at (put_board w.tables e d') n)
      runs n h (inl here) = ap (λ m. is_some (board_at (put_board w.tables e d') m)) here ∙ ap is_some put
      runs n h (inr apart) = ap is_some (board_at-put_other w.tables e d' n apart) ∙ k.running n h

      ends : (n : ℕ) (r : PlainBoardState) → board_at (put_board w.tables e d') n ≡ Some r → (w.control_state.growth ≡ Some n → ⊥) → (n ≡ e) ⊎ (n ≡ e → ⊥) → unclaimed_of r ≡ 0
      ends n r there idle (inl here) =
          let one : Some r ≡ Some d' = sym there ∙ ap (λ m. board_at (put_board w.tables e d') m) here ∙ put in
          ap unclaimed_of (same_some one) ∙ left (λ h. idle (h ∙ ap Some (sym here)))
      ends n r there idle (inr apart) = k.over n r (sym (board_at-put_other w.tables e d' n apart) ∙ there) idle

  -- a transition of the machine that is a step of party p, which was x, and leaves the control b, the tables t and its call at c
  pub record IsStep (w : WorldState K V F S) (p : ℕ) (x : PartyRecord K V F) (b : ControlState) (t : Tables K V) (c : PartyState K V F) (lab : Label K V F) : Type 0 where
    pub transition : Transition K V F
    pub can : Enabled cmp hash gives (state_of w) p transition
    pub is : IsTransition cmp hash gives w p b t c lab transition
    pub follows : FollowsStage hash x.call c.stage
    pub frame : Frame hash b t

  -- such a step, in which the hash of the party stays, as the state that it leaves
  pub record StepOf (w : WorldState K V F S) (p : ℕ) (x : PartyRecord K V F) (b : ControlState) (t : Tables K V) (c : PartyState K V F) (lab : Label K V F) : Type 0 where
    pub hash_stays : c.hash ≡ x.party_state.hash
    pub transition : Transition K V F
    pub can : Enabled cmp hash gives (state_of w) p transition
    pub after : state_of (with_step w p x b t c lab) ≡ next_state cmp hash gives (state_of w) p transition
    pub follows : FollowsStage hash x.call c.stage
    pub frame : Frame hash b t

  -- nothing was read
  pub step_of : (w : WorldState K V F S) (p : ℕ) (x : PartyRecord K V F) (b : ControlState) (t : Tables K V) (c : PartyState K V F) (lab : Label K V F) → slice_get w.party_records p ≡ Some x → c.hash ≡ x.party_state.hash → last_seen c.stage ≡ last_seen x.party_state.stage → IsStep w p x b t c lab → StepOf w p x b t c lab
  step_of w p x b t c lab at hashed seen s = record { hash_stays = hashed; transition = s.transition; can = s.can; after = does_transition cmp hash gives w p x b t c lab s.transition at seen s.is; follows = s.follows; frame = s.frame }

  -- is a transition of the machine
  pub does_one : (w : WorldState K V F S) (p : ℕ) (x : PartyRecord K V F) (b : ControlState) (t : Tables K V) (c : PartyState K V F) (lab : Label K V F) → StepOf w p x b t c lab → DoesTransition cmp hash gives w p (with_step w p x b t c lab)
  does_one w p x b t c lab s = (s.transition, s.can, s.after)

  -- a world that such a step leaves
  pub kept : (total : IsTotalOrder cmp) (lawful : (j k : K) → same cmp j k ≡ true → hash j ≡ hash k) (w : WorldState K V F S) (p : ℕ) (x : PartyRecord K V F) (b : ControlState) (t : Tables K V) (c : PartyState K V F) (lab : Label K V F)
      → IsWorld cmp hash gives w → slice_get w.party_records p ≡ Some x → StepOf w p x b t c lab → IsWorld cmp hash gives (with_step w p x b t c lab)
  kept total lawful w p x b t c lab k at s = record {
    state = (home_after k.state.0 s.transition, subst (λ z. Inv cmp hash gives w.first (home_after k.state.0 s.transition) z) (sym s.after) (inv_step cmp total hash lawful gives w.first k.state.0 (state_of w) p s.transition s.can k.state.1));
    party_records = λ q y h. caller q y (p == q) refl (sym (get_set w.party_records p q stepped (slice_get_within w.party_records p x at)) ∙ h);
    hashed = s.frame.hashed;
    control_state = s.frame.control_state;
    tables = s.frame.tables;
    no_table = s.frame.no_table;
    next = s.frame.next;
    running = s.frame.running;
    over = s.frame.over;
  }
    where
      stepped : PartyRecord K V F
      stepped = record { call = x.call; began_from = x.began_from; party_state = c; steps = suc x.steps }

      caller : (q : ℕ) (y : PartyRecord K V F) (e : Bool) → (p == q) ≡ e → cond e (Some stepped) (slice_get w.party_records q) ≡ Some y → Follows hash y
      caller q y true e h = subst (Follows hash) (same_some h) (record { own_hash = λ j g. s.hash_stays ∙ (k.party_records p x at).own_hash j g; stage = s.follows })
      caller q y false e h = k.party_records q y h
