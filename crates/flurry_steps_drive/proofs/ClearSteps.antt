-- The steps of a clear, as transitions of the machine, in a world of however many labels: the pairs that are left and those that were
-- wiped are so few that no number cuts them off.
use Rattle.std.specs.Prelude.{◌≡◌, ℕ, pos, ℤ, neg_ℤ, ◌≤ℤ◌, ◌+ℤ◌, ◌-ℤ◌, suc, ◌+◌, ◌-◌, ◌^◌, ◌≤◌, ◌<◌, ◌==◌, ◌&&◌, nat_lt, min, Bool, true, false, List, [], ◌∷◌, length, map, slice_get, slice_set, Option, Some, None, is_some, if◌then◌else◌}
use Rattle.std.specs.declared.cmp.Ordering.{Ordering}
use Rattle.std.specs.Cmp.{IsTotalOrder}
use Rattle.std.specs.Int.{saturate_signed, w64}
use Rattle.std.proofs.Common.{arith, refl, sym, ◌∙◌, ap, subst, inr}
use Rattle.std.proofs.lemmas.Int.{ints}
use Rattle.std.proofs.lemmas.List.{set-get_or}
use Rattle.std.proofs.lemmas.Option.{slice_get_within, get_or_from_slice_get}
use Rattle.flurry_base.specs.declared.call.Call.TheVariants as call
use Rattle.flurry_bins_slots.specs.Slot as slots
use Rattle.flurry_bins_slots.specs.Slot.{SlotState, IsLive, HasMoved, IsUnborn, after_wipe}
use Rattle.flurry_steps_control.specs.Control as control
use Rattle.flurry_steps_sweep.specs.Outcome.{OutcomeEnded}
use Rattle.flurry_steps_sweep.specs.Cursor.{CursorState, at_base, after_split, after_top}
use Rattle.flurry_steps_sweep.specs.Sweep.{Wipes, SweepStage, AtSweepStart, OverBins, AtTotal, AtEnd, SweepState, more_wiped, stage_cleared}
use Rattle.flurry_steps_stages.specs.Stage.{AtSweep, last_seen}
use Rattle.flurry_steps.specs.Party.{PartyState}
use Rattle.flurry_steps_theory.specs.Bin.{Entry}
use Rattle.flurry_steps_theory.specs.Map.{same}
use Rattle.flurry_steps_theory.specs.Trace.{is_lookup, pairs}
use Rattle.flurry_steps_theory.specs.Machine as machine
use Rattle.flurry_steps_theory.specs.Machine.{State, Frame, Transition, Enabled, effect, goes, found_by, onward, Mode, Clearing, Done, Live, update2, update, total as sum, owes_added, owes_removed, WasPublished, Counts, Finds, FindsNothing, Wipes as WipesBin, SplitsClear}
use Rattle.flurry_steps_theory.specs.Invariant.{Inv, NamesNoUnborn}
use Rattle.flurry_steps_theory.proofs.Ranges.{place_here, place_other, total-change}
use Rattle.flurry_steps_theory.proofs.Step.{inv_step}
use Rattle.flurry_steps_theory.specs.declared.Label.TheVariants as label
use Rattle.flurry_steps_world.specs.Entries.{slot_of, machine_entries, IsHashed}
use Rattle.flurry_steps_world.specs.Tables.{Tables, slots_of, place_at, content_at, put_place}
use Rattle.flurry_steps_world.specs.World.{PartyRecord, WorldState, state_of, mode_of_stage, mode_of_sweep, frame_of, frames_of, AreHashed, FollowsKind, FollowsSweep, FollowsStage, IsWorld, history}
use Rattle.flurry_steps_world.proofs.EntryLaws.{length-machine_entries}
use Rattle.flurry_steps_world.proofs.PlaceLaws.{same_live}
use Rattle.flurry_steps_world.proofs.Frames.{same_growth, same_frame, counted_frame, running_on, over_on, StepOf, step_of, in_range}
use Rattle.flurry_steps_world.proofs.StateLaws.{held_of_stage, is_step}
use Rattle.flurry_steps_world.proofs.TransitionLaws.{is_goes, is_counted, is_wiped}
use Rattle.flurry_steps_world.proofs.SlotCases.{Put}
use Rattle.flurry_steps_world.proofs.SweepModes.{halved_frames, cleared, owes_onward, cleared_hashed, frame_is_born}
use Rattle.flurry_steps_world.proofs.Cases.{calls, in_mode}
use Rattle.flurry_base.specs.declared.sizes.TheConstants.{MAX_LABELS}
use Rattle.flurry_base.specs.declared.verdict.Verdict.{Verdict}

-- a slot that is put where it stands
pub put_back : {K V : Type 0} (t : Tables K V) (e i : ℕ) (q : SlotState K V) → place_at t e i ≡ Some q → put_place t e i q ≡ t
put_back t e i q there =
    ap (λ s. record { slots = s; boards = t.boards })
    (ap (slice_set t.slots e) (ap (slice_set (slots_of t e) i) (sym (get_or_from_slice_get (slots_of t e) i q q there)) ∙ set-get_or (slots_of t e) i q) ∙ set-get_or t.slots e [])

-- a number of pairs that were wiped is not cut off
pub count_less : (count : ℤ) (n : ℕ) → n ≤ MAX_LABELS → count ≤ℤ pos (2 ^ 62) → neg_ℤ (pos (2 ^ 62)) ≤ℤ (count -ℤ pos n) → saturate_signed w64 (count +ℤ neg_ℤ (pos (min n (2 ^ 63 - 1)))) ≡ count -ℤ pos n
count_less count n few most least =
    let whole : min n (2 ^ 63 - 1) ≡ n = grind (arith, few) in
    ap (λ m. saturate_signed w64 (count +ℤ neg_ℤ (pos m))) whole ∙ in_range (count +ℤ neg_ℤ (pos n)) (2 ^ 62) (omega arith) (omega (arith, ints, most)) (omega (arith, ints, least)) ∙ omega (arith, ints)

module _ (K V : Type 0) where
  adds_on : (m e n : ℕ) (b : Bool) → owes_added {K = K} {V = V} (if b then Clearing m e n (record { table = e; index = n; bound = None } ∷ []) else Done None 0 m) ≡ 0
  adds_on m e n true = refl
  adds_on m e n false = refl

  -- a clear adds no pair
  adds_onward : (m e i : ℕ) (fs : List (Frame K)) → owes_added {K = K} {V = V} (onward (Clearing m) (Done None 0 m) e i fs) ≡ 0
  adds_onward m e i [] = adds_on m e (suc i) (nat_lt (suc i) (2 ^ e))
  adds_onward m e i (f ∷ fs) = refl

module _ {K V F : Type 0} (cmp : K → K → Ordering) (total : IsTotalOrder cmp) (hash : K → ℕ) (lawful : (j k : K) → same cmp j k ≡ true → hash j ≡ hash k) (gives : F → K → Option V → Verdict V → Type 0) where
  -- the pairs of a bin that is wiped are as many as the map has lost
  pub wiped_away : (first : Option ℕ) (home : ℕ → ℕ) (s : State K V F) → Inv cmp hash gives first home s → (p : ℕ) → p < s.parties → (wiped e i : ℕ) (f : Frame K) (fs : List (Frame K)) (es : List (Entry K V)) (n : ℕ) → Enabled cmp hash gives s p (WipesBin wiped e i f fs es n)
      → length (pairs cmp hash (label.Wipe p f.table f.index ∷ s.trace)) + length es ≡ length (pairs cmp hash s.trace)
  wiped_away first home s inv p known wiped e i f fs es n can = omega (
    arith,
    ints,
    inv.counted.balance,
    balance,
    changed owes_added,
    changed owes_removed,
    ap owes_added can.0,
    ap owes_removed can.0,
    ap owes_added (place_here s.mode p after),
    ap owes_removed (place_here s.mode p after),
    adds_onward K V (wiped + length es) e i fs,
    owes_onward K V (wiped + length es) e i fs,
  )
    where
      after : Mode K V
      after = onward (Clearing (wiped + length es)) (Done None 0 (wiped + length es)) e i fs

      balance : pos (length (pairs cmp hash (label.Wipe p f.table f.index ∷ s.trace))) ≡ s.count +ℤ pos (sum (λ q. owes_added (update s.mode p after q)) s.parties) -ℤ pos (sum (λ q. owes_removed (update s.mode p after q)) s.parties)
      balance = (inv_step cmp total hash lawful gives first home s p (WipesBin wiped e i f fs es n) can inv).counted.balance

      changed : (owes : Mode K V → ℕ) → sum (λ q. owes (update s.mode p after q)) s.parties + owes (s.mode p) ≡ sum (λ q. owes (s.mode q)) s.parties + owes (update s.mode p after p)
      changed owes = total-change (λ q. owes (update s.mode p after q)) (λ q. owes (s.mode q)) p s.parties known (λ q other. ap owes (place_other s.mode p q after other))

-- party p of the world w is a clear that has wiped n pairs, and stands at u; after a step it stands at u'
module _ {K V F S : Type 0} (cmp : K → K → Ordering) (total : IsTotalOrder cmp) (hash : K → ℕ) (lawful : (j k : K) → same cmp j k ≡ true → hash j ≡ hash k) (gives : F → K → Option V → Verdict V → Type 0) (w : WorldState K V F S) (k : IsWorld cmp hash gives w) (p : ℕ) (x : PartyRecord K V F) (at : slice_get w.party_records p ≡ Some x) (u : SweepState K V) (e : x.party_state.stage ≡ AtSweep u) (n : ℕ) (wipes : u.kind ≡ Wipes n) (c : PartyState K V F) (u' : SweepState K V) (g : c.stage ≡ AtSweep u') (hashed : c.hash ≡ x.party_state.hash) (last : u'.last ≡ u.last) where
  own : FollowsStage hash x.call (AtSweep u)
  own = subst (FollowsStage hash x.call) e (k.party_records p x at).stage

  is_clear : (x.call ≡ call.Clear) × (u.last ≡ None)
  is_clear = subst (λ z. FollowsKind x.call z u.last) wipes own.0

  called : (state_of w).call p ≡ Some call.Clear
  called = calls cmp total hash lawful gives w k p x at c ∙ ap Some is_clear.0

  stands : (s : SweepStage K V) → u.stage ≡ s → (state_of w).mode p ≡ mode_of_sweep s (Wipes n)
  stands s f = in_mode cmp total hash lawful gives w k p x at c (AtSweep u) e ∙ ap (λ z. mode_of_sweep z u.kind) f ∙ ap (mode_of_sweep s) wipes

  unclaimed : held_of_stage c.stage ≡ held_of_stage x.party_state.stage
  unclaimed = ap held_of_stage g ∙ sym (ap held_of_stage e)

  unread : last_seen c.stage ≡ last_seen x.party_state.stage
  unread = ap last_seen g ∙ last ∙ sym (ap last_seen e)

  module _ (n' : ℕ) (kind : u'.kind ≡ Wipes n') (s' : SweepStage K V) (at_stage : u'.stage ≡ s') where
    mode_then : mode_of_stage c.stage ≡ mode_of_sweep s' (Wipes n')
    mode_then = ap mode_of_stage g ∙ ap (λ z. mode_of_sweep z u'.kind) at_stage ∙ ap (mode_of_sweep s') kind

    follows_then : FollowsSweep hash s' (Wipes n') → FollowsStage hash x.call c.stage
    follows_then h = subst (FollowsStage hash x.call) (sym g) (subst (λ z. FollowsKind x.call z u'.last) (sym kind) (is_clear.0, last ∙ is_clear.1), subst (λ z. FollowsSweep hash z u'.kind) (sym at_stage) (subst (FollowsSweep hash s') (sym kind) h))

    -- a step after which the machine's clear alone stands elsewhere
    goes_on : (transition : Transition K V F) (m : Mode K V) → effect cmp hash gives (state_of w) p transition ≡ goes cmp hash gives (state_of w) p m → label.Silent p ≡ machine.label cmp hash gives p transition → is_step transition ≡ true
        → Enabled cmp hash gives (state_of w) p transition → mode_of_sweep s' (Wipes n') ≡ m → FollowsSweep hash s' (Wipes n') → StepOf cmp hash gives w p x w.control_state w.tables c (label.Silent p)
    goes_on transition m is named own can mode follows = step_of cmp hash gives w p x w.control_state w.tables c (label.Silent p) at hashed unread (record {
      transition = transition;
      can = can;
      is = is_goes cmp hash gives w p x at c (label.Silent p) transition m is named own refl (mode_then ∙ mode) unclaimed;
      follows = follows_then follows;
      frame = same_frame cmp hash gives w k;
    })

  -- it begins at a table that was published
  pub goes_to_table : u.stage ≡ AtSweepStart → u'.kind ≡ Wipes n → (a : ℕ) → WasPublished cmp hash gives (state_of w) a → u'.stage ≡ OverBins (at_base a 0) → StepOf cmp hash gives w p x w.control_state w.tables c (label.Silent p)
  goes_to_table f kind a was h = goes_on n kind (OverBins (at_base a 0)) h (Finds a) _ refl refl refl (call.Clear, called, stands AtSweepStart f, was)
      (ap (λ m. Clearing m a 0 (frames_of (at_base a 0))) (subst (FollowsSweep {V = V} hash AtSweepStart) wipes (subst (λ z. FollowsSweep hash z u.kind) f own.1)) ∙ ap (λ o. found_by cmp hash gives o a) (sym called)) (tt, tt)

  -- where there is no table it has ended
  pub finds_nothing : u.stage ≡ AtSweepStart → u'.kind ≡ Wipes n → w.control_state.published ≡ None → u'.stage ≡ AtEnd OutcomeEnded → StepOf cmp hash gives w p x w.control_state w.tables c (label.Silent p)
  finds_nothing f kind bare h = goes_on n kind (AtEnd OutcomeEnded) h FindsNothing (Done None 0 0) refl refl refl (call.Clear, called, stands AtSweepStart f, bare, inr refl) refl tt

  -- it follows a bin that has moved
  module _ (f : CursorState K) (over : u.stage ≡ OverBins f) where
    bounds : AreHashed hash (f.top ∷ f.below)
    bounds = subst (λ z. FollowsSweep hash z u.kind) over own.1

    pub follows_moved : u'.kind ≡ Wipes n → content_at w.tables f.top.table f.top.index ≡ HasMoved → u'.stage ≡ OverBins (after_split f) → StepOf cmp hash gives w p x w.control_state w.tables c (label.Silent p)
    follows_moved kind moved h = goes_on n kind (OverBins (after_split f)) h (SplitsClear n f.base f.index (frame_of f.top) (map frame_of f.below)) _ refl refl refl (stands (OverBins f) over, ap slot_of moved) (ap (Clearing n f.base f.index) (halved_frames f)) (bounds.0, (bounds.0, bounds.1))

    -- it meets no bin that is not there yet
    pub no_unborn : content_at w.tables f.top.table f.top.index ≡ IsUnborn → ⊥
    no_unborn unborn =
        let named = subst (NamesNoUnborn hash (is_some w.control_state.published) k.state.0 (state_of w).start ((state_of w).call p)) (stands (OverBins f) over) (k.state.1.named p) in
        frame_is_born cmp hash k.state.0 (state_of w) (frame_of f.top) (map frame_of f.below) k.state.1.tables named.0 named.3 (ap slot_of unborn)

    -- it wipes a live bin
    module _ (d : slots.Live K V) (live : content_at w.tables f.top.table f.top.index ≡ IsLive d) where
      abbrev transition : Transition K V F
      transition = WipesBin n f.base f.index (frame_of f.top) (map frame_of f.below) (machine_entries d.plain_entries) d.writes

      can_wipe : Enabled cmp hash gives (state_of w) p transition
      can_wipe = (stands (OverBins f) over, ap slot_of live)

      pub wiped_pairs : length (pairs cmp hash (label.Wipe p f.top.table f.top.index ∷ history w)) + length d.plain_entries ≡ length (pairs cmp hash (history w))
      wiped_pairs =
          let lost = wiped_away cmp total hash lawful gives w.first k.state.0 (state_of w) k.state.1 p (slice_get_within w.party_records p x at) n f.base f.index (frame_of f.top) (map frame_of f.below) (machine_entries d.plain_entries) d.writes can_wipe in
          ap (λ i. length (pairs cmp hash (label.Wipe p f.top.table f.top.index ∷ history w)) + i) (sym (length-machine_entries d.plain_entries)) ∙ lost

      pub wipes_bin : (t : Tables K V) → Put w.tables f.top.table f.top.index (IsLive (after_wipe d)) t → length (pairs cmp hash (history w)) + n ≤ MAX_LABELS → u'.kind ≡ Wipes (more_wiped n (length d.plain_entries)) → u'.stage ≡ stage_cleared (after_top f) → StepOf cmp hash gives w p x w.control_state t c (label.Wipe p f.top.table f.top.index)
      wipes_bin t put few q h = step_of cmp hash gives w p x w.control_state t c (label.Wipe p f.top.table f.top.index) at hashed unread (record {
        transition = transition;
        can = can_wipe;
        is = is_wiped cmp hash gives w p x at c n f.base f.index (frame_of f.top) (map frame_of f.below) (machine_entries d.plain_entries) d.writes t (same_growth w.control_state.growth w.tables t put.boards) slots_after (mode_then _ kind _ h ∙ cleared (n + length (machine_entries d.plain_entries)) f.base f.index f.below) unclaimed;
        follows = follows_then _ kind _ h (cleared_hashed V hash f.base f.index f.below _ bounds.1);
        frame = record {
          hashed = λ a i l y. hashed_in a i l (f.top.table == a && f.top.index == i) (sym (put.contents a i) ∙ y);
          control_state = k.control_state;
          tables = put.tables;
          no_table = λ y a. put.no_table a (k.no_table y a);
          next = λ a y v. k.next a y (put.made (suc a) v);
          running = running_on cmp hash gives w t k put.boards;
          over = over_on cmp hash gives w t k put.boards;
        };
      })
        where
          small : n + length d.plain_entries ≤ 2 ^ 64 - 1
          small = omega (arith, wiped_pairs, few)

          same_length : length (machine_entries d.plain_entries) ≡ length d.plain_entries
          same_length = length-machine_entries d.plain_entries

          counted : more_wiped n (length d.plain_entries) ≡ n + length (machine_entries d.plain_entries)
          counted = grind (arith, small, same_length)

          kind : u'.kind ≡ Wipes (n + length (machine_entries d.plain_entries))
          kind = q ∙ ap Wipes counted

          slots_after : (a i : ℕ) → slot_of (content_at t a i) ≡ update2 (state_of w).slot f.top.table f.top.index (Live [] d.writes) a i
          slots_after a i = ap slot_of (put.contents a i) ∙ through (f.top.table == a && f.top.index == i)
            where
              through : (b : Bool) → slot_of (if b then IsLive (after_wipe d) else content_at w.tables a i) ≡ (if b then Live [] d.writes else slot_of (content_at w.tables a i))
              through true = refl
              through false = refl

          hashed_in : (a i : ℕ) (l : slots.Live K V) (z : Bool) → (if z then IsLive (after_wipe d) else content_at w.tables a i) ≡ IsLive l → IsHashed hash l.plain_entries
          hashed_in a i l true y = subst (λ z. IsHashed hash z.plain_entries) (same_live y) tt
          hashed_in a i l false y = k.hashed a i l y

  -- it counts what it wiped
  pub counts_all : u.stage ≡ AtTotal → u'.kind ≡ Wipes n → u'.stage ≡ AtEnd OutcomeEnded → (control.after_count (neg_ℤ (pos (min n (2 ^ 63 - 1)))) w.control_state).count ≡ w.control_state.count -ℤ pos n
      → StepOf cmp hash gives w p x (control.after_count (neg_ℤ (pos (min n (2 ^ 63 - 1)))) w.control_state) w.tables c (label.Silent p)
  counts_all f kind h counted = step_of cmp hash gives w p x _ w.tables c (label.Silent p) at hashed unread (record {
    transition = Counts (λ q. p == q);
    can = ap is_lookup called;
    is = is_counted cmp hash gives w p x at c None 0 n _ (stands AtTotal f) (counted ∙ omega (arith, ints)) (mode_then n kind (AtEnd OutcomeEnded) h) unclaimed;
    follows = follows_then n kind (AtEnd OutcomeEnded) h tt;
    frame = counted_frame cmp hash gives w _ k;
  })
