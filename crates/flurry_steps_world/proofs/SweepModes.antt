-- Walks and clears, as the code and the machine have them: their frames, the next entry, and what is left.
use Rattle.std.specs.Prelude.{◌≡◌, ℕ, suc, ◌+◌, ◌^◌, ◌%◌, ◌≤◌, nat_lt, Bool, true, false, List, [], ◌∷◌, find, map, Option, Some, None, option_map, is_some, if◌then◌else◌}
use Rattle.std.specs.declared.cmp.Ordering.{Ordering}
use Rattle.std.specs.Ordering.{is_lt}
use Rattle.std.specs.Cmp.{IsTotalOrder}
use Rattle.std.proofs.Common.{arith, refl, sym, ◌∙◌, ap}
use Rattle.std.proofs.lemmas.Bool.{cases_lt}
use Rattle.flurry_base.specs.HashOrder.{is_pair_past}
use Rattle.flurry_base.specs.declared.call.Call.{Call}
use Rattle.flurry_base.specs.declared.call.Seen.{Seen}
use Rattle.flurry_bins_slots.specs.Slot.{PlainEntry}
use Rattle.flurry_steps_sweep.specs.Cursor as cursor
use Rattle.flurry_steps_sweep.specs.Cursor.{CursorState, at_base, after_split}
use Rattle.flurry_steps_sweep.specs.Sweep.{SweepKind, Reads, Wipes, stage_walked, stage_cleared}
use Rattle.flurry_steps_theory.specs.Map.{same}
use Rattle.flurry_steps_theory.specs.Bin.{past, first_past}
use Rattle.flurry_steps_theory.specs.Machine.{State, Walking, Clearing, Done, Unborn, Frame, halves, owes_removed, mode_at_table}
use Rattle.flurry_steps_theory.specs.Machine as machine
use Rattle.flurry_steps_theory.specs.Invariant.{Tables, AreNotUnborn}
use Rattle.flurry_steps_theory.proofs.Bins.{small_mod}
use Rattle.flurry_steps_world.specs.Entries.{entry_of_held, machine_entries, IsHashed}
use Rattle.flurry_steps_world.specs.World.{frame_of, frames_of, mode_over, mode_of_sweep, IsOwnHash, AreHashed, FollowsKind, IsFreshKind, FollowsSweep}
use Rattle.flurry_steps_world.proofs.EntryLaws.{order_at}

one_more : (n : ℕ) → n + 1 ≡ suc n
one_more n = omega arith

module _ {K V F : Type 0} where
  -- where the call begins in table a
  pub begins_over : (c : Call K V F) (w : SweepKind) (z : Option (Seen K V)) (a : ℕ) → FollowsKind c w z → IsFreshKind w → mode_over {V = V} w (at_base a 0) ≡ mode_at_table a c
  begins_over c Reads z a f fresh = sym (ap (mode_at_table a) f)
  begins_over c (Wipes n) z a f fresh = ap (λ m. Clearing m a 0 (frames_of (at_base a 0))) fresh ∙ sym (ap (mode_at_table a) f.0)

module _ {K : Type 0} where
  -- the halves of a frame
  pub halved_frames : (c : CursorState K) → frames_of (after_split c) ≡ halves (frame_of c.top) (map frame_of c.below)
  halved_frames c = ap (λ n. record { table = n; index = c.top.index; bound = option_map (λ b. b.1) c.top.bound } ∷ record { table = n; index = c.top.index + 2 ^ c.top.table; bound = option_map (λ b. b.1) c.top.bound } ∷ map frame_of c.below) (one_more c.top.table)

module _ {K V : Type 0} where
  -- once a bin is done
  walked_on : (e n : ℕ) (b : Bool) → mode_of_sweep {K = K} {V = V} (stage_walked (if b then Some (at_base e n) else None)) Reads ≡ (if b then Walking e n (record { table = e; index = n; bound = None } ∷ []) else Done None 0 0)
  walked_on e n true = refl
  walked_on e n false = refl

  pub walked : (e i : ℕ) (fs : List (cursor.Frame K)) → mode_of_sweep {K = K} {V = V} (stage_walked (cursor.onward e i fs)) Reads ≡ machine.onward Walking (Done None 0 0) e i (map frame_of fs)
  walked e i [] = walked_on e (i + 1) (nat_lt (i + 1) (2 ^ e)) ∙ ap (λ n. if nat_lt n (2 ^ e) then Walking e n (record { table = e; index = n; bound = None } ∷ []) else Done None 0 0) (one_more i)
  walked e i (f ∷ fs) = refl

  cleared_on : (m e n : ℕ) (b : Bool) → mode_of_sweep {K = K} {V = V} (stage_cleared (if b then Some (at_base e n) else None)) (Wipes m) ≡ (if b then Clearing m e n (record { table = e; index = n; bound = None } ∷ []) else Done None 0 m)
  cleared_on m e n true = refl
  cleared_on m e n false = refl

  pub cleared : (m e i : ℕ) (fs : List (cursor.Frame K)) → mode_of_sweep {K = K} {V = V} (stage_cleared (cursor.onward e i fs)) (Wipes m) ≡ machine.onward (Clearing m) (Done None 0 m) e i (map frame_of fs)
  cleared m e i [] = cleared_on m e (i + 1) (nat_lt (i + 1) (2 ^ e)) ∙ ap (λ n. if nat_lt n (2 ^ e) then Clearing m e n (record { table = e; index = n; bound = None } ∷ []) else Done None 0 m) (one_more i)
  cleared m e i (f ∷ fs) = refl

module _ (K V : Type 0) where
  -- it owes what it wiped
  owes_on : (m e n : ℕ) (b : Bool) → owes_removed {K = K} {V = V} (if b then Clearing m e n (record { table = e; index = n; bound = None } ∷ []) else Done None 0 m) ≡ m
  owes_on m e n true = refl
  owes_on m e n false = refl

  pub owes_onward : (m e i : ℕ) (fs : List (Frame K)) → owes_removed {K = K} {V = V} (machine.onward (Clearing m) (Done None 0 m) e i fs) ≡ m
  owes_onward m e i [] = owes_on m e (suc i) (nat_lt (suc i) (2 ^ e))
  owes_onward m e i (f ∷ fs) = refl

module _ {K : Type 0} (V : Type 0) (hash : K → ℕ) where
  -- bounds have their keys' hashes
  pub walked_hashed : (e i : ℕ) (fs : List (cursor.Frame K)) (w : SweepKind) → AreHashed hash fs → FollowsSweep {V = V} hash (stage_walked (cursor.onward e i fs)) w
  walked_hashed e i [] w h = by_end (nat_lt (i + 1) (2 ^ e))
    where
      by_end : (b : Bool) → FollowsSweep {V = V} hash (stage_walked (if b then Some (at_base e (i + 1)) else None)) w
      by_end true = (tt, tt)
      by_end false = tt
  walked_hashed e i (f ∷ fs) w h = h

  pub cleared_hashed : (e i : ℕ) (fs : List (cursor.Frame K)) (n : ℕ) → AreHashed hash fs → FollowsSweep {V = V} hash (stage_cleared (cursor.onward e i fs)) (Wipes n)
  cleared_hashed e i [] n h = by_end (nat_lt (i + 1) (2 ^ e))
    where
      by_end : (b : Bool) → FollowsSweep {V = V} hash (stage_cleared (if b then Some (at_base e (i + 1)) else None)) (Wipes n)
      by_end true = (tt, tt)
      by_end false = tt
  cleared_hashed e i (f ∷ fs) n h = h

module _ {K V : Type 0} (hash : K → ℕ) where
  -- an entry that is found has its key's hash
  pub found_hashed : (test : PlainEntry K V → Bool) (plain_entries : List (PlainEntry K V)) (y : PlainEntry K V) → IsHashed hash plain_entries → find test plain_entries ≡ Some y → y.0.0 ≡ hash y.0.1
  found_hashed test [] y hd h = cc
  found_hashed test (x ∷ plain_entries) y hd h = by_test (test x) refl (found_hashed test plain_entries y hd.1)
    where
      by_test : (b : Bool) → test x ≡ b → (find test plain_entries ≡ Some y → y.0.0 ≡ hash y.0.1) → y.0.0 ≡ hash y.0.1
      by_test true t ih = let same : Some x ≡ Some y = rw t at h in grind (arith, same, hd.0)
      by_test false t ih = ih (rw t at h)

module _ {K V : Type 0} (cmp : K → K → Ordering) (total : IsTotalOrder cmp) (hash : K → ℕ) (lawful : (j k : K) → same cmp j k ≡ true → hash j ≡ hash k) where
  past_alike : (bound : Option (ℕ × K)) (x : PlainEntry K V) → IsOwnHash hash bound → x.0.0 ≡ hash x.0.1 → past cmp hash (option_map (λ b. b.1) bound) x.0.1 ≡ is_pair_past cmp bound x
  past_alike None x own hd = refl
  past_alike (Some b) x own hd = sym (ap is_lt (order_at cmp total hash lawful b x.0 own hd))

  -- the next entry past a bound
  pub next_entry : (bound : Option (ℕ × K)) (plain_entries : List (PlainEntry K V)) → IsOwnHash hash bound → IsHashed hash plain_entries → first_past cmp hash (option_map (λ b. b.1) bound) (machine_entries plain_entries) ≡ option_map entry_of_held (find (is_pair_past cmp bound) plain_entries)
  next_entry bound [] own hd = refl
  next_entry bound (x ∷ plain_entries) own hd = by_test (is_pair_past cmp bound x) refl (next_entry bound plain_entries own hd.1)
    where
      by_test : (b : Bool) → is_pair_past cmp bound x ≡ b → first_past cmp hash (option_map (λ b. b.1) bound) (machine_entries plain_entries) ≡ option_map entry_of_held (find (is_pair_past cmp bound) plain_entries) → first_past cmp hash (option_map (λ b. b.1) bound) (machine_entries (x ∷ plain_entries)) ≡ option_map entry_of_held (find (is_pair_past cmp bound) (x ∷ plain_entries))
      by_test true t ih = rw (past_alike bound x own hd.0, t) refl
      by_test false t ih = rw (past_alike bound x own hd.0, t) ih

module _ {K V F : Type 0} (cmp : K → K → Ordering) (hash : K → ℕ) where
  -- a frame's bin is there
  pub frame_is_born : (home : ℕ → ℕ) (s : State K V F) (f : Frame K) (fs : List (Frame K)) → Tables cmp hash home s → is_some s.published ≡ true → AreNotUnborn home s.start (f ∷ fs) → s.slot f.table f.index ≡ Unborn → ⊥
  frame_is_born home s f fs t made born unborn =
      let here : f.index % 2 ^ f.table ≡ f.index = small_mod f.table f.index born.0.1 in
      let least : f.table ≤ home f.index = born.0.2 f.index here in
      let unborn_here : s.slot f.table (f.index % 2 ^ f.table) ≡ Unborn = ap (s.slot f.table) here ∙ unborn in
      grind (arith, unborn_here, least, born.0.0, t.live made f.index, t.below made f.index f.table, cases_lt f.table (home f.index))
