-- Bins: entries that ascend by (hash, key), and the part of them in a region.
use Rattle.std.specs.Prelude.{⊤, not, is_some, ℕ, ◌+◌, ◌-◌, nat_lt, ◌==◌, ◌&&◌, false, ◌%◌, ◌^◌, Bool, true, List, [], ◌∷◌, filter, Option, Some, None, if◌then◌else◌, ◌≡◌}
use Rattle.std.specs.declared.cmp.Ordering.{Ordering}
use Rattle.std.specs.declared.cmp.Ordering.TheVariants.{Less}
use Rattle.std.specs.Ordering.{nat_cmp, on, then_cmp, is_lt}
use Rattle.flurry_steps_theory.specs.Map.{Pairs, same}
use Rattle.flurry_steps_theory.specs.Trace.{in_region}
use Rattle.flurry_base.specs.declared.call.Call.{Call}
use Rattle.flurry_base.specs.declared.call.Call.TheVariants.{Insert, TryInsert, Compute, Alter, Remove, RemoveEntry, RemoveSeen}
use Rattle.flurry_base.specs.declared.reply.KeptReply.{KeptReply}
use Rattle.flurry_base.specs.declared.reply.KeptReply.TheVariants.{Value, Pair, New, Changed}

-- a key and its value, with the write number of the value
pub record Entry (K V : Type 0) : Type 0 where
  pub key : K
  pub value : V
  pub number : ℕ

-- the keys and values of a bin
abbrev pub pairs_of : {K V : Type 0} → List (Entry K V) → Pairs K V
pairs_of [] = []
pairs_of (x ∷ es) = (x.key, x.value) ∷ pairs_of es

-- the count of a bin's writes after one more; at the greatest number it stays
abbrev pub bump : ℕ → ℕ
bump n = if nat_lt n (2 ^ 64 - 1) then n + 1 else n

-- a write number is the one seen, and below the greatest
abbrev pub has_number : Option ℕ → ℕ → Bool
has_number None m = false
has_number (Some n) m = n == m && nat_lt m (2 ^ 64 - 1)

-- the write number of k's class
abbrev pub number_of : {K V : Type 0} (cmp : K → K → Ordering) → List (Entry K V) → K → Option ℕ
number_of cmp [] k = None
number_of cmp (x ∷ es) k = if same cmp x.key k then Some x.number else number_of cmp es k

module _ {K : Type 0} (cmp : K → K → Ordering) (hash : K → ℕ) where
  -- bins are ordered by (hash, key)
  abbrev pub order : K → K → Ordering
  order = then_cmp (on hash nat_cmp) cmp

  -- k comes after the bound, if there is one
  abbrev pub past : Option K → K → Bool
  past None k = true
  past (Some b) k = is_lt (order b k)

  module _ {V : Type 0} where
    -- the first entry past a bound
    abbrev pub first_past : Option K → List (Entry K V) → Option (Entry K V)
    first_past b [] = None
    first_past b (x ∷ es) = if past b x.key then Some x else first_past b es

    -- every entry comes after k
    abbrev pub Above : K → List (Entry K V) → Type 0
    Above k [] = ⊤
    Above k (x ∷ es) = (order k x.key ≡ Less) × Above k es

    -- each entry comes after those before it
    abbrev pub IsAscending : List (Entry K V) → Type 0
    IsAscending [] = ⊤
    IsAscending (x ∷ es) = Above x.key es × IsAscending es

module _ {K V : Type 0} (hash : K → ℕ) where
  -- every entry's hash is in region (e, i)
  abbrev pub InRegion : ℕ → ℕ → List (Entry K V) → Type 0
  InRegion e i [] = ⊤
  InRegion e i (x ∷ es) = (hash x.key % 2 ^ e ≡ i) × InRegion e i es

  -- the entries whose hash is in region (e, i), in their order
  abbrev pub half : ℕ → ℕ → List (Entry K V) → List (Entry K V)
  half e i es = filter (λ x. in_region e i (hash x.key)) es

-- ONE STEP
module _ {K V : Type 0} (cmp : K → K → Ordering) (hash : K → ℕ) where
  -- the entry at its place in the order
  abbrev pub place : Entry K V → List (Entry K V) → List (Entry K V)
  place x [] = x ∷ []
  place x (y ∷ es) = if is_lt (order cmp hash x.key y.key) then x ∷ y ∷ es else y ∷ place x es

  -- another value, with its number, at k's class
  abbrev pub rewrite : K → V → ℕ → List (Entry K V) → List (Entry K V)
  rewrite k v n [] = []
  rewrite k v n (x ∷ es) = if same cmp x.key k then record { key = x.key; value = v; number = n } ∷ es else x ∷ rewrite k v n es

  -- without k's class
  abbrev pub leave_out : K → List (Entry K V) → List (Entry K V)
  leave_out k es = filter (λ x. not (same cmp x.key k)) es

  -- with this value and number at k's class, under the key that is stored there, if there is one
  abbrev pub write_entry : K → V → ℕ → List (Entry K V) → List (Entry K V)
  write_entry k v n es = if is_some (number_of cmp es k) then rewrite k v n es else place (record { key = k; value = v; number = n }) es

  -- the bin and its count of writes after a call with this reply
  abbrev pub bin_after : {F : Type 0} → Call K V F → KeptReply K V → List (Entry K V) → ℕ → List (Entry K V) × ℕ
  bin_after (Insert k v) r es n = (write_entry k v (bump n) es, bump n)
  bin_after (TryInsert k v) (New w) es n = (place (record { key = k; value = v; number = bump n }) es, bump n)
  bin_after (Compute k f) (Value (Some w)) es n = (rewrite k w (bump n) es, bump n)
  bin_after (Compute k f) (Value None) es n = (leave_out k es, n)
  bin_after (Alter k may_add f) (New w) es n = (place (record { key = k; value = w; number = bump n }) es, bump n)
  bin_after (Alter k may_add f) (Changed w o) es n = (rewrite k w (bump n) es, bump n)
  bin_after (Alter k may_add f) (Pair (Some x)) es n = (leave_out k es, n)
  bin_after (Remove k) r es n = (leave_out k es, n)
  bin_after (RemoveEntry k) r es n = (leave_out k es, n)
  bin_after (RemoveSeen z) (Value (Some w)) es n = (leave_out z.key es, n)
  bin_after c r es n = (es, n)
