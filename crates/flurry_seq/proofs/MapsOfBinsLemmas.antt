-- A call of one bin as a call of the table that it stands in.
use Rattle.std.proofs.Common.{◌≡◌, ℕ, ◌+◌, ◌++◌, true, false, ◌^◌, ◌<◌, List, [], ◌∷◌, length, get_or, set, Option, None, Some, option_map, refl, sym, ap, ◌∙◌, subst, arith, inl, inr}
use Rattle.std.specs.Option.{IsNone, IsSome}
use Rattle.std.specs.Arc.{arc_value}
use Rattle.std.specs.declared.sync.Arc.{Arc}
use Rattle.std.specs.Cmp.{IsTotalOrder}
use Rattle.std.proofs.lemmas.List.{get_or-map, map-set, map-append, length-map}
use Rattle.std.proofs.Math.Seq.{map-set_same}
use Rattle.std.proofs.lemmas.Bool.{cases_lt}
use Rattle.flurry_bins.specs.declared.bin.adaptive.Bin.{Bin}
use Rattle.flurry_bins.specs.Bin.{entries_of_bin, ascending_of_bin, is_tree, shape_by, shape_of_bin, sized_of_bin}
use Rattle.flurry_base.specs.BinSizes.{IsSized}
use Rattle.flurry_seq.specs.Shapes.{count_in, IsFit}
use Rattle.std.specs.Prelude.{◌==◌, Bool}
use Rattle.std.proofs.lemmas.Bool.Decides.{nat_tests}
use Rattle.flurry_bins.specs.declared.bin.entry.Entry.{Entry}
use Rattle.flurry_bins.specs.Entries.{entry_at, with_entry, with_value_at, without as without_place, with_bit, IsInsertion}
use Rattle.flurry_base.specs.FiniteMap.{pair_at, with_pair, without}
use Rattle.flurry_base.specs.HashOrder.{hash_then_key}
use Rattle.flurry_bins.specs.PlainEntries.{pair_of_entry, pairs_of_entries}
use Rattle.flurry_bins.proofs.PlainEntryLaws.{pair_of_entry-entry_at, pair_of_entry-without, pair_of_entry-with_entry, pair_of_entry-with_value_at, pair_of_entry-with_bit}
use Rattle.flurry_seq.specs.MapsOfBins.{plain_bin, maps_of_bins}
use Rattle.flurry_seq.specs.Table.{bin_of, bin_at, entry_in, bins_with, bins_without, half_of}
use Rattle.flurry_seq.proofs.HalvingLemmas.{lows, highs, lows_at, low_half, high_half, halved_more}

-- ---- the bin b at the place of the hash h

module _ {K V A : Type 0} {o : _} {e : _} {p : _} (xs : List (Bin K V A o e p)) (h i : ℕ) (b : Bin K V A o e p) where
  module _ (lt : i < length xs) (is : b ≡ get_or xs i b) (at : i ≡ bin_of (length xs) h) where
    at_seen : bin_of (length (maps_of_bins xs)) h ≡ i
    at_seen = rw length-map (sym at)

    pub bin_here : bin_at (maps_of_bins xs) h ≡ plain_bin b
    bin_here = ap (λ j. get_or (maps_of_bins xs) j []) at_seen ∙ get_or-map plain_bin xs i b [] lt ∙ ap plain_bin (sym is)

    pub entry_here : (k : K) → entry_in o.cmp (maps_of_bins xs) h k ≡ option_map pair_of_entry (entry_at o.cmp h k (entries_of_bin b))
    entry_here k = ap (λ m. pair_at (hash_then_key o.cmp) m (h, k)) bin_here ∙ pair_of_entry-entry_at o.cmp h k (entries_of_bin b)

    written : (c : Bin K V A o e p) (m : List ((ℕ × K) × V)) → plain_bin c ≡ m → maps_of_bins (set xs i c) ≡ set (maps_of_bins xs) (bin_of (length (maps_of_bins xs)) h) m
    written c m e = map-set plain_bin xs i c ∙ ap (λ x. set (maps_of_bins xs) i x) e ∙ ap (λ j. set (maps_of_bins xs) j m) (sym at_seen)

    with_here : (k : K) (v : V) (c : Bin K V A o e p) → plain_bin c ≡ with_pair (hash_then_key o.cmp) (plain_bin b) (h, k) v → maps_of_bins (set xs i c) ≡ bins_with o.cmp (maps_of_bins xs) h k v
    with_here k v c e = written c _ (e ∙ ap (λ m. with_pair (hash_then_key o.cmp) m (h, k) v) (sym bin_here))

    module _ (total : IsTotalOrder o.cmp) where
      pub replaced_here : (k : K) (v : Arc V A) (n : ℕ) (c : Bin K V A o e p) → IsSome (entry_at o.cmp h k (entries_of_bin b)) → entries_of_bin c ≡ with_value_at o.cmp h k v n (entries_of_bin b)
          → maps_of_bins (set xs i c) ≡ bins_with o.cmp (maps_of_bins xs) h k (arc_value v)
      replaced_here k v n c some e = with_here k (arc_value v) c (ap pairs_of_entries e ∙ pair_of_entry-with_value_at total h k v n (entries_of_bin b) (ascending_of_bin b) some)

      pub removed_here : (k : K) (c : Bin K V A o e p) → entries_of_bin c ≡ without_place o.cmp h k (entries_of_bin b) → maps_of_bins (set xs i c) ≡ bins_without o.cmp (maps_of_bins xs) h k
      removed_here k c e =
          written c _ (ap pairs_of_entries e ∙ pair_of_entry-without total h k (entries_of_bin b) (ascending_of_bin b) ∙ ap (λ m. without (hash_then_key o.cmp) m (h, k)) (sym bin_here))

  pub placed_here : (x : Entry K V A) (c : Bin K V A o e p) → i < length xs → b ≡ get_or xs i b → i ≡ bin_of (length xs) h → IsTotalOrder o.cmp → x.hash ≡ h
      → IsNone (entry_at o.cmp x.hash (arc_value x.key) (entries_of_bin b)) → entries_of_bin c ≡ with_entry o.cmp x (entries_of_bin b)
      → maps_of_bins (set xs i c) ≡ bins_with o.cmp (maps_of_bins xs) x.hash (arc_value x.key) (arc_value x.value)
  placed_here x c lt is at total same none e =
      subst (λ y. maps_of_bins (set xs i c) ≡ bins_with o.cmp (maps_of_bins xs) y (arc_value x.key) (arc_value x.value)) (sym same)
      (with_here lt is at (arc_value x.key) (arc_value x.value) c
      (ap pairs_of_entries e ∙ pair_of_entry-with_entry total x (entries_of_bin b) (ascending_of_bin b) none ∙ ap (λ y. with_pair (hash_then_key o.cmp) (plain_bin b) (y, arc_value x.key) (arc_value x.value)) same))

pub value_mapped : {K V A : Type 0} (w : Option (Entry K V A)) (v : Arc V A) → option_map (λ (e : Entry K V A). e.value) w ≡ Some v → option_map (λ (e : (ℕ × K) × V). e.1) (option_map pair_of_entry w) ≡ Some (arc_value v)
value_mapped None v h = cc
value_mapped (Some x) v h = let same : x.value ≡ v = cc in ap (λ y. Some (arc_value y)) same

value_some : {K V A : Type 0} (w : Option (Entry K V A)) (v : Arc V A) → option_map (λ (e : Entry K V A). e.value) w ≡ Some v → IsSome w
value_some None v h = cc
value_some (Some x) v h = refl

-- an insertion into the bin b of the place of the hash h
module _ {K V A : Type 0} {o : _} {e : _} {p : _} (xs : List (Bin K V A o e p)) (h i : ℕ) (b c : Bin K V A o e p) (lt : i < length xs) (is : b ≡ get_or xs i b) (at : i ≡ bin_of (length xs) h) (k : K) (v : Arc V A) (n : ℕ) where
  pub inserted_here : IsTotalOrder o.cmp → (old : Option (Arc V A)) → IsInsertion o.cmp h k v n old (entries_of_bin b) (entries_of_bin c) → maps_of_bins (set xs i c) ≡ bins_with o.cmp (maps_of_bins xs) h k (arc_value v)
  inserted_here total None put =
      let x = put.1 in
      let of = put.2 in
      let none : IsNone (entry_at o.cmp x.hash (arc_value x.key) (entries_of_bin b)) = rw (of.0, of.1, put.0) refl in
      let made : maps_of_bins (set xs i c) ≡ bins_with o.cmp (maps_of_bins xs) x.hash (arc_value x.key) (arc_value x.value) = placed_here xs h i b x c lt is at total of.0 none put.3 in
      rw (of.0, of.1, of.2) at made
  inserted_here total (Some old) put = replaced_here xs h i b lt is at total k v n c (value_some (entry_at o.cmp h k (entries_of_bin b)) old put.0) put.1

  pub old_here : (old : Option (Arc V A)) → IsInsertion o.cmp h k v n old (entries_of_bin b) (entries_of_bin c) → option_map arc_value old ≡ option_map (λ (e : (ℕ × K) × V). e.1) (entry_in o.cmp (maps_of_bins xs) h k)
  old_here None put = sym (ap (option_map (λ (e : (ℕ × K) × V). e.1)) (entry_here xs h i b lt is at k ∙ ap (option_map pair_of_entry) put.0))
  old_here (Some old) put = sym (ap (option_map (λ (e : (ℕ × K) × V). e.1)) (entry_here xs h i b lt is at k) ∙ value_mapped (entry_at o.cmp h k (entries_of_bin b)) old put.0)

-- a bin whose entries stay
pub kept_here : {K V A : Type 0} {o : _} {e : _} {p : _} (xs : List (Bin K V A o e p)) (i : ℕ) (b c : Bin K V A o e p) → b ≡ get_or xs i b → entries_of_bin c ≡ entries_of_bin b → maps_of_bins (set xs i c) ≡ maps_of_bins xs
kept_here xs i b c is e = map-set_same plain_bin xs i c b (ap pairs_of_entries e ∙ ap plain_bin is)

-- where something stands, there is a table
pub entry_some : {K V A : Type 0} {o : _} {e : _} {p : _} (xs : List (Bin K V A o e p)) (h : ℕ) (k : K) → IsSome (entry_in o.cmp (maps_of_bins xs) h k) → 0 < length xs
entry_some [] h k some = cc
entry_some (x ∷ xs) h k some = omega arith

-- the bin at a place is halved
pub halved_here : {K V A : Type 0} {o : _} {e : _} {p : _} (xs old : List (Bin K V A o e p)) (at bit : ℕ) (b low high : Bin K V A o e p) → length old ≡ 2 ^ bit → at < length old → at < length xs
    → maps_of_bins xs ≡ lows (length old) at (maps_of_bins old) ++ highs (length old) at (maps_of_bins old) → b ≡ get_or xs at b
    → entries_of_bin low ≡ with_bit bit 0 (entries_of_bin b) → entries_of_bin high ≡ with_bit bit 1 (entries_of_bin b)
    → maps_of_bins (set xs at low ++ high ∷ []) ≡ lows (length old) (at + 1) (maps_of_bins old) ++ highs (length old) (at + 1) (maps_of_bins old)
halved_here {o = o} xs old at bit b low high size lt in_xs halves is is_low is_high =
    let lt_seen : at < length (maps_of_bins old) = rw length-map lt in
    let before : plain_bin b ≡ get_or (maps_of_bins old) at [] = ap plain_bin is ∙ sym (get_or-map plain_bin xs at b [] in_xs) ∙ ap (λ l. get_or l at []) halves ∙ lows_at (length old) at (maps_of_bins old) _ lt_seen in
    let low_is : plain_bin low ≡ half_of (length old) false (get_or (maps_of_bins old) at []) =
    ap pairs_of_entries is_low ∙ pair_of_entry-with_bit o.cmp bit 0 (entries_of_bin b) ∙ low_half bit (plain_bin b) ∙ ap (λ n. half_of n false (plain_bin b)) (sym size) ∙ ap (half_of (length old) false) before in
    let high_is : plain_bin high ≡ half_of (length old) true (get_or (maps_of_bins old) at []) =
    ap pairs_of_entries is_high ∙ pair_of_entry-with_bit o.cmp bit 1 (entries_of_bin b) ∙ high_half bit (plain_bin b) ∙ ap (λ n. half_of n true (plain_bin b)) (sym size) ∙ ap (half_of (length old) true) before in
    map-append plain_bin (set xs at low) (high ∷ [])
    ∙ ap (λ l. l ++ plain_bin high ∷ []) (map-set plain_bin xs at low ∙ ap (λ l. set l at (plain_bin low)) halves)
    ∙ ap (λ b. set (lows (length old) at (maps_of_bins old) ++ highs (length old) at (maps_of_bins old)) at b ++ plain_bin high ∷ []) low_is
    ∙ ap (λ b. set (lows (length old) at (maps_of_bins old) ++ highs (length old) at (maps_of_bins old)) at (half_of (length old) false (get_or (maps_of_bins old) at [])) ++ b ∷ []) high_is
    ∙ halved_more (length old) at (maps_of_bins old) lt_seen

-- ---- shapes

count_by_shape : (t : Bool) (n : ℕ) → count_in (shape_by t n) ≡ n
count_by_shape true n = refl
count_by_shape false n = elim (cases_lt 0 n) [
  | inl lt ↦ let t : (n == 0) ≡ false = grind (arith, nat_tests) in rw t refl
  | inr ge ↦ let z : n ≡ 0 = omega arith in rw z refl
]

fit_by_size : (t : Bool) (n : ℕ) → IsSized t n → IsFit (shape_by t n)
fit_by_size true n h = h
fit_by_size false n h = elim (cases_lt 0 n) [
  | inl lt ↦ let t : (n == 0) ≡ false = grind (arith, nat_tests) in rw t (lt, h)
  | inr ge ↦ let z : n ≡ 0 = omega arith in rw z tt
]

pub shape_count : {K V A : Type 0} {o : _} {e : _} {p : _} (b : Bin K V A o e p) → count_in (shape_of_bin b) ≡ length (plain_bin b)
shape_count b = count_by_shape (is_tree b) (length (entries_of_bin b)) ∙ sym (length-map (entries_of_bin b) pair_of_entry)

pub shape_fit : {K V A : Type 0} {o : _} {e : _} {p : _} (b : Bin K V A o e p) → IsFit (shape_of_bin b)
shape_fit b = fit_by_size (is_tree b) (length (entries_of_bin b)) (sized_of_bin b)
