-- What an iterator has left after a step.
use Rattle.std.proofs.Common.{◌≡◌, ℕ, suc, Bool, true, false, List, [], ◌∷◌, ◌++◌, map, filter, Option, Some, None, refl, sym, ap, ◌∙◌, subst, Ordering, Less, Equal, Greater}
use Rattle.std.specs.Ordering.{is_lt, ordering_reverse}
use Rattle.std.specs.Cmp.{IsTotalOrder, tied_itself}
use Rattle.std.specs.List.{AllByRecursion, find}
use Rattle.std.specs.List.Sorted.{IsStrictlySortedBy}
use Rattle.std.proofs.lemmas.List.{map-append}
use Rattle.std.specs.Borrow.{Bor}
use Rattle.std.specs.Arc.{arc_value}
use Rattle.std.proofs.lemmas.Map.Keys.{sorted_head, sorted_tail}
use Rattle.flurry_bins.specs.declared.bin.adaptive.Bin.{Bin}
use Rattle.flurry_bins.specs.declared.bin.entry.Entry.{Entry}
use Rattle.flurry_bins.specs.Bin.{entries_of_bin, ascending_of_bin}
use Rattle.flurry_bins.specs.Entries.{entry_cmp, is_past_bound, first_past}
use Rattle.flurry_bins.specs.PlainEntries.{pair_of_entry, pairs_of_entries}
use Rattle.flurry_bins.proofs.PlainEntryLaws.{entry_total}
use Rattle.flurry_base.proofs.HashOrderLaws.{hash_then_key_total}
use Rattle.flurry_base.proofs.ListParts.{all_map, all_append, filter_kept}
use Rattle.flurry_seq.specs.Apart.{AreHashed}
use Rattle.flurry_seq.specs.Invariant.{AreBinsFrom}
use Rattle.flurry_seq.specs.Table.{pair_of, all_pairs, all_entries}
use Rattle.flurry_seq.specs.MapsOfBins.{maps_of_bins}
use Rattle.flurry_seq.specs.Iter.{iter_place, entries_left}

same_option : {X : Type 0} {x y : X} → Some x ≡ Some y → x ≡ y
same_option e = cc

less_of : (r : Ordering) → is_lt r ≡ true → r ≡ Less
less_of Less e = refl
less_of Equal e = cc
less_of Greater e = cc

module _ {X : Type 0} where
  -- what holds of all holds of the one that is found
  found_holds : (P : X → Type 0) (p : X → Bool) (xs : List X) (e : X) → AllByRecursion P xs → find p xs ≡ Some e → P e
  found_holds P p [] e h f = cc
  found_holds P p (x ∷ xs) e h f = by_test (p x) refl (found_holds P p xs e h.1)
    where
      by_test : (t : Bool) → p x ≡ t → (find p xs ≡ Some e → P e) → P e
      by_test true q ih = let same : x ≡ e = same_option (rw q at f) in subst P same h.0
      by_test false q ih = ih (rw q at f)

  none_found : (p : X → Bool) (xs : List X) → find p xs ≡ None → filter p xs ≡ []
  none_found p [] f = refl
  none_found p (x ∷ xs) f = by_test (p x) refl (none_found p xs)
    where
      by_test : (t : Bool) → p x ≡ t → (find p xs ≡ None → filter p xs ≡ []) → filter p (x ∷ xs) ≡ []
      by_test true q ih = let never = rw q at f in cc
      by_test false q ih = rw q (ih (rw q at f))

-- the first one past a bound, and those past that one
module _ {X : Type 0} {R : X → X → Ordering} (o : IsTotalOrder R) (p : X → Bool) (further : (x y : X) → p x ≡ true → R x y ≡ Less → p y ≡ true) where
  past_first : (xs : List X) (e : X) → IsStrictlySortedBy R xs → find p xs ≡ Some e → filter p xs ≡ e ∷ filter (λ y. is_lt (R e y)) xs
  past_first [] e s f = cc
  past_first (x ∷ xs) e s f = by_test (p x) refl (past_first xs e (sorted_tail R x xs s))
    where
      above : AllByRecursion (λ y. R x y ≡ Less) xs
      above = sorted_head R x xs s

      by_test : (t : Bool) → p x ≡ t → (find p xs ≡ Some e → filter p xs ≡ e ∷ filter (λ y. is_lt (R e y)) xs) → filter p (x ∷ xs) ≡ e ∷ filter (λ y. is_lt (R e y)) (x ∷ xs)
      by_test true q ih =
          let same : x ≡ e = same_option (rw q at f) in
          let kept : filter p xs ≡ xs = filter_kept p xs (all_map _ _ (λ y l. further x y q l) xs above) in
          let rest : filter (λ y. is_lt (R x y)) xs ≡ xs = filter_kept (λ y. is_lt (R x y)) xs (all_map _ _ (λ y l. ap is_lt l) xs above) in
          let itself : R x x ≡ Equal = tied_itself o x in
          subst (λ z. filter p (x ∷ xs) ≡ z ∷ filter (λ y. is_lt (R z y)) (x ∷ xs)) same (rw (q, itself) (ap (λ l. x ∷ l) (kept ∙ sym rest)))
      by_test false q ih =
          let back : R e x ≡ Greater = o.antisymm e x ∙ ap ordering_reverse (found_holds (λ y. R x y ≡ Less) p xs e above (rw q at f)) in
          rw (q, back) (ih (rw q at f))

module _ {K V A : Type 0} {cmp : K → K → Ordering} (o : IsTotalOrder cmp) where
  -- past a bound, and further
  bound_further : (bound : Option (ℕ × K)) (x y : Entry K V A) → is_past_bound cmp bound x ≡ true → entry_cmp cmp x y ≡ Less → is_past_bound cmp bound y ≡ true
  bound_further None x y p l = refl
  bound_further (Some b) x y p l = ap is_lt ((hash_then_key_total o).trans b (x.hash, arc_value x.key) (y.hash, arc_value y.key) (less_of _ p) l)

-- a table's pairs are those of its entries
pub all_pairs-of_entries : {K V : Type 0} (bins : List (List ((ℕ × K) × V))) → map pair_of (all_entries bins) ≡ all_pairs bins
all_pairs-of_entries [] = refl
all_pairs-of_entries (b ∷ bins) = map-append pair_of b (all_entries bins) ∙ ap (λ l. map pair_of b ++ l) (all_pairs-of_entries bins)

module _ {K V A : Type 0} {o : _} {e : _} {p : _} where
  pub all_left : (bins : List (Bin K V A o e p)) → entries_left o.cmp bins None ≡ all_entries (maps_of_bins bins)
  all_left [] = refl
  all_left (b ∷ bins) = ap (λ es. pairs_of_entries es ++ all_entries (maps_of_bins bins)) (all_past (entries_of_bin b))
    where
      all_past : (es : List (Entry K V A)) → filter (is_past_bound o.cmp None) es ≡ es
      all_past [] = refl
      all_past (x ∷ es) = ap (λ l. x ∷ l) (all_past es)

  -- b stands before the other bins
  module _ (all : List (Bin K V A o e p)) (b : Bin K V A o e p) (bins : List (Bin K V A o e p)) (is : all ≡ b ∷ bins) (last : Option (Bor (Entry K V A))) where
    pub left_after : IsTotalOrder o.cmp → (x : Bor (Entry K V A)) → Some x.now ≡ first_past o.cmp (iter_place last) (entries_of_bin b)
        → entries_left o.cmp all last ≡ pair_of_entry x.now ∷ entries_left o.cmp all (Some x)
    left_after total x f =
        rw is
        (ap (λ es. pairs_of_entries es ++ all_entries (maps_of_bins bins))
        (past_first (entry_total total) (is_past_bound o.cmp (iter_place last)) (bound_further total (iter_place last)) (entries_of_bin b) x.now (ascending_of_bin b) (sym f)))

    pub left_behind : None ≡ first_past o.cmp (iter_place last) (entries_of_bin b) → entries_left o.cmp all last ≡ entries_left o.cmp bins None
    left_behind f =
        rw is
        (ap (λ es. pairs_of_entries es ++ all_entries (maps_of_bins bins)) (none_found (is_past_bound o.cmp (iter_place last)) (entries_of_bin b) (sym f)) ∙ sym (all_left bins))

-- the entries of a table's bins lie under their keys' hashes
pub all_hashed : {K V : Type 0} (cmp : K → K → Ordering) (hash : K → ℕ) (n i : ℕ) (bins : List (List ((ℕ × K) × V))) → AreBinsFrom cmp hash n i bins → AreHashed hash (all_entries bins)
all_hashed cmp hash n i [] h = tt
all_hashed cmp hash n i (b ∷ bins) h = all_append _ b (all_entries bins) (all_map _ _ (λ e p. p.0) b h.0.placed) (all_hashed cmp hash n (suc i) bins h.1)
