-- Pairs that come from bins, and from maps of pieces.
use Rattle.std.specs.Prelude.{◌≡◌, ◌++◌, List, [], ◌∷◌, map}
use Rattle.std.specs.Map.{keys_of}
use Rattle.std.specs.declared.cmp.Ordering.{Ordering}
use Rattle.std.specs.List.Sorted.{IsPermutation}
use Rattle.flurry_bins.specs.declared.bin.entry.Entry.{Entry}
use Rattle.flurry_bins.specs.PlainEntries.{pairs_of_entries}
use Rattle.flurry_bins.specs.declared.bin.adaptive.Bin.{Bin}
use Rattle.flurry_bins.specs.declared.bin.list.ListBin.{ListBin}
use Rattle.flurry_bins.specs.Bin.{entries_of_list}
use Rattle.flurry_base.specs.FiniteMap.{with_all}
use Rattle.flurry_base.specs.FiniteSet.{with_elements}
use Rattle.flurry_seq.specs.MapsOfBins.{maps_of_bins}
use Rattle.flurry_seq.specs.Table.{pair_of, all_pairs}

-- the pairs of a bin's entries, in their order
abbrev pub pairs_in : {K V A : Type 0} → List (Entry K V A) → List (K × V)
pairs_in es = map pair_of (pairs_of_entries es)

-- the pairs of bins, in their order
abbrev pub pairs_of_bins : {K V A : Type 0} {o : _} {e : _} {p : _} → List (Bin K V A o e p) → List (K × V)
pairs_of_bins bins = all_pairs (maps_of_bins bins)

-- the keys of a bin that is a list, and of bins, in their order
abbrev pub elements_of_list : {K V A : Type 0} {o : _} {e : _} {p : _} → ListBin K V A o e p → List K
elements_of_list list = keys_of (pairs_in (entries_of_list list))

abbrev pub elements_of_bins : {K V A : Type 0} {o : _} {e : _} {p : _} → List (Bin K V A o e p) → List K
elements_of_bins bins = keys_of (pairs_of_bins bins)

module _ {K V : Type 0} (cmp : K → K → Ordering) where
  -- a front of these pairs was put into the map, in their order
  abbrev pub HasFrontOf : List (K × V) → List (K × V) → List (K × V) → Type 0
  HasFrontOf old pairs new = (front rest : List (K × V)) × (pairs ≡ front ++ rest) × (new ≡ with_all cmp old front)

  -- some of these pairs were put into the map
  abbrev pub HasSomeOf : List (K × V) → List (K × V) → List (K × V) → Type 0
  HasSomeOf old pairs new = (some others : List (K × V)) × IsPermutation pairs (some ++ others) × (new ≡ with_all cmp old some)

  -- maps put into a map one after another
  abbrev pub with_maps : List (K × V) → List (List (K × V)) → List (K × V)
  with_maps m [] = m
  with_maps m (n ∷ ns) = with_maps (with_all cmp m n) ns

-- an element as the key of a pair
abbrev pub with_unit : {T : Type 0} → T → T × Unit {0}
with_unit x = (x, tt)

module _ {T : Type 0} (cmp : T → T → Ordering) where
  -- a front of these elements was put into the set, in their order
  abbrev pub HasFirstOf : List T → List T → List T → Type 0
  HasFirstOf old elements new = (front rest : List T) × (elements ≡ front ++ rest) × (new ≡ with_elements cmp old front)

  -- some of these elements were put into the set
  abbrev pub HasAnyOf : List T → List T → List T → Type 0
  HasAnyOf old elements new = (some others : List T) × IsPermutation elements (some ++ others) × (new ≡ with_elements cmp old some)
