-- What is kept of a table and of an owned map after a function was called once on each pair.
use Rattle.std.specs.Prelude.{◌≡◌, ℕ, Bool, List, [], ◌∷◌}
use Rattle.std.specs.declared.cmp.Ordering.{Ordering}
use Rattle.std.specs.Borrow.{Bor}
use Rattle.std.specs.List.Sorted.{IsPermutation}
use Rattle.flurry_base.specs.FiniteMap.{map_of_pairs}
use Rattle.flurry_base.specs.Keeps.{Keeps, CalledAtPair}
use Rattle.flurry_seq.specs.Contents.{Contents, with_pairs}
use Rattle.flurry_seq.specs.Table.{pair_of}

module _ {F K V : Type 0} (step : F → Bor K → Bor V → Bool → F → Type 0) where
  -- a call at the key and the value of a table's entry
  abbrev pub CalledAtPlain : F → (ℕ × K) × V → Bool → F → Type 0
  CalledAtPlain f e answer next = CalledAtPair step f (pair_of e) answer next

  -- a function was called on the entries of each bin, one bin after another, and each bin keeps those at which it answered true
  abbrev pub KeepsBins : F → List (List ((ℕ × K) × V)) → List (List ((ℕ × K) × V)) → F → Type 0
  KeepsBins first [] kept last = (kept ≡ []) × (first ≡ last)
  KeepsBins first (b ∷ bins) kept last =
      (new : List ((ℕ × K) × V)) × (next : F) × (rest : List (List ((ℕ × K) × V))) × Keeps CalledAtPlain first b new next × KeepsBins next bins rest last × (kept ≡ new ∷ rest)

  -- a function was called once on each pair of a map, in an order that is open, and the pairs at which it answered true are left.
  -- The bins and the hasher stay
  abbrev pub Retains : {S : Type 0} → (K → K → Ordering) → F → Contents K V S → Contents K V S → Type 0
  Retains cmp first old new =
      (order kept : List (K × V)) × (last : F) × IsPermutation old.pairs order × Keeps (CalledAtPair step) first order kept last × (new ≡ with_pairs old (map_of_pairs cmp kept))
