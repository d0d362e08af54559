-- A finite map: pairs of a stored key and a value, in the strictly ascending order of the keys. The keys that compare as equal
-- are one class, and a map has at most one pair of each. Two such lists with the same pair at each class are one list, so a
-- map after a call is told by an equation.
use Rattle.std.specs.Prelude.{List, [], ◌∷◌, Option}
use Rattle.std.specs.declared.cmp.Ordering.{Ordering}
use Rattle.std.specs.Option.{option_map, option_map_or}
use Rattle.std.specs.Map as entries
use Rattle.std.specs.BTreeMap as tree
use Rattle.std.specs.List.Sorted.{IsStrictlySortedBy}

module _ {K V : Type 0} (cmp : K → K → Ordering) where
  -- each key is below those after it
  abbrev pub IsFiniteMap : List (K × V) → Type 0
  IsFiniteMap m = IsStrictlySortedBy cmp (entries.keys_of m)

  -- what the map has at the class of k: the stored key, and the value
  abbrev pub pair_at : List (K × V) → K → Option (K × V)
  pair_at m k = entries.lookup_entry (tree.is_at (cmp k)) m

  -- the value there
  abbrev pub value_at : List (K × V) → K → Option V
  value_at m k = option_map (λ (p : K × V). p.1) (pair_at m k)

  -- the map with v at the class of k: a stored key stays and takes the value, else (k, v) goes to its place
  abbrev pub with_pair : List (K × V) → K → V → List (K × V)
  with_pair m k v = tree.insert_entry cmp m k v

  -- the map with pairs put in their order
  abbrev pub with_all : List (K × V) → List (K × V) → List (K × V)
  with_all m [] = m
  with_all m (p ∷ ps) = with_all (with_pair m p.0 p.1) ps

  -- the map without the class of k
  abbrev pub without : List (K × V) → K → List (K × V)
  without m k = entries.remove_entry (tree.is_at (cmp k)) m

  -- the key that is stored after k is put
  abbrev pub stored_key : List (K × V) → K → K
  stored_key m k = option_map_or (λ (p : K × V). p.0) (pair_at m k) k

  -- the finite map of pairs in any order: of each class the first pair
  abbrev pub map_of_pairs : List (K × V) → List (K × V)
  map_of_pairs [] = []
  map_of_pairs (p ∷ ps) = with_pair (without (map_of_pairs ps) p.0) p.0 p.1
