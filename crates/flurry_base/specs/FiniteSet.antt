-- A finite set: elements in strictly ascending order. The elements that compare as equal are one class, and a set has at most one
-- element of each. Two such lists with the same element at each class are one list, so a set after a call is told by an equation.
use Rattle.std.specs.Prelude.{List, [], ◌∷◌, Option, IsSome, IsNone, filter, find, not}
use Rattle.std.specs.declared.cmp.Ordering.{Ordering}
use Rattle.std.specs.BTreeMap as tree
use Rattle.std.specs.BTreeSet as sorted
use Rattle.std.specs.List.Sorted.{IsStrictlySortedBy}

module _ {T : Type 0} (cmp : T → T → Ordering) where
  -- each element is below those after it
  abbrev pub IsFiniteSet : List T → Type 0
  IsFiniteSet s = IsStrictlySortedBy cmp s

  -- the stored element of the class of x
  abbrev pub element_at : List T → T → Option T
  element_at s x = find (tree.is_at (cmp x)) s

  -- the set with the class of x: a stored element stays, else x goes to its place
  abbrev pub with_element : List T → T → List T
  with_element s x = sorted.insert_key cmp s x

  -- the set with elements put in their order
  abbrev pub with_elements : List T → List T → List T
  with_elements s [] = s
  with_elements s (x ∷ xs) = with_elements (with_element s x) xs

  -- the set without the class of x
  abbrev pub without_element : List T → T → List T
  without_element s x = filter (λ y. not (tree.is_at (cmp x) y)) s

  -- the finite set of elements in any order: of each class the first
  abbrev pub set_of_elements : List T → List T
  set_of_elements [] = []
  set_of_elements (x ∷ xs) = with_element (without_element (set_of_elements xs) x) x

  -- each class of s is one of t
  abbrev pub IsSubset : List T → List T → Type 0
  IsSubset s t = (x : T) → IsSome (element_at s x) → IsSome (element_at t x)

  -- no class of s is one of t
  abbrev pub AreDisjoint : List T → List T → Type 0
  AreDisjoint s t = (x : T) → IsSome (element_at s x) → IsNone (element_at t x)
