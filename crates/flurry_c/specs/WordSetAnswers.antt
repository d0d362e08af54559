-- What C is told of a set of numbers.
use Rattle.std.specs.Prelude.{ℕ, List, Option}
use Rattle.std.specs.Ordering.{nat_cmp}
use Rattle.flurry_base.specs.FiniteSet.{element_at}
use Rattle.flurry_c_base.specs.declared.held_word_set.HeldWordSet.{HeldWordSet}

-- the finite set behind the address
abbrev pub elements_of : HeldWordSet → List ℕ
elements_of w = w.set.set.elements

-- the element, if it is there
abbrev pub found_in : HeldWordSet → ℕ → Option ℕ
found_in w element = element_at nat_cmp (elements_of w) element
