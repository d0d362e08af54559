-- What C is told of a set of byte strings. Its contracts see elements as lists of bytes, whatever memory holds them.
use Rattle.std.specs.Prelude.{ℕ, List, Option}
use Rattle.flurry_base.specs.FiniteSet.{element_at}
use Rattle.flurry_c_base.specs.ByteSets.{elements_in}
use Rattle.flurry_c_base.specs.ByteStrings.{byte_order}
use Rattle.flurry_c_base.specs.declared.held_byte_set.HeldByteSet.{HeldByteSet}

-- the finite set behind the address
abbrev pub elements_of : HeldByteSet → List (List ℕ)
elements_of b = elements_in b.set

-- the element, if it is there
abbrev pub found_in : HeldByteSet → List ℕ → Option (List ℕ)
found_in b element = element_at byte_order (elements_of b) element
