-- What a set of byte strings is seen as.
use Rattle.std.specs.Prelude.{ℕ, List, map}
use Rattle.flurry_c_base.specs.ByteStrings.{bytes_of}
use Rattle.flurry_c_base.specs.declared.byte_set.ByteSet.{ByteSet}

-- the finite set of a set
abbrev pub elements_in : ByteSet → List (List ℕ)
elements_in s = map bytes_of s.set.elements
