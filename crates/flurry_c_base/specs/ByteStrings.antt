-- Byte strings, which contracts see as lists of bytes, whatever memory holds them.
use Rattle.std.specs.Prelude.{ℕ, List}
use Rattle.std.specs.declared.cmp.Ordering.{Ordering}
use Rattle.std.specs.Cmp.Lexicographic.{slice_cmp}
use Rattle.std.specs.Global.{Vec}
use Rattle.std.specs.Ordering.{nat_cmp}

-- the first byte that differs decides, and else the lengths do
abbrev pub byte_order : List ℕ → List ℕ → Ordering
byte_order = slice_cmp nat_cmp

abbrev pub bytes_of : Vec ℕ → List ℕ
bytes_of v = v.items
