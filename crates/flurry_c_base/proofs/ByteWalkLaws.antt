-- Sums over the pairs of a map of bytes, in whatever order.
use Rattle.std.proofs.Common.{◌≡◌, ℕ, List, map, sum_by, IsPermutation}
use Rattle.std.specs.Global.{Vec}
use Rattle.std.proofs.lemmas.List.Sorted.{sum_by-IsPermutation, IsPermutation-map}
use Rattle.flurry_c_base.specs.ByteMaps.{bytes_of_pair}
use Rattle.flurry_c_base.specs.ByteWalks.{size_of}

pub size_of_bytes : (m n : List (Vec ℕ × Vec ℕ)) → IsPermutation m n → sum_by size_of (map bytes_of_pair n) ≡ sum_by size_of (map bytes_of_pair m)
size_of_bytes m n moved = sum_by-IsPermutation size_of (map bytes_of_pair m) (map bytes_of_pair n) (IsPermutation-map bytes_of_pair m n moved)
