-- What C is told of a map of bytes. Its contracts see keys and values as lists of bytes, whatever memory holds them.
use Rattle.std.specs.Prelude.{◌≡◌, ℕ, List, Option, MatchOption, length}
use Rattle.flurry_base.specs.FiniteMap.{value_at}
use Rattle.flurry_c_base.specs.Buffers.{with_bytes}
use Rattle.flurry_c_base.specs.ByteMaps.{bytes_in}
use Rattle.flurry_c_base.specs.ByteStrings.{byte_order}
use Rattle.flurry_c_base.specs.declared.bytes.Bytes.{Bytes}

-- the finite map behind the address
abbrev pub pairs_of : Bytes → List (List ℕ × List ℕ)
pairs_of b = bytes_in b.map

-- the value of a key
abbrev pub value_of : Bytes → List ℕ → Option (List ℕ)
value_of b key = value_at byte_order (pairs_of b) key

-- a value that is there is copied, and its length written; else both stay
abbrev pub Copies : Option (List ℕ) → List ℕ → List ℕ → ℕ → ℕ → Type 0
Copies value before after len_before len_after =
    MatchOption value ((after ≡ before) × (len_after ≡ len_before)) (λ v. (after ≡ with_bytes before v) × (len_after ≡ length v))
