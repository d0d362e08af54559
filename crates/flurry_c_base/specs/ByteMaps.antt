-- What a map of bytes is seen as.
use Rattle.std.specs.Prelude.{◌≡◌, ℕ, List, MatchOption, map}
use Rattle.std.specs.Global.{Vec}
use Rattle.flurry_base.specs.FiniteMap.{value_at, with_pair}
use Rattle.flurry_c_base.specs.ByteStrings.{byte_order, bytes_of}
use Rattle.flurry_c_base.specs.declared.byte_map.ByteMap.{ByteMap}

abbrev pub bytes_of_pair : Vec ℕ × Vec ℕ → List ℕ × List ℕ
bytes_of_pair p = (bytes_of p.0, bytes_of p.1)

-- the finite map of a map
abbrev pub bytes_in : ByteMap → List (List ℕ × List ℕ)
bytes_in m = map bytes_of_pair m.map.pairs

-- a new key was added; the map of a key that was there is as it was
abbrev pub KeepsOrAdds : List (List ℕ × List ℕ) → List ℕ → List ℕ → List (List ℕ × List ℕ) → Type 0
KeepsOrAdds old key value new = MatchOption (value_at byte_order old key) (new ≡ with_pair byte_order old key value) (λ _. new ≡ old)
