-- The vector that a slice of bytes stands for.
use denote.RawPtr.{null_ptr}
use Rattle.std.specs.Prelude.{◌≡◌, ℕ, List, [], ◌^◌, ◌<◌, Bool, true, false, length, if◌then◌else◌}
use Rattle.std.specs.Global.{Vec}
use Rattle.std.proofs.Common.{refl}
use Rattle.std.proofs.Math.Dec.{ltb, lit<}
use Rattle.std.proofs.Math.Nat.{le_refl}
use Rattle.std.proofs.lemmas.Bool.{ltb-true}

-- the bytes of a slice, and none of what is too long for one
abbrev pub slice_bytes : List ℕ → List ℕ
slice_bytes bs = if ltb (length bs) (2 ^ 63) then bs else []

chosen : (b : Bool) (bs : List ℕ) → (b ≡ true → length bs < 2 ^ 63) → length (if b then bs else []) < 2 ^ 63
chosen true bs some = some refl
chosen false bs some = lit< tt

pub slice_bytes-small : (bs : List ℕ) → length (slice_bytes bs) < 2 ^ 63
slice_bytes-small bs = chosen (ltb (length bs) (2 ^ 63)) bs (ltb-true _ _)

-- the vector of these bytes
abbrev pub vec_of : List ℕ → Vec ℕ
vec_of bs = record {
  ptr = null_ptr;
  len = length (slice_bytes bs);
  cap = length (slice_bytes bs);
  alloc = record { memory = record { seal = tt } };
  items = slice_bytes bs;
  ok = (refl, le_refl _);
  small = slice_bytes-small bs;
}
