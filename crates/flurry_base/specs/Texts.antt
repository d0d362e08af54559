-- The `String` that a `&str` stands for.
use denote.RawPtr.{null_ptr}
use Rattle.std.specs.Prelude.{◌≡◌, ℕ, List, [], ◌^◌, ◌<◌, ◌&&◌, Bool, true, false, length, if◌then◌else◌, String}
use Rattle.std.specs.Str.{IsUtf8, is_utf8}
use Rattle.std.specs.Global.{Global}
use Rattle.std.proofs.Common.{refl}
use Rattle.std.proofs.Math.Dec.{ltb, lit<}
use Rattle.std.proofs.Math.Nat.{le_refl}
use Rattle.std.proofs.lemmas.Str.{IsUtf8-from_is_utf8}
use Rattle.std.proofs.lemmas.Bool.{ltb-true, and_parts}

-- whether a `str` can have these bytes
abbrev pub is_text : List ℕ → Bool
is_text bs = is_utf8 bs && ltb (length bs) (2 ^ 63)

-- the bytes of a `str`, and none of what is no `str`
abbrev pub text_bytes : List ℕ → List ℕ
text_bytes bs = if is_text bs then bs else []

chosen : (P : List ℕ → Type 0) (b : Bool) (bs : List ℕ) → (b ≡ true → P bs) → P [] → P (if b then bs else [])
chosen P true bs some none = some refl
chosen P false bs some none = none

pub text_bytes-utf8 : (bs : List ℕ) → IsUtf8 (text_bytes bs)
text_bytes-utf8 bs = chosen IsUtf8 (is_text bs) bs (λ e. IsUtf8-from_is_utf8 bs (and_parts _ _ e).0) ([], (refl, refl))

pub text_bytes-small : (bs : List ℕ) → length (text_bytes bs) < 2 ^ 63
text_bytes-small bs = chosen (λ l. length l < 2 ^ 63) (is_text bs) bs (λ e. ltb-true _ _ (and_parts _ _ e).1) (lit< tt)

-- the `String` of these bytes
abbrev pub string_of : List ℕ → String Global
string_of bs = record {
  bytes = record {
    ptr = null_ptr;
    len = length (text_bytes bs);
    cap = length (text_bytes bs);
    alloc = record { memory = record { seal = tt } };
    items = text_bytes bs;
    ok = (refl, le_refl _);
    small = text_bytes-small bs;
  };
  ok = ∣ text_bytes-utf8 bs ∣₁;
}
