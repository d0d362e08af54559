-- The bytes of a text.
use Rattle.std.specs.Prelude.{◌≡◌, ℕ, List, ◌^◌, ◌<◌, length}
use Rattle.std.specs.Str.{IsUtf8}
use Rattle.std.proofs.Common.{refl}
use Rattle.std.proofs.lemmas.Str.{is_utf8-from_IsUtf8}
use Rattle.std.proofs.lemmas.Bool.{lt-ltb, and_from}
use Rattle.flurry_base.specs.Texts.{text_bytes}

pub text_bytes-of_text : (bs : List ℕ) → IsUtf8 bs → length bs < 2 ^ 63 → text_bytes bs ≡ bs
text_bytes-of_text bs utf8 small = rw (and_from _ _ (is_utf8-from_IsUtf8 bs utf8) (lt-ltb _ _ small)) refl
