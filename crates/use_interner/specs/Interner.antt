-- What is kept.
use Rattle.std.specs.Prelude.{◌≡◌, List, Some, String}
use Rattle.std.specs.String.{string_cmp}
use Rattle.flurry.specs.FiniteSet.{element_at}

-- this very string is the one that is kept for its text
abbrev pub IsInterned : {Y : Type 0} → List (String Y) → String Y → Type 0
IsInterned texts text = element_at string_cmp texts text ≡ Some text
