-- The text of an insertion that finds its key present.
use Rattle.std.specs.Prelude.{ℕ, List, codes, Option, Some}
use Rattle.std.specs.Fmt.{◌++?◌}

-- with the debug forms of the value that was not put and of the one that stands; it is known where both are
abbrev pub try_insert_text : Option (List ℕ) → Option (List ℕ) → Option (List ℕ)
try_insert_text not_inserted current =
    Some (codes "Insert of \"") ++? (not_inserted ++? (Some (codes "\" failed as key was already present with value \"") ++? (current ++? Some (codes "\""))))
