-- What threads that share one map write.
use Rattle.std.specs.Prelude.{◌≡◌, ◌⊎◌, ℕ, List, [], ◌∷◌, ◌++◌, Option}
use Rattle.std.specs.Fmt.{decimal}
use Rattle.std.specs.Io.KnownBytes.{Appends}
use Rattle.flurry_run_lines.specs.Endings.{out_of_memory_text}

-- a length was written, with status 0, or that memory is wanting, with status 3
abbrev pub TellsLength : Option (List ℕ) → Option (List ℕ) → ℕ → Type 0
TellsLength held holds status =
    ((length : ℕ) × Appends held holds (decimal length ++ 10 ∷ []) × (status ≡ 0))
    ⊎ (Appends held holds out_of_memory_text × (status ≡ 3))
