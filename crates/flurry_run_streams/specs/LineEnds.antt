-- How a line of a reader ended.
use Rattle.std.specs.Prelude.{◌≢◌, ℕ, ◌<◌, ◌++◌, ◌∷◌, [], List, length, Option}
use Rattle.std.specs.List.{AllByRecursion}
use Rattle.std.specs.Io.KnownBytes.{Consumes, IsAtEnd}
use Rattle.flurry_run_streams.specs.declared.input.LineEnd.{LineEnd}
use Rattle.flurry_run_streams.specs.declared.input.LineEnd.TheVariants.{Break, End, Long}

abbrev pub HasNoBreak : List ℕ → Type 0
HasNoBreak line = AllByRecursion (λ b. b ≢ 10) line

-- the reader gave the line and then its line feed, or the line as its last bytes, or the front of a line that is too long
abbrev pub Gave : Option (List ℕ) → Option (List ℕ) → List ℕ → LineEnd → Type 0
Gave old new line Break = Consumes old new (line ++ 10 ∷ []) × HasNoBreak line
Gave old new line End = Consumes old new line × IsAtEnd new × HasNoBreak line
Gave old new line Long = Consumes old new line × HasNoBreak line × (64 < length line)
