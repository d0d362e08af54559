-- The program's words.
use Rattle.std.specs.Prelude.{◌≡◌, ℕ, ◌≤◌, List, [], ◌∷◌, ◌++◌, codes, map, Option}
use Rattle.std.specs.Borrow.{Bor}
use Rattle.std.specs.Fmt.{decimal}
use Rattle.std.specs.Io.KnownBytes.{Appends}
use Rattle.flurry_run_words.specs.declared.threads.TheConstants.{MAX_THREADS, MAX_KEYS}

-- the texts of a `&[&str]`
abbrev pub texts : List (Bor (List ℕ)) → List (List ℕ)
texts words = map (λ (word : Bor (List ℕ)). word.now) words

-- they ask for the lines of one owned map
abbrev pub IsSeqWords : List (Bor (List ℕ)) → Type 0
IsSeqWords words = texts words ≡ codes "seq" ∷ []

-- they ask for the steps of a world
abbrev pub IsWorldWords : List (Bor (List ℕ)) → Type 0
IsWorldWords words = texts words ≡ codes "world" ∷ []

-- they ask for so many threads, each with so many keys
abbrev pub AsksThreads : List (Bor (List ℕ)) → ℕ → ℕ → Type 0
AsksThreads words threads keys =
    (texts words ≡ codes "threads" ∷ decimal threads ∷ decimal keys ∷ [])
    × (1 ≤ threads) × (threads ≤ MAX_THREADS) × (keys ≤ MAX_KEYS)

-- what the program can be asked for, with its line feed
abbrev pub usage_text : List ℕ
usage_text = codes "usage: flurry-run seq | world | threads N M" ++ 10 ∷ []

-- the usage was written, with status 2
abbrev pub TellsUsage : Option (List ℕ) → Option (List ℕ) → ℕ → Type 0
TellsUsage held flushed status = Appends held flushed usage_text × (status ≡ 2)
