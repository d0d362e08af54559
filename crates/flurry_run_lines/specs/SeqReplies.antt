-- What is written for the lines of an input.
use Rattle.std.specs.Prelude.{◌≡◌, ℕ, ◌⊎◌, List, [], ◌∷◌, ◌++◌, length, codes, Option, None, Some, MatchOption}
use Rattle.std.specs.Fmt.{decimal}
use Rattle.std.specs.Ordering.{nat_cmp}
use Rattle.flurry_base.specs.FiniteMap.{value_at, with_pair, without}
use Rattle.flurry_run_lines.specs.declared.command.Command.{Command}
use Rattle.flurry_run_lines.specs.declared.command.Command.TheVariants.{Insert, Try, Get, Remove, Len, Bins}
use Rattle.flurry_run_lines.specs.Commands.{command_text, IsCommand}
use Rattle.flurry_run_lines.specs.Runs.{Script}

-- a finite map of numbers
abbrev pub Numbers : Type 0
Numbers = List (ℕ × ℕ)

-- a value, or that there is none
abbrev pub option_text : Option ℕ → List ℕ
option_text None = codes "none"
option_text (Some v) = codes "some " ++ decimal v

-- that a key is present with the value c, so that v was not put
abbrev pub present_text : ℕ → ℕ → List ℕ
present_text v c = codes "Insert of \"" ++ (decimal v ++ (codes "\" failed as key was already present with value \"" ++ (decimal c ++ codes "\"")))

-- what an insertion at an absent key alone answers, and the map after it
abbrev pub Tries : ℕ → ℕ → Numbers → List ℕ → Numbers → Type 0
Tries k v map answer after =
    MatchOption (value_at nat_cmp map k)
    ((answer ≡ codes "new " ++ decimal v) × (after ≡ with_pair nat_cmp map k v))
    (λ c. (answer ≡ present_text v c) × (after ≡ map))

-- what the command may answer on the map, and the map after it. Want of memory may refuse an insertion, and the number of bins is
-- left open
abbrev pub LineAnswers : Command → Numbers → List ℕ → Numbers → Type 0
LineAnswers (Insert k v) map answer after =
    ((answer ≡ option_text (value_at nat_cmp map k)) × (after ≡ with_pair nat_cmp map k v)) ⊎ ((answer ≡ codes "refused") × (after ≡ map))
LineAnswers (Try k v) map answer after = Tries k v map answer after ⊎ ((answer ≡ codes "refused") × (after ≡ map))
LineAnswers (Get k) map answer after = (answer ≡ option_text (value_at nat_cmp map k)) × (after ≡ map)
LineAnswers (Remove k) map answer after = (answer ≡ option_text (value_at nat_cmp map k)) × (after ≡ without nat_cmp map k)
LineAnswers Len map answer after = (answer ≡ decimal (length map)) × (after ≡ map)
LineAnswers Bins map answer after = (n : ℕ) × (answer ≡ decimal n) × (after ≡ map)

-- the command writes its answer, on a line of its own
abbrev pub OutcomeReply : Command → Numbers → List ℕ → Numbers → Type 0
OutcomeReply c map printed after = (answer : List ℕ) × LineAnswers c map answer after × (printed ≡ answer ++ 10 ∷ [])

-- the lines of one owned map; none of its commands ends the run
abbrev pub of_one_map : Script Numbers Command
of_one_map = record { text_of = command_text; IsCommand = IsCommand; Does = OutcomeReply; Stops = λ _ _ _ _ _. ⊥ }
