-- What is written for the lines of a schedule.
use Rattle.std.specs.Prelude.{◌≡◌, ℕ, List, [], ◌∷◌, ◌++◌, codes, replicate, Option, None, Some}
use Rattle.std.specs.Fmt.{decimal}
use Rattle.std.specs.Ordering.{nat_cmp}
use Rattle.std.specs.Io.KnownBytes.{Appends}
use Rattle.flurry_base.specs.declared.hash.LowHashBuilder.{LowHashBuilder}
use Rattle.flurry_base.specs.declared.verdict.Verdict.{Verdict}
use Rattle.flurry_base.specs.declared.verdict.Verdict.TheVariants.{Remove}
use Rattle.flurry_bins_slots.specs.declared.compute_fn.NoFn.{NoFn}
use Rattle.flurry_steps_stages.specs.declared.call.OwnedCall.TheVariants as owned
use Rattle.flurry_steps_theory.specs.declared.Label.{Label}
use Rattle.flurry_steps_world.specs.World.{WorldState}
use Rattle.flurry_steps_world.specs.Runs.{Drops, NewGives, Runs, RunsFront}
use Rattle.flurry_steps_world.specs.declared.world.Step as world
use Rattle.flurry_steps_world.specs.declared.world.Step.TheVariants as step
use Rattle.flurry_run_lines.specs.declared.schedule.Line.{Line}
use Rattle.flurry_run_lines.specs.declared.schedule.Line.TheVariants.{World, Insert, Try, Get, Remove, Reserve, Clear, Walk, Drop, Step, Lose}
use Rattle.flurry_run_lines.specs.Endings.{bad_line_text, out_of_memory_text}
use Rattle.flurry_run_lines.specs.Labels.{label_text}
use Rattle.flurry_run_lines.specs.Schedules.{line_text, IsLine}
use Rattle.flurry_run_lines.specs.Runs.{Script}

module _ {F : Type 0} where
  -- labels, each on a line of its own
  abbrev pub labels_text : List (Label ℕ ℕ F) → List ℕ
  labels_text [] = []
  labels_text (l ∷ labels) = label_text l ++ 10 ∷ labels_text labels

  -- the call that a line begins, or the steps or the loss that it asks for
  abbrev pub steps_of : Line → List (world.Step ℕ ℕ F)
  steps_of (World p c) = []
  steps_of (Insert k v) = step.Begin (owned.Insert k v) ∷ []
  steps_of (Try k v) = step.Begin (owned.TryInsert k v) ∷ []
  steps_of (Get k) = step.Begin (owned.Get k) ∷ []
  steps_of (Remove k) = step.Begin (owned.Remove k) ∷ []
  steps_of (Reserve n) = step.Begin (owned.Reserve n) ∷ []
  steps_of Clear = step.Begin owned.Clear ∷ []
  steps_of Walk = step.Begin owned.Walk ∷ []
  steps_of (Drop p) = step.Drop p ∷ []
  steps_of (Step p n) = replicate n (step.Step p)
  steps_of (Lose p) = step.Lose p ∷ []

-- the line is bad at its place, as if it were no line of a schedule
abbrev pub IsBad : ℕ → List ℕ → ℕ → Type 0
IsBad n out status = (out ≡ bad_line_text n) × (status ≡ 2)

-- the number of the party that began, or that none did
abbrev pub drop_text : Option ℕ → List ℕ
drop_text None = codes "no" ++ 10 ∷ []
drop_text (Some p) = (codes "begin " ++ decimal p) ++ 10 ∷ []

-- memory is wanting, once so much was written
abbrev pub WantsMemory : List ℕ → List ℕ → ℕ → Type 0
WantsMemory printed out status = (out ≡ printed ++ out_of_memory_text) × (status ≡ 3)

module _ {F S : Type 0} where
  -- these labels came, and so much is written for them
  abbrev pub Tells : WorldState ℕ ℕ F S → WorldState ℕ ℕ F S → List ℕ → Type 0
  Tells w v printed = (labels : List (Label ℕ ℕ F)) × (v.trace ≡ w.trace ++ labels) × (printed ≡ labels_text labels)

  module _ (changes : F → ℕ → Option ℕ → Verdict ℕ → Type 0) where
    -- the first line makes a world, in which each key is its own hash; each other line begins a call in it, does steps or
    -- makes a party lose, and the labels of that are written; a removal of what a walk has read says also where none begins
    abbrev pub DoesLine : Line → Option (WorldState ℕ ℕ F S) → List ℕ → Option (WorldState ℕ ℕ F S) → Type 0
    DoesLine (World p c) None printed after = (hasher : S) × (w : WorldState ℕ ℕ F S) × NewGives c hasher p w × (after ≡ Some w) × (printed ≡ [])
    DoesLine (World p c) (Some w) printed after = ⊥
    DoesLine l None printed after = ⊥
    DoesLine (Drop p) (Some w) printed after = (q : Option ℕ) × (v : WorldState ℕ ℕ F S) × Drops (λ k. k) w p q v × (after ≡ Some v) × (printed ≡ drop_text q)
    DoesLine l (Some w) printed after = (v : WorldState ℕ ℕ F S) × Runs nat_cmp (λ k. k) changes (steps_of l) w v × (after ≡ Some v) × Tells w v printed

    -- The first line makes no world, or another line makes one: it is bad. Or memory is wanting, for the world, or after some of the steps
    -- that the line asks for, whose labels are written.
    abbrev pub StopsAtLine : Line → Option (WorldState ℕ ℕ F S) → ℕ → List ℕ → ℕ → Type 0
    StopsAtLine (World p c) None n out status = WantsMemory [] out status
    StopsAtLine (World p c) (Some w) n out status = IsBad n out status
    StopsAtLine l None n out status = IsBad n out status
    StopsAtLine l (Some w) n out status =
        (v : WorldState ℕ ℕ F S) × (printed : List ℕ) × RunsFront nat_cmp (λ k. k) changes (steps_of l) w v × Tells w v printed × WantsMemory printed out status

    -- the removal of what party p has read last has begun, or there is none; or memory is wanting for it
    abbrev pub AnswersDrop : ℕ → WorldState ℕ ℕ F S → WorldState ℕ ℕ F S → Option (List ℕ) → Option (List ℕ) → Option ℕ → Type 0
    AnswersDrop p w v held holds None = (q : Option ℕ) × Drops (λ k. k) w p q v × Appends held holds (drop_text q)
    AnswersDrop p w v held holds (Some status) = (v ≡ w) × (status ≡ 3) × Appends held holds out_of_memory_text

    -- the steps are done and their labels written, or memory is wanting after some of them
    abbrev pub AnswersSteps : List (world.Step ℕ ℕ F) → WorldState ℕ ℕ F S → WorldState ℕ ℕ F S → Option (List ℕ) → Option (List ℕ) → Option ℕ → Type 0
    AnswersSteps steps w v held holds None = (printed : List ℕ) × Runs nat_cmp (λ k. k) changes steps w v × Tells w v printed × Appends held holds printed
    AnswersSteps steps w v held holds (Some status) =
        (printed : List ℕ) × RunsFront nat_cmp (λ k. k) changes steps w v × Tells w v printed × (status ≡ 3) × Appends held holds (printed ++ out_of_memory_text)

    -- the lines of a schedule
    abbrev pub of_a_world : Script (Option (WorldState ℕ ℕ F S)) Line
    of_a_world = record { text_of = line_text; IsCommand = IsLine; Does = DoesLine; Stops = StopsAtLine }

-- the same of calls of which none has a function
abbrev pub of_a_schedule : Script (Option (WorldState ℕ ℕ NoFn LowHashBuilder)) Line
of_a_schedule = of_a_world (λ _ _ _ verdict. verdict ≡ Remove)
