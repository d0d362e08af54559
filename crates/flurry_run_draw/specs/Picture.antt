-- The picture of a schedule.
use Rattle.std.specs.Prelude.{◌≡◌, ℕ, List, [], None, Some}
use Rattle.flurry_run_lines.specs.Runs.{Ends}
use Rattle.flurry_run_lines.specs.ScheduleRuns.{of_a_schedule}
use Rattle.flurry_run_draw.specs.ReaderState.{reader_after, between_tags, IsDrawing}

-- without its tags a picture is this text, and then one line of names
abbrev pub Draws : List ℕ → List ℕ → Type 0
Draws text picture = (shown : List ℕ) × IsDrawing text shown × (reader_after picture ≡ between_tags shown)

-- Without its tags the picture is the text that the schedule's run writes, from its first byte to its last, and then one line with the
-- names of lanes and tables. So the line of each label stands there in its place, and no further time.
abbrev pub IsPictureOf : List ℕ → List ℕ → ℕ → Type 0
IsPictureOf schedule picture status =
    (text : List ℕ) × Ends of_a_schedule None 1 schedule (Some []) (Some text) status × Draws text picture
