-- A run over the lines of an input: a part of it, its end, and the whole.
use Rattle.std.specs.Prelude.{◌≡◌, ◌≢◌, ℕ, ◌+◌, ◌≤◌, ◌^◌, ◌⊎◌, ◌++◌, [], ◌∷◌, length, List, Bool, IsTrue, Option, None, Some, IfSome}
use Rattle.std.specs.Io.KnownBytes.{Appends}
use Rattle.flurry_run_lines.specs.Lines.{lines_of}
use Rattle.flurry_run_lines.specs.Endings.{bad_line_text, input_failed_text}

-- What lines mean: a run keeps an M, and each line is a C.
pub record Script (M C : Type 0) : Type 1 where
  -- a command as it is written, without its line end
  pub text_of : C → List ℕ
  -- its numbers are in their ranges
  pub IsCommand : C → Type 0
  -- so much is written for the command, and the run goes on with what it then keeps
  pub Does : C → M → List ℕ → M → Type 0
  -- so much is written for the command as the line of that number, and it ends the run, with that status
  pub Stops : C → M → ℕ → List ℕ → ℕ → Type 0

-- a read failed
abbrev pub EndsByRead : List ℕ → ℕ → Type 0
EndsByRead out status = (out ≡ input_failed_text) × (status ≡ 1)

-- the run has this end, unless a write failed, which is status 1
abbrev pub UnlessWriteFailed : Bool → ℕ → Type 0 → Type 0
UnlessWriteFailed failed status P = (IsTrue failed × (status ≡ 1)) ⊎ P

-- status 1 has a cause: a read or a write failed, or the run's 2^62 reads are used up
abbrev pub FailsForCause : Option (List ℕ) → Bool → Bool → ℕ → Type 0
FailsForCause remaining read_failed write_failed status =
    status ≡ 1 → IfSome remaining (λ input. IsTrue read_failed ⊎ IsTrue write_failed ⊎ (2 ^ 62 ≤ length input))

module _ {M C : Type 0} (s : Script M C) where
  -- no command is written so
  abbrev pub IsNoCommand : List ℕ → Type 0
  IsNoCommand line = (c : C) → s.IsCommand c → line ≢ s.text_of c

  -- the line n is no command, or one that ends the run: so much is written for it, and the status is so
  abbrev pub EndsAtLine : M → ℕ → List ℕ → List ℕ → ℕ → Type 0
  EndsAtLine m n line out status =
      (IsNoCommand line × (out ≡ bad_line_text n) × (status ≡ 2))
      ⊎ ((c : C) × s.IsCommand c × (line ≡ s.text_of c) × s.Stops c m n out status)

  -- from what is kept on, and with lines numbered from n, so much is written for the lines, and the status is so: what each line asks
  -- for is written, up to the first that ends the run or to a read that failed
  abbrev pub Writes : M → ℕ → List (List ℕ) → List ℕ → ℕ → Type 0
  Writes m n [] out status = EndsByRead out status ⊎ ((out ≡ []) × (status ≡ 0))
  Writes m n (line ∷ lines) out status =
      EndsByRead out status
      ⊎ EndsAtLine m n line out status
      ⊎ ((c : C) × (printed : List ℕ) × (after : M) × (rest : List ℕ)
      × s.IsCommand c × (line ≡ s.text_of c) × s.Does c m printed after × (out ≡ printed ++ rest) × Writes after (n + 1) lines rest status)

  -- the line is a command with which the run goes on, and what it writes is written
  abbrev pub AnswersLine : M → List ℕ → M → Option (List ℕ) → Option (List ℕ) → Type 0
  AnswersLine m line after held holds =
      (c : C) × (printed : List ℕ) × s.IsCommand c × (line ≡ s.text_of c) × s.Does c m printed after × Appends held holds printed

  -- the line n ends the run, and what it writes is written
  abbrev pub RefusesLine : M → ℕ → List ℕ → Option (List ℕ) → Option (List ℕ) → ℕ → Type 0
  RefusesLine m n line held holds status = (out : List ℕ) × EndsAtLine m n line out status × Appends held holds out

  -- the command is answered as the line n, and what it writes is written: the run goes on, or ends with a status
  abbrev pub IsAnswered : C → M → M → ℕ → Option (List ℕ) → Option (List ℕ) → Option ℕ → Type 0
  IsAnswered c m after n held holds None = (printed : List ℕ) × s.Does c m printed after × Appends held holds printed
  IsAnswered c m after n held holds (Some status) = (out : List ℕ) × s.Stops c m n out status × Appends held holds out

  -- from what is kept and the line n on, an input was read up to some bytes that are left, and what was written is what the run writes
  -- first: it goes on from what it keeps after, and from the line n'. Each line took a byte at least
  abbrev pub Goes : M → ℕ → List ℕ → M → ℕ → Option (List ℕ) → Option (List ℕ) → Option (List ℕ) → Type 0
  Goes m n input after n' remaining held holds =
      (out : List ℕ) × (left : List ℕ) × (remaining ≡ Some left) × Appends held holds out × (n' + length left ≤ n + length input)
      × ((rest : List ℕ) (status : ℕ) → Writes after n' (lines_of left) rest status → Writes m n (lines_of input) (out ++ rest) status)

  -- the run of an input ended, with all that it writes
  abbrev pub Ends : M → ℕ → List ℕ → Option (List ℕ) → Option (List ℕ) → ℕ → Type 0
  Ends m n input held holds status = (out : List ℕ) × Appends held holds out × Writes m n (lines_of input) out status

  -- over an input, and from its first line on, so much more is flushed than was held
  abbrev pub RunsLines : M → Option (List ℕ) → Option (List ℕ) → Option (List ℕ) → Bool → ℕ → Type 0
  RunsLines m remaining held flushed write_failed status =
      IfSome remaining (λ input. UnlessWriteFailed write_failed status (Ends m 1 input held flushed status))
