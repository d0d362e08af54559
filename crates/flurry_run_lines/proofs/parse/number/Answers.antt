use Rattle.std.proofs.Common.{ℕ, refl, sym, subst}
use Rattle.std.proofs.lemmas.Str.{IsUtf8-from_ascii}
use Rattle.std.proofs.lemmas.Fmt.{IsAscii-decimal}
use Rattle.std.specs.Str.{IsUtf8}
use Rattle.flurry_run_lines.proofs.Numbers.{no_zero, only_digits, read_number, no_number}
use Rattle.flurry_run_lines.proofs.parse.number.Goals as goal
use Rattle.flurry_run_lines.proofs.parse.number.Goals.{else-word-gt1-via-then-word-gt1+else-word-eq48, else-word-gt1-via-else-word-gt1}

pub returns-then-word-eq48 : goal.returns-then-word-eq48
returns-then-word-eq48 c = no_zero c.args.word.now c.if-word-gt1.true c.if-word-eq48.true

pub returns-then-not-all_digits : goal.returns-then-not-all_digits
returns-then-not-all_digits c = only_digits c.args.word.now (λ digits. let x = c.all_digits.ensures.1 digits in cc)

pub returns-in-Ok-parse : goal.returns-in-Ok-parse
returns-in-Ok-parse c =
    read_number ℕ c.args.word.now c.in-Ok-parse.number (c.if-not-all_digits.ensures.0 refl)
    (elim c.else-word-gt1.branch [ else-word-gt1-via-then-word-gt1+else-word-eq48 w ↦ (λ z. absurd (w.if-word-eq48.false z)) | else-word-gt1-via-else-word-gt1 w ↦ (λ z. w.if-word-gt1.false) ])
    (rw c.in-Ok.ensures.cases.0 at c.in-Ok-parse.ensures.value.0)

pub returns-in-Err-parse : goal.returns-in-Err-parse
returns-in-Err-parse c = no_number c.args.word.now c.in-Err-parse.field-0 (rw c.in-Ok.ensures.cases.0 at c.in-Err-parse.ensures.value.0)

pub returns-in-Err : goal.returns-in-Err
returns-in-Err c = λ n small e. c.in-Err.ensures.cases.0 (subst IsUtf8 (sym e) (IsUtf8-from_ascii _ (IsAscii-decimal n small)))
