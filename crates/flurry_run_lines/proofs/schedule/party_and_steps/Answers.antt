use Rattle.std.proofs.Common.{sym, ◌∙◌, arith}
use Rattle.std.specs.Fmt.{decimal}
use Rattle.std.proofs.lemmas.Fmt.{decimal_injective}
use Rattle.flurry_run_lines.proofs.Numbers.{no_space, split_same}
use Rattle.flurry_run_lines.proofs.schedule.party_and_steps.Goals as goal

pub returns-then-steps-gt-MAX_STEPS : goal.returns-then-steps-gt-MAX_STEPS
returns-then-steps-gt-MAX_STEPS c = λ p n small few e.
    let got = c.in-Some.ensures in
    let parts = split_same (decimal c.in-Some.party) (decimal c.in-Some.steps) (decimal p) (decimal n) (no_space c.in-Some.party got.0) (no_space p small) (sym got.2 ∙ e) in
    let same = decimal_injective c.in-Some.steps n got.1 (omega (arith, few)) parts.1 in
    let many = c.if-steps-gt-MAX_STEPS.true in
    omega (arith, few, same, many)
