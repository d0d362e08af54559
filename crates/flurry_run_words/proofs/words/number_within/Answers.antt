use Rattle.std.proofs.Common.{◌≡◌, sym, ◌∙◌, arith}
use Rattle.std.proofs.lemmas.Fmt.{decimal_injective}
use Rattle.flurry_run_words.proofs.words.number_within.Goals as goal

pub returns-in_default : goal.returns-in_default
returns-in_default c = λ n low high is.
    let same : c.in-Some.number ≡ n = decimal_injective c.in-Some.number n c.in-Some.ensures.0 (omega arith) (sym c.in-Some.ensures.1 ∙ c.as_bytes.ensures.value ∙ is) in
    absurd (omega (arith, same))

pub returns-in_default-2 : goal.returns-in_default-2
returns-in_default-2 c = λ n low high is.
    let same : c.in-Some.number ≡ n = decimal_injective c.in-Some.number n c.in-Some.ensures.0 (omega arith) (sym c.in-Some.ensures.1 ∙ c.as_bytes.ensures.value ∙ is) in
    absurd (omega (arith, same))
