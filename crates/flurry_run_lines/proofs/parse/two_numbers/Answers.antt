use Rattle.std.proofs.Common.{sym, ◌∙◌, subst}
use Rattle.std.specs.Fmt.{decimal}
use Rattle.flurry_run_lines.specs.Words.{HasNoSpace}
use Rattle.flurry_run_lines.proofs.Numbers.{no_space, no_split, split_same}
use Rattle.flurry_run_lines.proofs.parse.two_numbers.Goals as goal

pub returns-in-None : goal.returns-in-None
returns-in-None c = λ k v small also e. no_split (decimal k) (decimal v) (subst HasNoSpace e c.in-None.ensures)

pub returns-in-None-number : goal.returns-in-None-number
returns-in-None-number c = λ k v small also e.
    let same = split_same c.in-Some.first.now c.in-Some.second.now (decimal k) (decimal v) c.in-Some.ensures.0 (no_space k small) (sym c.in-Some.ensures.1 ∙ e) in
    c.in-None-number.ensures k small same.0

pub returns-in-None-number-2 : goal.returns-in-None-number-2
returns-in-None-number-2 c = λ k v small also e.
    let same = split_same c.in-Some.first.now c.in-Some.second.now (decimal k) (decimal v) c.in-Some.ensures.0 (no_space k small) (sym c.in-Some.ensures.1 ∙ e) in
    c.in-None-number-2.ensures v also same.1
