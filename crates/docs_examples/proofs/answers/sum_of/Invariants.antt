use Rattle.std.proofs.Common.{◌≡◌, ◌+◌, sum, sum_by}
use Rattle.docs_examples.proofs.answers.sum_of.Given as goal

abbrev pub invariant-loop-value : goal.invariant-loop-value
invariant-loop-value l = l.sum + sum l.value-iterator ≡ sum_by (λ p. p.1) l.fn.map.pairs
