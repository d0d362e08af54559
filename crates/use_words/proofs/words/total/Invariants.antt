use Rattle.std.proofs.Common.{◌≡◌, ◌+◌, sum, sum_by}
use Rattle.use_words.proofs.words.total.Given as goal

abbrev pub invariant-loop-count : goal.invariant-loop-count
invariant-loop-count l = l.sum + sum l.count-iterator ≡ sum_by (λ p. p.1) l.fn.counts.pairs
