use Rattle.std.proofs.Common.{◌≤◌}
use Rattle.std.specs.List.{All}
use Rattle.docs_examples.proofs.answers.any_above.Given as goal

-- where no value that is left is above the number, none is
abbrev pub invariant-loop-value : goal.invariant-loop-value
invariant-loop-value l = All (λ p. p.1 ≤ l.bound) l.value-iterator → All (λ p. p.1 ≤ l.bound) l.fn.map.pairs
