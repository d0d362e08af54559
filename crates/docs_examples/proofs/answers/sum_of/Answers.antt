use Rattle.std.proofs.Common.{arith, ◌≡◌, ◌∙◌, ℕ, List, map, sum, sum_by}
use Rattle.std.proofs.lemmas.Grind.{common_steps}
use Rattle.std.proofs.lemmas.List.Sorted.{sum_by-IsPermutation}
use Rattle.docs_examples.proofs.answers.sum_of.Goals as goal

sum_map : (pairs : List (ℕ × ℕ)) → sum (map (λ p. p.1) pairs) ≡ sum_by (λ p. p.1) pairs
sum_map pairs = grind (arith, common_steps)

pub loop-value-init : goal.loop-value-init
loop-value-init c =
    let h : sum c.values-value-items.result ≡ sum_by (λ p. p.1) c.args.map.now.pairs = sum_by-IsPermutation (λ x. x) _ _ c.values-value-items.ensures.values ∙ sum_map c.args.map.now.pairs in
    rw c.into_iter-value-iterator.ensures.into_iter_gives (omega (arith, h))
