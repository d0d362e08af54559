use Rattle.std.proofs.Common.{arith, ◌≡◌, ◌∙◌, ℕ, List, map, sum, sum_by}
use Rattle.std.proofs.lemmas.Grind.{common_steps}
use Rattle.std.proofs.lemmas.List.Sorted.{sum_by-IsPermutation}
use Rattle.use_words.proofs.words.total.Goals as goal

sum_map : {K : Type 0} (pairs : List (K × ℕ)) → sum (map (λ p. p.1) pairs) ≡ sum_by (λ p. p.1) pairs
sum_map pairs = grind (arith, common_steps)

pub loop-count-init : goal.loop-count-init
loop-count-init c =
    let h : sum c.values-count-items.result ≡ sum_by (λ p. p.1) c.args.counts.now.pairs = sum_by-IsPermutation (λ x. x) _ _ c.values-count-items.ensures.values ∙ sum_map c.args.counts.now.pairs in
    rw c.into_iter-count-iterator.ensures.into_iter_gives (omega (arith, h))
