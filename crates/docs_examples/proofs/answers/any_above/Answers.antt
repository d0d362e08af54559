use Rattle.std.proofs.Common.{arith, ◌≤◌, ℕ, subst, sym}
use Rattle.std.specs.List.{All}
use Rattle.std.proofs.lemmas.List.Elements.{All-cons, All-nil}
use Rattle.std.proofs.lemmas.List.Sorted.{All-permutation, IsPermutation-sym}
use Rattle.docs_examples.proofs.answers.any_above.Goals as goal

abbrev IsWithin : ℕ → ℕ × ℕ → Type 0
IsWithin bound p = p.1 ≤ bound

pub loop-value-init : goal.loop-value-init
loop-value-init c = λ h.
    All-permutation (IsWithin c.args.bound) c.iter-value-items.result c.args.map.now.pairs (IsPermutation-sym c.args.map.now.pairs c.iter-value-items.result c.iter-value-items.ensures.pairs)
    (subst (All (IsWithin c.args.bound)) c.into_iter-value-iterator.ensures.into_iter_gives h)

pub loop-value-preserved : goal.loop-value-preserved
loop-value-preserved c = λ h. c.loop-value.invariant (subst (All (IsWithin c.args.bound)) (sym c.in-Some.ensures.steps) (All-cons (IsWithin c.args.bound) _ _ (omega arith) h))

pub returns : goal.returns
returns c = λ _. c.loop-value.invariant (subst (All (IsWithin c.args.bound)) (sym c.in-None.ensures.steps.0) (All-nil (IsWithin c.args.bound)))
