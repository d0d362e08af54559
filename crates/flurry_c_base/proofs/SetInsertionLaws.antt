-- An insertion of an element that is there leaves a finite set as it is.
use Rattle.std.proofs.Common.{◌≡◌, ◌∙◌, List, Option, None, Some, is_some, MatchOption, Ordering, ap, refl}
use Rattle.std.specs.Cmp.{IsTotalOrder}
use Rattle.flurry_base.specs.FiniteSet.{IsFiniteSet, element_at, with_element}
use Rattle.flurry_seq_set.proofs.SetLaws.{with_element_present}
use Rattle.flurry_c_base.specs.SetInsertions.{AddsOrKeeps}

module _ {T : Type 0} {cmp : T → T → Ordering} (o : IsTotalOrder cmp) where
  pub adds_or_keeps : (old : List T) (x : T) (new : List T) → IsFiniteSet cmp old → new ≡ with_element cmp old x → AddsOrKeeps cmp old x new
  adds_or_keeps old x new ascend is = by_found (element_at cmp old x) refl
    where
      by_found : (found : Option T) → element_at cmp old x ≡ found → MatchOption found (new ≡ with_element cmp old x) (λ _. new ≡ old)
      by_found None at = is
      by_found (Some stored) at = is ∙ with_element_present o old x ascend (ap is_some at)
