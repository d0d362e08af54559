-- Laws of loops over the elements of a shared set.
use Rattle.std.proofs.Common.{◌≡◌, Bool, ◌∙◌, sym, subst}
use Rattle.std.specs.Borrow.{Bor}
use Rattle.flurry_base.specs.declared.call.Seen.{Seen}
use Rattle.flurry_shared_set.specs.ElementAnswers.{SaysOfElement}

-- a call at a reference to an element, of which the walk has read the same
pub says_of_element : {F T : Type 0} {e : Bor T} {x : T} → e.now ≡ x → (y : Seen T (Unit {0})) → y.key ≡ x → (step : F → Bor T → Bool → F → Type 0) (f g : F) (says answer : Bool)
    → says ≡ answer → step f e says g → SaysOfElement step answer f y g
says_of_element {e = e} is y same step f g says answer told called = (e, is ∙ sym same, subst (λ b. step f e b g) told called)
