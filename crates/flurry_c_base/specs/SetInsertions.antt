-- What an insertion leaves of a finite set.
use Rattle.std.specs.Prelude.{◌≡◌, List, MatchOption}
use Rattle.std.specs.declared.cmp.Ordering.{Ordering}
use Rattle.flurry_base.specs.FiniteSet.{element_at, with_element}

-- a new element was added; the set of an element that was there is as it was
abbrev pub AddsOrKeeps : {T : Type 0} → (T → T → Ordering) → List T → T → List T → Type 0
AddsOrKeeps cmp old element new = MatchOption (element_at cmp old element) (new ≡ with_element cmp old element) (λ _. new ≡ old)
