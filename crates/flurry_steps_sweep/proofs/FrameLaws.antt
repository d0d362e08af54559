-- A stack of frames, by the items in its places.
use Rattle.std.specs.Prelude.{◌≡◌, List, [], ◌∷◌, map, Option, Some, None, MatchOption}
use Rattle.std.proofs.Common.{ap}

module _ {T U P : Type 0} (f : T → U) (items : P → List T) where
  pub popped : (o : Option T) (p p' : P) → MatchOption o ((items p ≡ []) × (p' ≡ p)) (λ x. items p ≡ x ∷ items p') → MatchOption o ((map f (items p) ≡ []) × (map f (items p') ≡ map f (items p))) (λ x. map f (items p) ≡ f x ∷ map f (items p'))
  popped None p p' (none, same) = (ap (map f) none, ap (λ q. map f (items q)) same)
  popped (Some x) p p' some = ap (map f) some
