-- What is kept of a list after a function was called once on each element.
use Rattle.std.specs.Prelude.{◌≡◌, Bool, List, [], ◌∷◌, if◌then◌else◌}
use Rattle.std.specs.Borrow.{Bor}

-- a function was called on each element of a list in turn. The calls took it from the first state to the last, and the kept
-- elements are those at which it answered true, in the same order
abbrev pub Keeps : {F X : Type 0} → (F → X → Bool → F → Type 0) → F → List X → List X → F → Type 0
Keeps call first [] kept last = (kept ≡ []) × (first ≡ last)
Keeps {F} {X} call first (x ∷ xs) kept last =
    (answer : Bool) × (next : F) × (rest : List X) × call first x answer next × Keeps call next xs rest last × (kept ≡ (if answer then x ∷ rest else rest))

module _ {F K V : Type 0} (step : F → Bor K → Bor V → Bool → F → Type 0) where
  -- a call at references to a key and a value
  pub record CalledAtPair (f : F) (pair : K × V) (answer : Bool) (next : F) : Type 0 where
    pub key : Bor K
    pub value : Bor V
    pub shows_key : key.now ≡ pair.0
    pub shows_value : value.now ≡ pair.1
    pub called : step f key value answer next
