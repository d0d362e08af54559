-- What is known of clones.
use Rattle.std.specs.Prelude.{◌≡◌, List, IsPermutation}
use Rattle.std.specs.List.{AllZip}

-- a clone is the value that it is made of
abbrev pub AreEqualClones : {T : Type 0} → (T → T → Type 0) → Type 0
AreEqualClones {T} is_clone = (x y : T) → is_clone x y → y ≡ x

-- the second pair has clones of the key and of the value of the first
abbrev pub IsClonedPair : {K V : Type 0} → (K → K → Type 0) → (V → V → Type 0) → K × V → K × V → Type 0
IsClonedPair is_key_clone is_value_clone p q = is_key_clone p.0 q.0 × is_value_clone p.1 q.1

-- ys has one clone of each element of xs, in any order
abbrev pub HasClonesOf : {X : Type 0} → (X → X → Type 0) → List X → List X → Type 0
HasClonesOf {X} is_clone xs ys = (from to : List X) × IsPermutation xs from × AllZip is_clone from to × IsPermutation to ys
