-- Laws of options.
use Rattle.std.specs.Prelude.{◌≡◌, Option, Some, None, refl}
use Rattle.std.specs.Option.{option_map, option_copied, IsNone, IsSome}
use Rattle.std.specs.Borrow.{Bor}

pub copied : {A B : Type 0} (f : A → B) (w : Option (Bor A)) → option_map (λ (x : Bor A). f x.now) w ≡ option_map f (option_copied w)
copied f None = refl
copied f (Some x) = refl

pub some_mapped : {A B : Type 0} (f : A → B) (w : Option A) → IsSome (option_map f w) → IsSome w
some_mapped f None h = cc
some_mapped f (Some x) h = refl

pub none_mapped : {A B : Type 0} (f : A → B) (w : Option A) → option_map f w ≡ None → IsNone w
none_mapped f None h = refl
none_mapped f (Some x) h = cc

pub absent_is : {X : Type 0} (w : Option X) → IsNone w → w ≡ None
absent_is None h = refl
absent_is (Some x) h = cc
