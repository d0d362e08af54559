-- What an answer tells whose value was dropped.
use Rattle.std.specs.Prelude.{Result, Ok, Err}

-- an answer that P allows, but for its value
abbrev pub IsWithoutValue : {X E : Type 0} → (Result X E → Type 0) → Result (Unit {0}) E → Type 0
IsWithoutValue {X} P (Ok u) = (x : X) × P (Ok x)
IsWithoutValue P (Err e) = P (Err e)
