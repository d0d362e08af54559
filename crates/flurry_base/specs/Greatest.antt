-- The greatest of some numbers.
use Rattle.std.specs.Prelude.{ℕ, max, List, [], ◌∷◌}

-- 0 where there is none
abbrev pub greatest : List ℕ → ℕ
greatest [] = 0
greatest (n ∷ ns) = max n (greatest ns)
