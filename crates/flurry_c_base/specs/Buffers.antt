-- What a caller's buffer has after a call.
use Rattle.std.specs.Prelude.{◌++◌, ℕ, List, drop, length, take}

-- bytes were copied to its beginning, as many as there is room for; what lies behind them stays
abbrev pub with_bytes : List ℕ → List ℕ → List ℕ
with_bytes buffer bytes = take (length buffer) bytes ++ drop (length bytes) buffer
