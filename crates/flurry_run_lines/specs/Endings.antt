-- How a run of lines ends early, as text.
use Rattle.std.specs.Prelude.{ℕ, List, [], ◌∷◌, ◌++◌, codes}
use Rattle.std.specs.Fmt.{decimal}

-- that the line n is no command, with its line feed
abbrev pub bad_line_text : ℕ → List ℕ
bad_line_text n = codes "bad line " ++ (decimal n ++ 10 ∷ [])

-- that a read failed, with its line feed
abbrev pub input_failed_text : List ℕ
input_failed_text = codes "input failed" ++ 10 ∷ []

-- that memory is wanting, with its line feed
abbrev pub out_of_memory_text : List ℕ
out_of_memory_text = codes "out of memory" ++ 10 ∷ []
