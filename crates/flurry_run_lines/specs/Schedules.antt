-- The lines of a schedule, as text.
use Rattle.std.specs.Prelude.{◌≢◌, ℕ, ◌<◌, ◌≤◌, ◌^◌, List, ◌∷◌, ◌++◌, codes, ⊤}
use Rattle.std.specs.Fmt.{decimal}
use Rattle.flurry_run_lines.specs.declared.schedule.Line.{Line}
use Rattle.flurry_run_lines.specs.declared.schedule.Line.TheVariants.{World, Insert, Try, Get, Remove, Reserve, Clear, Walk, Drop, Step, Lose}

-- a line as it is written, without its line end
abbrev pub line_text : Line → List ℕ
line_text (World p c) = codes "world " ++ (decimal p ++ 32 ∷ decimal c)
line_text (Insert k v) = codes "begin insert " ++ (decimal k ++ 32 ∷ decimal v)
line_text (Try k v) = codes "begin try " ++ (decimal k ++ 32 ∷ decimal v)
line_text (Get k) = codes "begin get " ++ decimal k
line_text (Remove k) = codes "begin remove " ++ decimal k
line_text (Reserve n) = codes "begin reserve " ++ decimal n
line_text Clear = codes "begin clear"
line_text Walk = codes "begin walk"
line_text (Drop p) = codes "begin drop " ++ decimal p
line_text (Step p n) = codes "step " ++ (decimal p ++ 32 ∷ decimal n)
line_text (Lose p) = codes "lose " ++ decimal p

-- its numbers have 64 bits, and it asks for 100000 steps at most
abbrev pub IsLine : Line → Type 0
IsLine (World p c) = (p < 2 ^ 64) × (c < 2 ^ 64)
IsLine (Insert k v) = (k < 2 ^ 64) × (v < 2 ^ 64)
IsLine (Try k v) = (k < 2 ^ 64) × (v < 2 ^ 64)
IsLine (Get k) = k < 2 ^ 64
IsLine (Remove k) = k < 2 ^ 64
IsLine (Reserve n) = n < 2 ^ 64
IsLine Clear = ⊤
IsLine Walk = ⊤
IsLine (Drop p) = p < 2 ^ 64
IsLine (Step p n) = (p < 2 ^ 64) × (n ≤ 100000)
IsLine (Lose p) = p < 2 ^ 64

-- no line of a schedule is written so
abbrev pub IsNoLine : List ℕ → Type 0
IsNoLine line = (l : Line) → IsLine l → line ≢ line_text l

-- no line of a schedule begins a call in these words
abbrev pub IsNoCall : List ℕ → Type 0
IsNoCall words = IsNoLine (codes "begin " ++ words)
