-- The lines of the program, as text.
use Rattle.std.specs.Prelude.{◌≢◌, ℕ, ◌<◌, ◌^◌, List, ◌∷◌, ◌++◌, codes}
use Rattle.std.specs.Fmt.{decimal}
use Rattle.flurry_run_lines.specs.declared.command.Command.{Command}
use Rattle.flurry_run_lines.specs.declared.command.Command.TheVariants.{Insert, Try, Get, Remove, Len, Bins}

-- a command as it is written, without its line end
abbrev pub command_text : Command → List ℕ
command_text (Insert k v) = codes "insert " ++ (decimal k ++ 32 ∷ decimal v)
command_text (Try k v) = codes "try " ++ (decimal k ++ 32 ∷ decimal v)
command_text (Get k) = codes "get " ++ decimal k
command_text (Remove k) = codes "remove " ++ decimal k
command_text Len = codes "len"
command_text Bins = codes "bins"

-- its numbers have 64 bits
abbrev pub IsCommand : Command → Type 0
IsCommand (Insert k v) = (k < 2 ^ 64) × (v < 2 ^ 64)
IsCommand (Try k v) = (k < 2 ^ 64) × (v < 2 ^ 64)
IsCommand (Get k) = k < 2 ^ 64
IsCommand (Remove k) = k < 2 ^ 64
IsCommand Len = Unit {0}
IsCommand Bins = Unit {0}

-- no command is written so
abbrev pub IsNoSeqCommand : List ℕ → Type 0
IsNoSeqCommand line = (c : Command) → IsCommand c → line ≢ command_text c
