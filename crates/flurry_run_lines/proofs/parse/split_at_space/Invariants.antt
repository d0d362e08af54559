use Rattle.std.proofs.Common.{take}
use Rattle.flurry_run_lines.specs.Words.{HasNoSpace}
use Rattle.flurry_run_lines.proofs.parse.split_at_space.Given as goal

abbrev pub invariant-loop-i : goal.invariant-loop-i
invariant-loop-i l = HasNoSpace (take l.i l.words)
