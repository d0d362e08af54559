-- No command is longer than a line may be.
use Rattle.std.proofs.Common.{ℕ, ◌<◌, ◌≤◌, ◌^◌, length, length-append, arith}
use Rattle.std.specs.Fmt.{decimal}
use Rattle.std.proofs.lemmas.Fmt.{length-decimal-le}
use Rattle.flurry_run_lines.specs.declared.command.Command.{Command}
use Rattle.flurry_run_lines.specs.declared.command.Command.TheVariants.{Insert, Try, Get, Remove, Len, Bins}
use Rattle.flurry_run_lines.specs.declared.schedule.Line.{Line}
use Rattle.flurry_run_lines.specs.declared.schedule.Line.TheVariants as line
use Rattle.flurry_run_lines.specs.Commands as command
use Rattle.flurry_run_lines.specs.Schedules as schedule

short : (n : ℕ) → n < 2 ^ 64 → length (decimal n) ≤ 20
short n h = length-decimal-le 20 n (omega arith) (omega arith) h

pub short_command : (c : Command) → command.IsCommand c → length (command.command_text c) ≤ 64
short_command (Insert k v) h = let a = short k h.0 in let b = short v h.1 in simp length-append (omega arith)
short_command (Try k v) h = let a = short k h.0 in let b = short v h.1 in simp length-append (omega arith)
short_command (Get k) h = let a = short k h in simp length-append (omega arith)
short_command (Remove k) h = let a = short k h in simp length-append (omega arith)
short_command Len h = omega arith
short_command Bins h = omega arith

pub short_line : (l : Line) → schedule.IsLine l → length (schedule.line_text l) ≤ 64
short_line (line.World p c) h = let a = short p h.0 in let b = short c h.1 in simp length-append (omega arith)
short_line (line.Insert k v) h = let a = short k h.0 in let b = short v h.1 in simp length-append (omega arith)
short_line (line.Try k v) h = let a = short k h.0 in let b = short v h.1 in simp length-append (omega arith)
short_line (line.Get k) h = let a = short k h in simp length-append (omega arith)
short_line (line.Remove k) h = let a = short k h in simp length-append (omega arith)
short_line (line.Reserve n) h = let a = short n h in simp length-append (omega arith)
short_line line.Clear h = omega arith
short_line line.Walk h = omega arith
short_line (line.Drop p) h = let a = short p h in simp length-append (omega arith)
short_line (line.Lose p) h = let a = short p h in simp length-append (omega arith)
short_line (line.Step p n) h = let a = short p h.0 in let b = short n (omega (arith, h.1)) in simp length-append (omega arith)
