use Rattle.flurry_run_lines.proofs.ScheduleLemmas.{Did}
use Rattle.flurry_run_lines.proofs.world.do_steps.Given as goal

-- the steps so far are done, and their labels written
abbrev pub invariant-loop : goal.invariant-loop
invariant-loop g l = Did g.F.ComputeFn.changes l.fn.party l.counter l.initial.world l.world (g.W.Sink.contents l.initial.writer) (g.W.Sink.contents l.writer)
