use Rattle.std.proofs.Common.{◌+◌, ◌≤◌}
use Rattle.std.specs.Vec.{vec_len, vec_capacity}
use Rattle.std.specs.VecDeque.{deque_len}
use Rattle.flurry_seq.proofs.RunLaws.{HasRun}
use Rattle.flurry_seq_set.specs.SetCalls.{SetCallAnswers}
use Rattle.flurry_seq_set.proofs.seq_set.SeqSet.run.Given as goal

abbrev pub invariant-loop-call : goal.invariant-loop-call
invariant-loop-call g l = record {
  ran : HasRun (SetCallAnswers g.T.Ord.cmp (λ p x b q. goal.P-step g p x b q)) l.initial.calls.items l.calls.items l.initial.self l.replies.items l.self;
  room : vec_len l.replies + deque_len l.calls ≤ vec_capacity l.replies;
}

abbrev pub decreases-loop-call : goal.decreases-loop-call
decreases-loop-call g l = deque_len l.calls
