use Rattle.std.proofs.Common.{◌≡◌, ◌+◌, ◌≤◌}
use Rattle.std.specs.Borrow.{Bor}
use Rattle.std.specs.Vec.{vec_len, vec_capacity}
use Rattle.std.specs.VecDeque.{deque_len}
use Rattle.flurry_seq.specs.Calls.{CallAnswers}
use Rattle.flurry_seq.proofs.RunLaws.{HasRun}
use Rattle.flurry_seq.proofs.seq_map.SeqMap.run.Given as goal

abbrev pub invariant-loop-call : goal.invariant-loop-call
invariant-loop-call g l = record {
  ran : HasRun (CallAnswers g.K.Ord.cmp g.V.PartialEq.eq g.S.KeyHasher.hash_of (λ f k v o. (x : Bor g.row.K.Denot) × (y : Bor g.row.V.Denot) × (x.now ≡ k) × (y.now ≡ v) × goal.F-post g f x y o) (λ p x y b q. goal.P-step g p x y b q)) l.initial.calls.items l.calls.items l.initial.self l.replies.items l.self;
  room : vec_len l.replies + deque_len l.calls ≤ vec_capacity l.replies;
}

abbrev pub decreases-loop-call : goal.decreases-loop-call
decreases-loop-call g l = deque_len l.calls
