use Rattle.std.proofs.Common.{arith}
use Rattle.flurry_seq.proofs.RunLaws.{on_err, run_begins, run_goes_on, run_ends, run_stops, ends_before_all}
use Rattle.flurry_seq_set.specs.SetCalls.{SetCallAnswers, SetCallRefused}
use Rattle.flurry_seq_set.proofs.SetLaws.{same_set_refused}
use Rattle.flurry_seq_set.proofs.seq_set.SeqSet.run.Goals as goal

pub returns-in_err-replies-clause-err : goal.returns-in_err-replies-clause-err
returns-in_err-replies-clause-err g c = on_err c.from_residual.result _ (ends_before_all (SetCallAnswers g.T.Ord.cmp (λ p x b q. goal.P-step g p x b q)) (SetCallRefused g.T.Ord.cmp) (same_set_refused g.T.Ord.cmp) c.args.calls.items c.args.self.now)

pub loop-call-init : goal.loop-call-init
loop-call-init g c = record {
  ran = rw c.in_ok-replies.ensures.items (run_begins (SetCallAnswers g.T.Ord.cmp (λ p x b q. goal.P-step g p x b q)) c.args.calls.items c.args.self.now);
  room = omega (arith, c.in_ok-replies.ensures.len, c.in_ok-replies.ensures.exact, c.len.ensures);
}

pub returns-in_err-reply-clause-err : goal.returns-in_err-reply-clause-err
returns-in_err-reply-clause-err g c =
    on_err c.from_residual-in_err-reply.result _
    (run_stops (SetCallAnswers g.T.Ord.cmp (λ p x b q. goal.P-step g p x b q)) (SetCallRefused g.T.Ord.cmp) c.in-Some.call c.pop_front.new.self.items c.call.new.self c.loop-call.invariant.ran c.in-Some.ensures.items c.in_err-reply.ensures.err)

pub loop-call-preserved : goal.loop-call-preserved
loop-call-preserved g c = record {
  ran = rw c.push_reserved.ensures.items (run_goes_on (SetCallAnswers g.T.Ord.cmp (λ p x b q. goal.P-step g p x b q)) c.in-Some.call c.pop_front.new.self.items c.in_ok-reply.reply c.call.new.self c.loop-call.invariant.ran c.in-Some.ensures.items c.in_ok-reply.ensures.ok);
  room = omega (arith, c.push_reserved.ensures.len, c.push_reserved.ensures.capacity, c.in-Some.ensures.len, c.loop-call.invariant.room);
}

pub returns-clause-ok : goal.returns-clause-ok
returns-clause-ok g c = run_ends (SetCallAnswers g.T.Ord.cmp (λ p x b q. goal.P-step g p x b q)) c.loop-call.invariant.ran (omega (arith, c.in_default.ensures.cases.0, c.loop-call.calls.ok.0))
