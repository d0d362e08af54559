use Rattle.std.proofs.Common.{rules}
use Rattle.flurry_seq_recorded.proofs.HistoryLaws.{from_zero_more}
use Rattle.flurry_seq_recorded.proofs.book.Book.share.Goals as goal

pub invariant_of-self-2 : goal.invariant_of-self-2
invariant_of-self-2 g c = record {
  replays = c.self.invariant.replays;
  numbers = rw c.in_ok-push.ensures.items (from_zero_more c.self.inside.shares.items c.len-number.result (search rules) c.self.invariant.numbers);
}

pub returns-clause-ok : goal.returns-clause-ok
returns-clause-ok g c = search rules
