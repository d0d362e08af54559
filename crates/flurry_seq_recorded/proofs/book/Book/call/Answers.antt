use Rattle.std.proofs.Common.{rules}
use Rattle.flurry_seq_recorded.proofs.HistoryLaws.{replays_more}
use Rattle.flurry_seq_recorded.proofs.book.Book.call.Goals as goal

pub invariant_of-self-2 : goal.invariant_of-self-2
invariant_of-self-2 g c = record {
  replays =
      rw (c.push_reserved.ensures.items, c.reserve.ensures.items)
      (replays_more g.K.Ord.cmp c.self.inside.history.items c.self.inside.map.pairs c.args.call c.in_ok-reply.reply c.reply_to.new.map.pairs c.self.invariant.replays c.in_ok-reply.ensures.ok);
  numbers = c.self.invariant.numbers;
}

pub returns-clause-ok : goal.returns-clause-ok
returns-clause-ok g c = search rules
