use Rattle.std.proofs.Common.{◌≡◌, length}
use Rattle.flurry_seq.specs.Iter.{entries_left}
use Rattle.flurry_seq.proofs.iter.EntriesIterator.next.Given as goal

abbrev pub invariant-loop-bin : goal.invariant-loop-bin
invariant-loop-bin g l = record {
  count : l.self-inside.left ≡ length (entries_left g.K.Ord.cmp l.self-inside.bins.now l.self-inside.last);
  same : entries_left g.K.Ord.cmp l.self-inside.bins.now l.self-inside.last ≡ l.fn.self;
}

abbrev pub decreases-loop-bin : goal.decreases-loop-bin
decreases-loop-bin g l = length l.self-inside.bins.now
