use Rattle.std.proofs.Common.{◌+◌, ◌-◌, ◌^◌, ◌<◌, length}
use Rattle.flurry_base.specs.Sizes.{IsOnTheWay}
use Rattle.flurry_seq.specs.Contents.{SamePairs}
use Rattle.flurry_seq.proofs.seq_map.SeqMap.grow_while_full.Given as goal
use Rattle.flurry_base.specs.declared.sizes.TheConstants.{MAX_TABLE}

abbrev pub invariant-loop-self : goal.invariant-loop-self
invariant-loop-self g l = record {
  same : SamePairs l.initial.self l.self;
  some : 0 < l.self.bins;
  way : IsOnTheWay l.initial.self.bins (length l.initial.self.pairs + 1) l.self.bins;
}

abbrev pub decreases-loop-self : goal.decreases-loop-self
decreases-loop-self g l = 2 ^ MAX_TABLE - l.self.bins
