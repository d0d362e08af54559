use Rattle.std.proofs.Common.{◌-◌, ◌^◌, ◌<◌}
use Rattle.flurry_base.specs.Sizes.{IsOnTheWay}
use Rattle.flurry_seq.specs.Invariant.{IsTableSize}
use Rattle.flurry_seq.proofs.seq_map.capacity.grown.Given as goal
use Rattle.flurry_base.specs.declared.sizes.TheConstants.{MAX_TABLE}

abbrev pub invariant-loop-grown : goal.invariant-loop-grown
invariant-loop-grown l = record {
  way : IsOnTheWay l.initial.bins l.least l.grown;
  size : IsTableSize l.grown;
  some : 0 < l.grown;
}

abbrev pub decreases-loop-grown : goal.decreases-loop-grown
decreases-loop-grown l = 2 ^ MAX_TABLE - l.grown
