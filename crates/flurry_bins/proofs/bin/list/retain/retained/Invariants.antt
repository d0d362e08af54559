use Rattle.std.proofs.Common.{◌≡◌, ◌+◌, ◌≤◌, length}
use Rattle.flurry_bins.specs.Chain.{chain}
use Rattle.flurry_bins.specs.EntryCall.{CalledAtEntry}
use Rattle.flurry_base.proofs.KeepsLaws.{KeepsOn}
use Rattle.flurry_bins.proofs.bin.list.retain.retained.Given as goal
use Rattle.flurry_base.specs.declared.sizes.TheConstants.{MAX_LEN}

abbrev pub invariant-loop-rest : goal.invariant-loop-rest
invariant-loop-rest g l = record {
  callable : goal.F-IsAlwaysCallable g l.keep;
  kept : KeepsOn (CalledAtEntry (goal.F-step g)) l.initial.keep (chain l.initial.rest) (chain l.kept) l.keep (chain l.rest);
  len : l.len ≡ length (chain l.kept);
  short : l.len + length (chain l.rest) ≤ MAX_LEN;
}

abbrev pub decreases-loop-rest : goal.decreases-loop-rest
decreases-loop-rest g l = length (chain l.rest)
