use Rattle.std.proofs.Common.{◌≤◌, length}
use Rattle.flurry_bins.specs.Kind.{kind_entries, kind_is_tree}
use Rattle.flurry_bins.specs.EntryCall.{CalledAtEntry}
use Rattle.flurry_bins.specs.Bin.{entries_of_bin, is_tree}
use Rattle.flurry_base.proofs.BinSizeLaws.{IsSized-kept}
use Rattle.flurry_base.proofs.KeepsLaws.{Keeps-length}
use Rattle.flurry_bins.proofs.bin.adaptive.Bin.retain.Goals as goal

pub invariant_of-self : goal.invariant_of-self
unfolding entries_of_bin is_tree
invariant_of-self g c =
    let old = c.args.self.now.kind in
    let new = c.retain.result in
    let kept = rw c.replace-kind.ensures.value at c.retain.ensures.kept in
    let le : length (kind_entries new) ≤ length (kind_entries old) = Keeps-length (CalledAtEntry (goal.F-step g)) c.args.keep.now (kind_entries old) (kind_entries new) c.retain.new.keep kept in
    record { sized = rw (c.retain.ensures.kind, c.replace-kind.ensures.value) (IsSized-kept (kind_is_tree old) (length (kind_entries old)) (length (kind_entries new)) c.args.self.now.sized le) }

pub returns-clause-kept : goal.returns-clause-kept
unfolding entries_of_bin is_tree
returns-clause-kept g c = rw (← c.replace-kind.ensures.value) c.retain.ensures.kept
