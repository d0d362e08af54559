use Rattle.std.proofs.Common.{◌≤◌, length}
use Rattle.flurry_bins.specs.Bin.{entries_of_bin, is_tree}
use Rattle.flurry_bins.specs.Kind.{kind_entries, kind_is_tree, kind_ascending}
use Rattle.flurry_bins.proofs.BinSizes.{sized_by_ten}
use Rattle.flurry_bins.proofs.Insertions.{insertion-no_shorter}
use Rattle.flurry_bins.proofs.bin.adaptive.Bin.insert.Goals as goal

pub invariant_of-self : goal.invariant_of-self
unfolding entries_of_bin is_tree
invariant_of-self g c =
    let old = c.args.self.now.kind in
    let taken = c.replace-kind.result in
    let put = c.insert-kind in
    let more = insertion-no_shorter g.met.K.Ord.total c.args.hash c.args.key c.args.value c.args.number put.result.1 (kind_entries taken) (kind_entries put.result.0) (kind_ascending taken) put.ensures.ok put.ensures.same in
    let le : length (kind_entries old) ≤ length (kind_entries put.result.0) = rw c.replace-kind.ensures.value at more in
    record { sized = rw (put.ensures.kind, c.replace-kind.ensures.value) (sized_by_ten (kind_is_tree old) (length (kind_entries old)) (length (kind_entries put.result.0)) c.args.self.now.sized le) }
