use Rattle.std.proofs.Common.{◌≤◌, ◌∙◌, not, ap, length, arith}
use Rattle.flurry_bins.specs.Kind.{kind_entries, kind_is_tree}
use Rattle.flurry_bins.specs.Entries.{is_at, without}
use Rattle.flurry_bins.specs.Bin.{entries_of_bin, is_tree}
use Rattle.flurry_base.proofs.BinSizeLaws.{filter_no_longer, IsSized-kept}
use Rattle.flurry_bins.proofs.bin.adaptive.BinOrdered.remove.Goals as goal

pub invariant_of-self : goal.invariant_of-self
unfolding entries_of_bin is_tree
invariant_of-self g c =
    let old = c.args.self.now.kind in
    let new = c.remove-kind.result.0 in
    let cmp = g.K.Ord.cmp in
    let is = c.remove-kind.ensures.entries ∙ ap (λ k. without cmp c.args.hash (g.Q.Query.stands_for c.args.key) (kind_entries k)) c.replace-kind.ensures.value in
    let le : length (kind_entries new) ≤ length (kind_entries old) = omega (arith, ap length is, filter_no_longer (λ e. not (is_at cmp c.args.hash (g.Q.Query.stands_for c.args.key) e)) (kind_entries old)) in
    record { sized = rw (c.remove-kind.ensures.kind, c.replace-kind.ensures.value) (IsSized-kept (kind_is_tree old) (length (kind_entries old)) (length (kind_entries new)) c.args.self.now.sized le) }
