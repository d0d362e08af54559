use Rattle.std.proofs.Common.{◌∙◌, ap, length}
use Rattle.flurry_bins.specs.Chain.{entry_of}
use Rattle.flurry_bins.specs.Kind.{kind_entries, kind_is_tree, kind_ascending}
use Rattle.flurry_bins.specs.Entries.{with_entry}
use Rattle.flurry_bins.specs.Bin.{entries_of_bin, is_tree}
use Rattle.flurry_bins.proofs.Insertion.{with_entry-ok}
use Rattle.flurry_base.proofs.BinSizeLaws.{IsSized-grown}
use Rattle.flurry_bins.proofs.bin.adaptive.BinOrdered.put_node.Goals as goal

pub invariant_of-self : goal.invariant_of-self
unfolding entries_of_bin is_tree
invariant_of-self g c =
    let old = c.args.self.now.kind in
    let x = entry_of c.args.node.value in
    let p = with_entry-ok g.met.K.Ord.total x (kind_entries old) (kind_ascending old) c.requires.absent in
    let is = c.put_node.ensures.entries ∙ ap (λ k. with_entry g.K.Ord.cmp x (kind_entries k)) c.replace-kind.ensures.value in
    record { sized = rw (c.put_node.ensures.kind, c.replace-kind.ensures.value) (IsSized-grown (kind_is_tree old) (length (kind_entries old)) _ c.args.self.now.sized (ap length is ∙ p.longer)) }
