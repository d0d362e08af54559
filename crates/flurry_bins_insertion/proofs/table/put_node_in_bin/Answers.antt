use Rattle.std.proofs.Common.{length, sym, ap, ◌∙◌}
use Rattle.flurry_bins.specs.Bin.{entries_of_bin, ascending_of_bin, is_tree}
use Rattle.flurry_bins.specs.Chain.{entry_of}
use Rattle.flurry_bins_insertion.proofs.LongLists.{long_in_large, long_in_small}
use Rattle.flurry_bins.proofs.PlainEntryLaws.{length-with_entry}
use Rattle.flurry_bins_insertion.proofs.table.put_node_in_bin.Goals as goal
use Rattle.flurry_bins_insertion.proofs.table.put_node_in_bin.Goals.{then-is_long+then-bins-ge-MIN_TREEIFY_BINS, else-is_long, else-is_long-via-then-is_long+else-bins-ge-MIN_TREEIFY_BINS, else-is_long-via-else-is_long}

pub returns-then-is_long-2-clause-kind : goal.returns-then-is_long-2-clause-kind
returns-then-is_long-2-clause-kind g c =
    let long = sym c.is_long_list-is_long.ensures ∙ c.if-is_long-2.true in
    let more = ap length c.put_node.ensures.after ∙ length-with_entry g.met.K.Ord.total (entry_of c.args.node.value) (entries_of_bin c.args.bin.now) (ascending_of_bin c.args.bin.now) c.requires.absent in
    elim c.if-is_long.branch [
      | then-is_long+then-bins-ge-MIN_TREEIFY_BINS w ↦
          long_in_large c.args.bins (is_tree c.args.bin.now) _ (is_tree c.if-is_long.bin) (length (entries_of_bin c.args.bin.now)) _ long c.put_node.ensures.kind more (ap is_tree w.bin-is ∙ w.plant.ensures.kind) w.if-bins-ge-MIN_TREEIFY_BINS.true
      | else-is_long w ↦ elim w.else-is_long.branch [
        | else-is_long-via-then-is_long+else-bins-ge-MIN_TREEIFY_BINS u ↦
            long_in_small c.args.bins (is_tree c.args.bin.now) (is_tree c.if-is_long.bin) (length (entries_of_bin c.args.bin.now)) long (ap is_tree w.bin-is ∙ c.put_node.ensures.kind) u.if-bins-ge-MIN_TREEIFY_BINS.false
        | else-is_long-via-else-is_long u ↦ let no = u.if-is_long.false in let yes = c.if-is_long-2.true in cc
      ]
    ]
