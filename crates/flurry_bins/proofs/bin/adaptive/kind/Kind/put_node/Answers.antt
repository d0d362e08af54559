use Rattle.std.proofs.Common.{length, nat_le, ap, ◌∙◌}
use Rattle.flurry_bins.specs.Chain.{node_chain, entry_of}
use Rattle.flurry_bins.specs.Entries.{with_entry}
use Rattle.flurry_bins.proofs.BinSizes.{one_more_than_nine}
use Rattle.flurry_bins.proofs.PlainEntryLaws.{length-with_entry}
use Rattle.flurry_bins.proofs.bin.adaptive.kind.Kind.put_node.Goals as goal

pub returns-in-AsList-clause-kind : goal.returns-in-AsList-clause-kind
returns-in-AsList-clause-kind g c =
    let list = c.in-AsList.list in
    let x = entry_of c.args.node.value in
    let put = c.put_node-in-AsList.ensures ∙ ap (with_entry g.K.Ord.cmp x) c.into_list-list-in-AsList.ensures in
    let more = ap length put ∙ length-with_entry g.met.K.Ord.total x (node_chain list.head.value) list.ascending (rw c.in-AsList.is at c.requires.absent) in
    rw c.in-AsList.is (c.from_list.ensures.kind ∙ ap (nat_le 10) more ∙ one_more_than_nine (length (node_chain list.head.value)))
