-- Which nodes and bins may cross threads: a thread may own them, or read them beside others, where any thread may do both with the keys,
-- the values and the allocator, and may give blocks back to it. Each follows from the one before; a search in one go finds none.
use denote.RattleType.{RattleType}
use denote.Param.Send.{IsSend, IsSync, Frees, sendable}
use Rattle.std.proofs.CrossingOver.{crosses}
use Rattle.std.specs.declared.alloc.Allocator.{Ghosts}
use Rattle.std.specs.declared.cmp.Ord as ord
use Rattle.std.specs.declared.cmp.PartialEq as eq
use Rattle.std.specs.declared.cmp.PartialOrd as partial
use Rattle.flurry_bins.proofs.bin.entry.Entry.TheSendSync as entry
use Rattle.flurry_bins.proofs.bin.node.Node.TheLaws.TheKnot as knot
use Rattle.flurry_bins.specs.contracts.bin.adaptive.Bin as Bin
use Rattle.flurry_bins.specs.contracts.bin.adaptive.nodes.LoneNode as LoneNode
use Rattle.flurry_bins.specs.contracts.bin.adaptive.nodes.NodeList as NodeList
use Rattle.flurry_bins.specs.contracts.bin.adaptive.nodes.NodeTree as NodeTree
use Rattle.flurry_bins.specs.contracts.bin.list.ListBin as ListBin
use Rattle.flurry_bins.specs.contracts.bin.node.Node as Node
use Rattle.flurry_bins.specs.contracts.bin.tree.TreeBin as TreeBin

module _ (K V A : RattleType) (g : Ghosts A.Denot) (sk : IsSend K) (yk : IsSync K) (sv : IsSend V) (yv : IsSync V) (sa : IsSend A) (ya : IsSync A) (f : Frees g g.dealloc_token) where
  pub node_send : IsSend (Node.the_field K V A g).row
  node_send = let e = entry.the_field_send K V A g sk sv sa yk yv ya f in search (knot.send-Node, crosses, sendable) depth 60

  pub node_sync : IsSync (Node.the_field K V A g).row
  node_sync = let e = entry.the_field_sync K V A g sk sv sa yk yv ya f in search (knot.sync-Node, crosses, sendable) depth 60

  module _ (o : ord.Ghosts K.Denot) (e : eq.Ghosts K.Denot) (p : partial.Ghosts K.Denot) where
    pub list_bin_send : IsSend (ListBin.the_field K V A o e p g).row
    list_bin_send = let n = node_send in search (crosses, sendable) depth 60

    pub list_bin_sync : IsSync (ListBin.the_field K V A o e p g).row
    list_bin_sync = let n = node_sync in search (crosses, sendable) depth 60

    pub tree_bin_send : IsSend (TreeBin.the_field K V A o e p g).row
    tree_bin_send = let n = node_send in search (crosses, sendable) depth 60

    pub tree_bin_sync : IsSync (TreeBin.the_field K V A o e p g).row
    tree_bin_sync = let n = node_sync in search (crosses, sendable) depth 60

    lone_node_send : IsSend (LoneNode.the_field K V A o e p g).row
    lone_node_send = let n = node_send in search (crosses, sendable) depth 60

    lone_node_sync : IsSync (LoneNode.the_field K V A o e p g).row
    lone_node_sync = let n = node_sync in search (crosses, sendable) depth 60

    node_list_send : IsSend (NodeList.the_field K V A o e p g).row
    node_list_send = let n = node_send in search (crosses, sendable) depth 60

    node_list_sync : IsSync (NodeList.the_field K V A o e p g).row
    node_list_sync = let n = node_sync in search (crosses, sendable) depth 60

    node_tree_send : IsSend (NodeTree.the_field K V A o e p g).row
    node_tree_send = let n = node_send in search (crosses, sendable) depth 60

    node_tree_sync : IsSync (NodeTree.the_field K V A o e p g).row
    node_tree_sync = let n = node_sync in search (crosses, sendable) depth 60

    pub bin_send : IsSend (Bin.the_field K V A o e p g).row
    bin_send = let n = lone_node_send in let l = node_list_send in let t = node_tree_send in search sendable depth 60

    pub bin_sync : IsSync (Bin.the_field K V A o e p g).row
    bin_sync = let n = lone_node_sync in let l = node_list_sync in let t = node_tree_sync in search sendable depth 60
