use Rattle.std.proofs.Common.{◌<◌, length, arith, rules}
use Rattle.flurry_bins.specs.Tree.{shape, inorder}
use Rattle.flurry_bins.proofs.Insertions.{insertion-no_shorter}
use Rattle.flurry_bins.proofs.Trees.{node_some}
use Rattle.flurry_bins.proofs.bin.adaptive.kind.Kind.insert.Goals as goal

pub of_tree-requires : goal.of_tree-requires
of_tree-requires g c =
    let tree = c.into_tree-tree.result in
    let new = c.insert-reply.new.self in
    let some : 0 < length (inorder (shape tree.root)) = rw c.into_tree-tree.ensures (node_some c.in-AsTree.tree.root.value) in
    omega (arith, some, insertion-no_shorter g.met.K.Ord.total c.args.hash c.args.key c.args.value c.args.number c.insert-reply.result (inorder (shape tree.root)) (inorder (shape new.root)) tree.ascending c.insert-reply.ensures.ok c.insert-reply.ensures.same)

pub returns-in_default : goal.returns-in_default
returns-in_default g c = search rules
