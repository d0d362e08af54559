use Rattle.std.proofs.Common.{sym, ap, ◌∙◌}
use Rattle.flurry_bins.specs.Tree.{shape, inorder}
use Rattle.flurry_bins.proofs.Rewriting.{inorder-tree_with_value, recoloured, tree_value-is, with_value_at-ascending, length-with_value_at, no_value}
use Rattle.flurry_bins.proofs.bin.tree.TreeBinOrdered.write.Goals as goal

pub unreachable-requires : goal.unreachable-requires
unreachable-requires g c =
    let old = c.args.self.now in
    no_value (λ e. e.value) _ c.requires (sym c.in_default.is ∙ c.write_in.ensures.old ∙ tree_value-is g.met.K.Ord.total c.args.hash (g.Q.Query.stands_for c.args.key) (shape old.root) old.ascending)

pub invariant_of-self : goal.invariant_of-self
invariant_of-self g c =
    let old = c.args.self.now in
    let is = ap inorder c.write_in.ensures.after ∙ inorder-tree_with_value g.met.K.Ord.total c.args.hash (g.Q.Query.stands_for c.args.key) c.args.value c.args.number (shape old.root) old.ascending in
    record {
      ascending = rw is (with_value_at-ascending g.K.Ord.cmp c.args.hash (g.Q.Query.stands_for c.args.key) c.args.value c.args.number (inorder (shape old.root)) old.ascending);
      balanced = rw c.write_in.ensures.after (recoloured g.K.Ord.cmp c.args.hash (g.Q.Query.stands_for c.args.key) c.args.value c.args.number (shape old.root) old.balanced).balanced;
      counted = rw (is, length-with_value_at g.K.Ord.cmp c.args.hash (g.Q.Query.stands_for c.args.key) c.args.value c.args.number (inorder (shape old.root))) old.counted;
      short = old.short;
    }

pub returns-clause-old : goal.returns-clause-old
returns-clause-old g c =
    let old = c.args.self.now in
    sym (c.in-Some.ensures.old ∙ tree_value-is g.met.K.Ord.total c.args.hash (g.Q.Query.stands_for c.args.key) (shape old.root) old.ascending)

pub returns-clause-after : goal.returns-clause-after
returns-clause-after g c = ap inorder c.write_in.ensures.after ∙ inorder-tree_with_value g.met.K.Ord.total c.args.hash (g.Q.Query.stands_for c.args.key) c.args.value c.args.number (shape c.args.self.now.root) c.args.self.now.ascending
