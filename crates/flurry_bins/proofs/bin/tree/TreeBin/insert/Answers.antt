use Rattle.std.proofs.Common.{◌≡◌, length, not, ap, ◌∙◌, arith}
use Rattle.flurry_bins.specs.Balance.{with_black_root}
use Rattle.flurry_base.specs.Given.{old_of}
use Rattle.flurry_bins.specs.Tree.{shape, inorder}
use Rattle.flurry_bins.proofs.Insertions.{old_of-some, balanced-put, balanced-written, tree_insertion, insertion-ascending, insertion-longer, insertion-as_long}
use Rattle.flurry_bins.proofs.RedBlack.{inorder-with_black_root}
use Rattle.flurry_bins.proofs.bin.tree.TreeBin.insert.Goals as goal
use Rattle.flurry_bins.proofs.bin.tree.TreeBin.insert.Goals.{then-is_none, else-is_none}

pub invariant_of-self-then-is_none : goal.invariant_of-self-then-is_none
invariant_of-self-then-is_none g c =
    let old = c.args.self.now in
    let o = g.met.K.Ord.total in
    let new = c.insert_in.new.root in
    let free = old_of-some _ (c.is_none.ensures ∙ ap not c.if-is_none.true) in
    let is : shape c.blacken.result ≡ with_black_root (shape new) = c.blacken.ensures ∙ ap with_black_root (ap shape c.take.ensures.value) in
    let same = ap inorder is ∙ inorder-with_black_root (shape new) in
    let all = tree_insertion o c.args.hash c.args.key c.args.value c.args.number (old_of c.in_ok-replaced.replaced) (shape old.root) (shape new) old.ascending c.in_ok-replaced.ensures.ok in
    let longer = insertion-longer o c.args.hash c.args.key c.args.value c.args.number (old_of c.in_ok-replaced.replaced) (inorder (shape old.root)) (inorder (shape new)) free old.ascending all in
    record {
      ascending = rw same (insertion-ascending o c.args.hash c.args.key c.args.value c.args.number (old_of c.in_ok-replaced.replaced) (inorder (shape old.root)) (inorder (shape new)) old.ascending all);
      balanced = rw is (balanced-put o c.args.hash c.args.key c.args.value c.args.number (old_of c.in_ok-replaced.replaced) (shape old.root) (shape new) free old.balanced c.in_ok-replaced.ensures.ok);
      counted = omega (arith, ap length same, longer, old.counted);
      short = omega (arith, c.requires, old.counted);
    }

pub invariant_of-self-else-is_none : goal.invariant_of-self-else-is_none
invariant_of-self-else-is_none g c =
    let old = c.args.self.now in
    let o = g.met.K.Ord.total in
    let new = c.insert_in.new.root in
    let there = old_of-some _ (c.is_none.ensures ∙ ap not c.if-is_none.false) in
    let all = tree_insertion o c.args.hash c.args.key c.args.value c.args.number (old_of c.in_ok-replaced.replaced) (shape old.root) (shape new) old.ascending c.in_ok-replaced.ensures.ok in
    let as_long = insertion-as_long o c.args.hash c.args.key c.args.value c.args.number (old_of c.in_ok-replaced.replaced) (inorder (shape old.root)) (inorder (shape new)) there all in
    record {
      ascending = insertion-ascending o c.args.hash c.args.key c.args.value c.args.number (old_of c.in_ok-replaced.replaced) (inorder (shape old.root)) (inorder (shape new)) old.ascending all;
      balanced = balanced-written o c.args.hash c.args.key c.args.value c.args.number (old_of c.in_ok-replaced.replaced) (shape old.root) (shape new) there old.balanced c.in_ok-replaced.ensures.ok;
      counted = omega (arith, as_long, old.counted);
      short = old.short;
    }

pub returns-clause-ok : goal.returns-clause-ok
returns-clause-ok g c =
    let old = c.args.self.now in
    let new = c.insert_in.new.root in
    let all = tree_insertion g.met.K.Ord.total c.args.hash c.args.key c.args.value c.args.number (old_of c.in_ok-replaced.replaced) (shape old.root) (shape new) old.ascending c.in_ok-replaced.ensures.ok in
    elim c.if-is_none.branch [
      | then-is_none w ↦
          let same = ap inorder (w.blacken.ensures ∙ ap with_black_root (ap shape w.take.ensures.value)) ∙ inorder-with_black_root (shape new) in
          rw (w.self-is, same) all
      | else-is_none w ↦ rw w.self-is all
    ]
