use Rattle.flurry_bins.specs.Tree.{shape_from, inorder}
use Rattle.flurry_bins.proofs.OneHash.{all_one_hash}
use Rattle.flurry_bins.proofs.bin.tree.only_hash.Goals as goal

pub returns-then-first-last : goal.returns-then-first-last
returns-then-first-last g c =
    all_one_hash g.K.Ord.cmp (inorder (shape_from c.args.root)) c.in_ok-first.first.now c.in_ok-last.last.now c.requires
    (rw c.in_ok-first.was at c.next_in.ensures) (rw c.in_ok-last.was at c.last_in.ensures) c.if-first-last.true
