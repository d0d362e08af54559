use Rattle.std.proofs.Common.{◌<◌, ◌-◌, ◌/◌, length, arith, ap, sym, ◌∙◌, ◌≤◌}
use Rattle.std.proofs.lemmas.List.{length-append}
use Rattle.flurry_bins.specs.Chain.{chain}
use Rattle.flurry_bins.specs.Tree.{shape, inorder}
use Rattle.flurry_bins.proofs.RedBlack.{black_over}
use Rattle.flurry_bins.proofs.Powers.{no_blacks, halved}
use Rattle.flurry_bins.proofs.bin.tree.+build_balanced.Goals as goal

pub returns-then-count-eq0-clause-blacks : goal.returns-then-count-eq0-clause-blacks
returns-then-count-eq0-clause-blacks g t c = no_blacks c.args.blacks (omega arith)

pub build_balanced-left-requires : goal.build_balanced-left-requires
build_balanced-left-requires g t c =
    let some : 0 < c.args.blacks = omega arith in
    let half = halved c.args.blacks some in
    λ κs l. (omega arith, (l.0, (l.1.0, (l.1.1, (omega arith, (omega (arith, half), (omega (arith, half), omega arith)))))))

pub build_balanced-right-requires : goal.build_balanced-right-requires
build_balanced-right-requires g t c =
    let some : 0 < c.args.blacks = omega arith in
    let half = halved c.args.blacks some in
    let left = c.build_balanced-left.ensures in
    let whole = ap length left.whole in
    let behind = ap length (ap chain c.in-Some-from.is ∙ c.detach_tail-node-2.ensures.behind) in
    let long : c.args.count - 1 - c.args.count / 2 ≤ length (chain c.detach_tail-node-2.result.1) = omega (arith, length-append (inorder (shape c.build_balanced-left.result.0)) (chain c.build_balanced-left.result.1), left.counted, c.requires.enough) in
    λ κs l. (omega arith, (l.0, (l.1.0, (l.1.1, (long, (omega (arith, half), (omega (arith, half), omega arith)))))))

pub returns-clause-balanced : goal.returns-clause-balanced
returns-clause-balanced g t c =
    let left = c.build_balanced-left.ensures in
    let right = c.build_balanced-right.ensures in
    rw c.link_children-2.ensures (left.balanced, (right.balanced, (left.blacks ∙ sym right.blacks, (black_over _, black_over _))))
