use Rattle.flurry_bins.proofs.GreatestLaws.{greatest-inorder}
use Rattle.flurry_bins.proofs.Trees.{shape_from_at}
use Rattle.flurry_bins.proofs.bin.tree.+greatest_in.Goals as goal

pub returns : goal.returns
returns g t c =
    rw (c.max-2.ensures, c.max.ensures, c.greatest_in-left.ensures, c.greatest_in-right.ensures, c.follow.ensures.tree, c.follow-2.ensures.tree)
    (greatest-inorder (λ e. e.number) _ _ _ _ _ (shape_from_at c.in-Some.is))
