use Rattle.std.proofs.Common.{sym, ap, ◌∙◌, arith}
use Rattle.std.specs.Option.{option_copied}
use Rattle.flurry_bins.specs.Tree.{tree_size}
use Rattle.flurry_bins.proofs.OneHash.{last_of_fork}
use Rattle.flurry_bins.proofs.Trees.{step_to_right}
use Rattle.flurry_bins.proofs.bin.tree.last_in.Goals as goal

pub loop-link-preserved : goal.loop-link-preserved
loop-link-preserved g c = sym (last_of_fork (step_to_right c.in-Some.is c.follow-link.ensures.tree) (option_copied c.loop-link.best)) ∙ c.loop-link.invariant

pub loop-link-smaller : goal.loop-link-smaller
loop-link-smaller g c = omega (arith, ap tree_size (step_to_right c.in-Some.is c.follow-link.ensures.tree))
