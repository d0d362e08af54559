use Rattle.flurry_bins.proofs.bin.tree.+build_balanced.Given as goal

abbrev pub decreases-build_balanced : goal.decreases-build_balanced
decreases-build_balanced g l = l.blacks
