use Rattle.std.proofs.Common.{rules}
use Rattle.flurry_bins.proofs.bin.tree.balance_left.Goals as goal

pub returns-then-has_red_root : goal.returns-then-has_red_root
returns-then-has_red_root g c = search rules
