use Rattle.std.proofs.Common.{length, ap, arith, rules}
use Rattle.flurry_bins.proofs.Chains.{chain_step}
use Rattle.flurry_bins.proofs.bin.list.greatest_in.Goals as goal

pub loop-link-smaller : goal.loop-link-smaller
loop-link-smaller g c = omega (arith, ap length (chain_step c.in-Some.is c.follow-link.ensures.chain))

pub loop-link-init : goal.loop-link-init
loop-link-init g c = search rules
