use Rattle.flurry_steps_claims.proofs.RangeLaws.{cuts}
use Rattle.flurry_steps_claims.proofs.laws.ranges_cut_the_table.Goals as goal

pub returns : goal.returns
returns c = cuts
