use Rattle.std.proofs.Common.{rules}
use Rattle.flurry_bins_slots.proofs.live.LiveBin.put_absent.Goals as goal

pub returns-clause-reply : goal.returns-clause-reply
returns-clause-reply g c = search rules
