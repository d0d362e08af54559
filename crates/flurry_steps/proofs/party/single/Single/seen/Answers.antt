use Rattle.std.proofs.Common.{rules}
use Rattle.flurry_steps.proofs.Singles.{none_read}
use Rattle.flurry_steps.proofs.party.single.Single.seen.Goals as goal

pub returns : goal.returns
returns g c = search (rules, none_read)
