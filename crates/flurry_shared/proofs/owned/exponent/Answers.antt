use Rattle.flurry_seq.proofs.TableLaws.{size_power}
use Rattle.flurry_shared.proofs.owned.exponent.Goals as goal

pub returns-clause-within : goal.returns-clause-within
returns-clause-within c = (size_power c.args.bins c.ilog2.result c.requires.size c.requires.some c.ilog2.ensures.power_le c.ilog2.ensures.next_power_gt).0

pub returns-clause-power : goal.returns-clause-power
returns-clause-power c = (size_power c.args.bins c.ilog2.result c.requires.size c.requires.some c.ilog2.ensures.power_le c.ilog2.ensures.next_power_gt).1
