use Rattle.std.proofs.Common.{sym}
use Rattle.flurry_base.proofs.SizeLaws.{wanted_of-most, wanted_of-next}
use Rattle.flurry_base.proofs.sizes.wanted.Goals as goal

pub returns-then-pairs-clause-value : goal.returns-then-pairs-clause-value
returns-then-pairs-clause-value c = sym (wanted_of-most c.args.pairs c.if-pairs.true)

pub returns-clause-value : goal.returns-clause-value
returns-clause-value c = wanted_of-next c.args.pairs c.next_power_of_two.result c.if-pairs.false (c.next_power_of_two.ensures.power, c.next_power_of_two.ensures.lower_bound, c.next_power_of_two.ensures.upper_bound)
