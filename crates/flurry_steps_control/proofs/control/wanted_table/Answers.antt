use Rattle.flurry_steps_control.proofs.WantedTables.{wanted_number}
use Rattle.flurry_steps_control.proofs.control.wanted_table.Goals as goal

pub returns-clause-value : goal.returns-clause-value
returns-clause-value c = (wanted_number c.args.pairs c.ilog2.result (rw c.wanted.ensures.value at c.ilog2.ensures.power_le) (rw c.wanted.ensures.value at c.ilog2.ensures.next_power_gt)).1

pub returns-clause-within : goal.returns-clause-within
returns-clause-within c = (wanted_number c.args.pairs c.ilog2.result (rw c.wanted.ensures.value at c.ilog2.ensures.power_le) (rw c.wanted.ensures.value at c.ilog2.ensures.next_power_gt)).0
