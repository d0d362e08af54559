use Rattle.std.proofs.Common.{rules}
use Rattle.flurry_seq_pairs.proofs.set.from_items.Goals as goal

pub returns-clause-made : goal.returns-clause-made
returns-clause-made g c = search rules

pub returns-clause-bins : goal.returns-clause-bins
returns-clause-bins g c = search rules
