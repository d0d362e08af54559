use Rattle.std.proofs.Common.{rules}
use Rattle.flurry_seq.proofs.clone.shared_node.Goals as goal

pub returns-clause-number : goal.returns-clause-number
returns-clause-number g c = search rules
