use Rattle.std.proofs.Common.{rules}
use Rattle.std.proofs.lemmas.List.{length-map}
use Rattle.flurry_seq_set.proofs.seq_set.SeqSet.try_clone.Goals as goal

pub invariant_of-result : goal.invariant_of-result
invariant_of-result g c = rw c.in_ok-map.ensures.pairs c.self.invariant

pub returns-clause-bins : goal.returns-clause-bins
returns-clause-bins g c = rw (← c.self.view_is, length-map, length-map) c.in_ok-map.ensures.bins

pub returns-clause-elements : goal.returns-clause-elements
returns-clause-elements g c = search rules
