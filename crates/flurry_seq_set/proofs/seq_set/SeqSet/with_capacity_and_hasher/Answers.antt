use Rattle.std.proofs.Common.{rules}
use Rattle.flurry_base.proofs.FiniteMapLaws.{IsFiniteMap-nil}
use Rattle.flurry_seq_set.proofs.seq_set.SeqSet.with_capacity_and_hasher.Goals as goal

pub invariant_of-result : goal.invariant_of-result
invariant_of-result g c = rw c.in_ok-map.ensures.empty (IsFiniteMap-nil (Unit {0}) g.T.Ord.cmp)

pub returns-clause-empty : goal.returns-clause-empty
returns-clause-empty g c = search rules
