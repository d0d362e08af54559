use Rattle.std.proofs.Common.{rules}
use Rattle.flurry_base.proofs.FiniteMapLaws.{IsFiniteMap-nil}
use Rattle.flurry_seq.proofs.seq_map.SeqMap.with_hasher.Goals as goal

pub invariant_of-result : goal.invariant_of-result
invariant_of-result g c = search rules

pub returns-clause-ascend : goal.returns-clause-ascend
returns-clause-ascend g c = rw c.new.ensures (IsFiniteMap-nil g.row.V.Denot g.K.Ord.cmp)
