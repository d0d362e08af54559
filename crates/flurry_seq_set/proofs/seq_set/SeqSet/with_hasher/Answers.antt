use Rattle.flurry_seq_set.proofs.seq_set.SeqSet.with_hasher.Goals as goal

pub invariant_of-result : goal.invariant_of-result
invariant_of-result g c = c.with_hasher.ensures.ascend

pub returns-clause-ascend : goal.returns-clause-ascend
returns-clause-ascend g c = c.with_hasher.ensures.ascend
