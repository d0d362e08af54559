use Rattle.flurry_base.proofs.FiniteMapLaws.{IsFiniteMap-nil}
use Rattle.flurry_seq_set.proofs.seq_set.SeqSet.clear.Goals as goal

pub invariant_of-self : goal.invariant_of-self
invariant_of-self g c = rw c.clear.ensures.after (IsFiniteMap-nil (Unit {0}) g.T.Ord.cmp)
