use Rattle.std.proofs.Common.{refl}
use Rattle.flurry_seq_set.proofs.seq_set.SeqSet.call_to_share.Goals as goal

pub returns-in_ok-try_clone-in-TryClone-clause-ok : goal.returns-in_ok-try_clone-in-TryClone-clause-ok
returns-in_ok-try_clone-in-TryClone-clause-ok g c =
    let copy = c.in_ok-try_clone-in-TryClone in
    rw c.in-TryClone.is (copy.field-0, refl, (copy.ensures.elements, copy.ensures.hasher), refl)
