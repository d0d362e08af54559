use Rattle.std.proofs.Common.{refl}
use Rattle.flurry_seq.proofs.seq_map.SeqMap.call_to_share.Goals as goal

pub returns-in_ok-try_clone-in-TryClone-clause-ok : goal.returns-in_ok-try_clone-in-TryClone-clause-ok
returns-in_ok-try_clone-in-TryClone-clause-ok g c =
    let copy = c.in_ok-try_clone-in-TryClone in
    rw c.in-TryClone.is (copy.field-0, refl, (copy.ensures.pairs, copy.ensures.hasher), refl)
