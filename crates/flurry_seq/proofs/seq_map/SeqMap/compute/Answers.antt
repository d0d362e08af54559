use Rattle.std.proofs.Common.{Some, ap}
use Rattle.flurry_seq.proofs.seq_map.SeqMap.compute.Goals as goal

pub returns-in-None-clause-reply : goal.returns-in-None-clause-reply
returns-in-None-clause-reply g c = rw (← c.in-None.ensures) c.compute_new.ensures.reply

pub returns-clause-reply : goal.returns-clause-reply
returns-clause-reply g c =
    rw (← c.in-Some.ensures) (
      c.f-computed.result,
      (c.deref.result, Some c.deref-in-Some.result, c.deref.ensures, ap Some c.deref-in-Some.ensures, c.f-computed.ensures),
      rw (← c.in-Some.ensures) at c.change_present.ensures.reply,
    )
