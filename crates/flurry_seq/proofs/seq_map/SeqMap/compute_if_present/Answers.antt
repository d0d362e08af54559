use Rattle.std.proofs.Common.{Some, None, sym, ap, refl}
use Rattle.flurry_seq.proofs.seq_map.SeqMap.compute_if_present.Goals as goal

pub f-computed-requires : goal.f-computed-requires
f-computed-requires g c = c.requires _ (sym c.in-Some.ensures) c.deref.result c.deref-in-Some.result c.deref.ensures c.deref-in-Some.ensures

pub returns-in-Ok-clause-present : goal.returns-in-Ok-clause-present
returns-in-Ok-clause-present g c =
    rw (← c.in-Some.ensures) (
      Some c.in-Some-computed.value,
      (c.deref.result, c.deref-in-Some.result, c.deref.ensures, c.deref-in-Some.ensures, c.in-Some-computed.ensures),
      (ap Some c.in-Ok.ensures.ok.1, rw c.in-Ok.ensures.ok.0 at c.swap_value.ensures.after),
    )

pub returns-in-Some-computed-clause-present : goal.returns-in-Some-computed-clause-present
returns-in-Some-computed-clause-present g c =
    rw (← c.in-Some.ensures)
    (Some c.in-Some-computed.value, (c.deref.result, c.deref-in-Some.result, c.deref.ensures, c.deref-in-Some.ensures, c.in-Some-computed.ensures), refl)

pub returns-clause-present : goal.returns-clause-present
returns-clause-present g c =
    rw (← c.in-Some.ensures)
    (None, (c.deref.result, c.deref-in-Some.result, c.deref.ensures, c.deref-in-Some.ensures, c.in-None-computed.ensures), (refl, c.take.ensures.after))
