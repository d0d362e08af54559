use Rattle.std.proofs.Common.{Some, ap}
use Rattle.std.proofs.lemmas.Result.{MatchResult-from_err}
use Rattle.flurry_seq.proofs.seq_map.SeqMap.update.Goals as goal

pub returns-in_err-renew-clause-present : goal.returns-in_err-renew-clause-present
returns-in_err-renew-clause-present g c =
    rw (← c.in-Some.ensures) (
      c.f-value.result,
      (c.deref.result, c.deref-in-Some.result, c.deref.ensures, c.deref-in-Some.ensures, c.f-value.ensures),
      MatchResult-from_err c.from_residual.result _ _ c.from_residual.ensures.0 (λ _. c.in_err-renew.ensures.err),
    )

pub returns-clause-present : goal.returns-clause-present
returns-clause-present g c =
    rw (← c.in-Some.ensures) (
      c.f-value.result,
      (c.deref.result, c.deref-in-Some.result, c.deref.ensures, c.deref-in-Some.ensures, c.f-value.ensures),
      (ap Some c.in_ok-renew.ensures.value, c.in_ok-renew.ensures.after),
    )
