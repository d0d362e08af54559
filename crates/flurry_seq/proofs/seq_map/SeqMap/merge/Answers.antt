use Rattle.std.proofs.Common.{Some, refl}
use Rattle.std.proofs.lemmas.Result.{MatchResult-from_err}
use Rattle.flurry_seq.proofs.seq_map.SeqMap.merge.Goals as goal

pub returns-in_err-add_pair-in-None-clause-reply : goal.returns-in_err-add_pair-in-None-clause-reply
returns-in_err-add_pair-in-None-clause-reply g c =
    rw (← c.in-None.ensures) (
      Some c.args.value,
      refl,
      MatchResult-from_err c.from_residual.result _ _ c.from_residual.ensures.0 (λ _. (refl, c.in_err-add_pair-in-None.ensures.err)),
    )

pub returns-in-None-clause-reply : goal.returns-in-None-clause-reply
returns-in-None-clause-reply g c =
    let new = c.in_ok-add_pair-in-None in
    rw (← c.in-None.ensures) (Some c.args.value, refl, ((new.field-0, refl, new.ensures.value), new.ensures.pairs))

pub returns-clause-reply : goal.returns-clause-reply
returns-clause-reply g c =
    rw (← c.in-Some.ensures) (
      c.f-merged.result,
      (c.deref.result, c.deref.ensures, c.f-merged.ensures),
      rw (← c.in-Some.ensures) at c.change_present.ensures.reply,
    )
