use Rattle.std.proofs.Common.{refl, sym, ◌∙◌}
use Rattle.flurry_steps.specs.Field.{PublishedLoan, TallyLoan}
use Rattle.flurry_shared_locks.proofs.call_field.CallFieldField.at_control.Goals as goal

pub returns-in-Some : goal.returns-in-Some
returns-in-Some g c = record {
  loan = PublishedLoan c.in-Some.start.now;
  lent = record { runtime = refl; locks = refl };
  step = (sym c.is_locating.ensures ∙ c.if-is_locating.true, c.on_published.ensures.within, c.on_published.ensures.silent, c.on_published.ensures.at);
}

pub returns-in-Some-tally : goal.returns-in-Some-tally
returns-in-Some-tally g c = record {
  loan = TallyLoan _ c.deref_mut.result.now c.on_tally.new.tally;
  lent = record { runtime = refl; locks = refl };
  step = c.on_tally.ensures;
}
