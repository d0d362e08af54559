use Rattle.std.proofs.Common.{rules, refl}
use Rattle.flurry_steps.specs.Field.{LookLoan}
use Rattle.flurry_shared_locks.proofs.call_field.CallFieldField.at_look.Goals as goal

pub returns : goal.returns
returns g c = record {
  loan = LookLoan c.deref-2.result.now;
  lent = record { runtime = refl; locks = refl };
  step = (search (rules, c.requires, c.ne.ensures, c.if-ne.false, c.at.ensures.at), c.on_look.ensures.within, c.on_look.ensures.step);
}
