use Rattle.std.proofs.Common.{rules, refl}
use Rattle.flurry_steps.specs.Field.{BinLoan}
use Rattle.flurry_shared_locks.proofs.call_field.CallFieldField.at_bin.Goals as goal

pub returns : goal.returns
returns g c = record {
  loan = BinLoan c.deref_mut.result.now c.on_bin.new.slot;
  lent = record { runtime = refl; locks = refl };
  step = (search (rules, c.requires, c.ne.ensures, c.if-ne.false, c.at.ensures.at), c.on_bin.ensures.within, c.on_bin.ensures.step);
}
