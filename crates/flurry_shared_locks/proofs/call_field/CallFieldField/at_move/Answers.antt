use Rattle.std.proofs.Common.{rules, refl}
use Rattle.flurry_steps.specs.Field.{MoveLoan}
use Rattle.flurry_shared_locks.proofs.call_field.CallFieldField.at_move.Goals as goal

pub returns : goal.returns
returns g c = record {
  loan = MoveLoan c.deref_mut.result.now c.deref_mut-2.result.now c.deref_mut-3.result.now c.on_move.new.old c.on_move.new.low c.on_move.new.high;
  lent = record { runtime = refl; locks = refl };
  step = (search (rules, c.requires, c.ne.ensures, c.if-ne.false, c.at.ensures.at), c.on_move.ensures.within, c.on_move.ensures.step);
}

pub on_move-requires : goal.on_move-requires
on_move-requires g c = search rules
