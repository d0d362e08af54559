use Rattle.std.specs.Prelude.{◌≡◌, true, false, Some, None, Ok}
use Rattle.std.proofs.Common.{refl}
use Rattle.flurry_bins.specs.PlainEntries.{numbered_pair}
use Rattle.flurry_bins_slots.specs.declared.slot.Answer.TheVariants.{Here}
use Rattle.flurry_steps_sweep.specs.Sweep.{seen_at}
use Rattle.flurry_steps_sweep.proofs.Sweeps.{answered, reads, read_refused, leaves, left_on, left_last}
use Rattle.flurry_steps_sweep.proofs.sweep.at_bin.step_walk.Goals as goal

pub returns-in-Ok-clause-step : goal.returns-in-Ok-clause-step
returns-in-Ok-clause-step g c =
    let next : Here (Some (numbered_pair c.in-Here-Some.entry.now)) ≡ answered g.K.Ord.cmp c.args.cursor.now c.args.last.now c.args.slot.now.content = rw (c.bound.ensures, c.in-Here-Some.field-0-is) at c.in-Here-Some.ensures.reply in
    let both : Ok c.in-Ok.seen ≡ Ok (seen_at (numbered_pair c.in-Here-Some.entry.now)) = c.in-Ok.ensures.seen in
    let seen : c.in-Ok.seen ≡ seen_at (numbered_pair c.in-Here-Some.entry.now) = cc in
    rw (c.in-Ok.ensures.ok, c.replace-before.ensures.after, seen) (reads g.K.Ord.cmp c.args.cursor.now c.args.last.now c.args.slot.now.content _ next)

pub returns-in-Err-clause-step : goal.returns-in-Err-clause-step
returns-in-Err-clause-step g c =
    let next : Here (Some (numbered_pair c.in-Here-Some.entry.now)) ≡ answered g.K.Ord.cmp c.args.cursor.now c.args.last.now c.args.slot.now.content = rw (c.bound.ensures, c.in-Here-Some.field-0-is) at c.in-Here-Some.ensures.reply in
    read_refused g.K.Ord.cmp c.args.cursor.now c.args.last.now c.args.slot.now.content _ next

pub returns-then-leave-clause-step : goal.returns-then-leave-clause-step
returns-then-leave-clause-step g c =
    let none : Here None ≡ answered g.K.Ord.cmp c.args.cursor.now c.args.last.now c.args.slot.now.content = rw (c.bound.ensures, c.in-Here-None.field-0-is) at c.in-Here-None.ensures.reply in
    leaves g.K.Ord.cmp c.args.cursor.now c.args.last.now c.args.slot.now.content _ none (left_on c.leave.new.self c.args.cursor.now true _ c.if-leave.ensures refl)

pub returns-else-leave-clause-step : goal.returns-else-leave-clause-step
returns-else-leave-clause-step g c =
    let none : Here None ≡ answered g.K.Ord.cmp c.args.cursor.now c.args.last.now c.args.slot.now.content = rw (c.bound.ensures, c.in-Here-None.field-0-is) at c.in-Here-None.ensures.reply in
    leaves g.K.Ord.cmp c.args.cursor.now c.args.last.now c.args.slot.now.content _ none (left_last c.leave.new.self c.args.cursor.now false _ c.if-leave.ensures refl)
