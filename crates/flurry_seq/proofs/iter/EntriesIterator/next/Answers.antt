use Rattle.std.proofs.Common.{length, arith, ap, sym, ◌∙◌}
use Rattle.flurry_seq.proofs.RemainingLemmas.{left_after, left_behind}
use Rattle.flurry_seq.proofs.iter.EntriesIterator.next.Goals as goal

pub overflow_sub-self : goal.overflow_sub-self
overflow_sub-self g c =
    let at = c.loop-bin.self-inside in
    let first = rw (c.in-Some-next_after.is, c.place_of_last.ensures) at c.next_after.ensures in
    let gave = left_after at.bins.now c.in-Some.bin.now c.in-Some.bins.now c.in-Some.ensures.cases.0 at.last g.met.K.Ord.total c.in-Some-next_after.entry first in
    omega (arith, ap length gave)

pub invariant_of-self : goal.invariant_of-self
invariant_of-self g c =
    let at = c.loop-bin.self-inside in
    let first = rw (c.in-Some-next_after.is, c.place_of_last.ensures) at c.next_after.ensures in
    let gave = left_after at.bins.now c.in-Some.bin.now c.in-Some.bins.now c.in-Some.ensures.cases.0 at.last g.met.K.Ord.total c.in-Some-next_after.entry first in
    omega (arith, ap length gave)

pub returns-in-Some-next_after-clause-steps : goal.returns-in-Some-next_after-clause-steps
returns-in-Some-next_after-clause-steps g c =
    let at = c.loop-bin.self-inside in
    let first = rw (c.in-Some-next_after.is, c.place_of_last.ensures) at c.next_after.ensures in
    let gave = left_after at.bins.now c.in-Some.bin.now c.in-Some.bins.now c.in-Some.ensures.cases.0 at.last g.met.K.Ord.total c.in-Some-next_after.entry first in
    sym c.loop-bin.invariant.same ∙ gave

pub returns-in-Some-next_after-clause-goes : goal.returns-in-Some-next_after-clause-goes
returns-in-Some-next_after-clause-goes g c =
    let at = c.loop-bin.self-inside in
    let first = rw (c.in-Some-next_after.is, c.place_of_last.ensures) at c.next_after.ensures in
    let gave = left_after at.bins.now c.in-Some.bin.now c.in-Some.bins.now c.in-Some.ensures.cases.0 at.last g.met.K.Ord.total c.in-Some-next_after.entry first in
    let fewer = ap length (sym c.loop-bin.invariant.same ∙ gave) in
    record { on = λ finite. (tt, tt, omega arith); keeps = tt; rests = λ _. tt }

pub loop-bin-preserved : goal.loop-bin-preserved
loop-bin-preserved g c =
    let at = c.loop-bin.self-inside in
    let none = rw (c.in_default-next_after.is, c.place_of_last.ensures) at c.next_after.ensures in
    let gave = left_behind at.bins.now c.in-Some.bin.now c.in-Some.bins.now c.in-Some.ensures.cases.0 at.last none in
    record { count = c.loop-bin.invariant.count ∙ ap length gave; same = sym gave ∙ c.loop-bin.invariant.same }
