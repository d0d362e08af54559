use Rattle.std.proofs.Common.{◌≡◌, length, sym, subst, ◌∙◌, of_calls, arith}
use Rattle.std.proofs.lemmas.List.{length-map}
use Rattle.flurry_seq.specs.Invariant.{IsTableSize}
use Rattle.flurry_seq.specs.MapsOfBins.{maps_of_bins}
use Rattle.flurry_bins.specs.Bin.{entries_of_bin}
use Rattle.flurry_base.proofs.KeepsLaws.{Keeps-all}
use Rattle.flurry_seq.proofs.NumberLemmas.{all_at, all_set}
use Rattle.flurry_seq.proofs.KeepsLemmas.{KeepsBefore-all, keeps_here, seen_length, front_len-all}
use Rattle.flurry_seq.proofs.table.Table.retain.Goals as goal

pub invariant_of-self : goal.invariant_of-self
invariant_of-self g c =
    let long = seen_length (goal.F-step g) c.loop-at.at c.args.keep.now c.self.inside.bins.items c.loop-at.self-inside.bins.items c.loop-at.keep c.loop-at.invariant.kept in
    (subst IsTableSize (sym long) c.self.invariant.0, c.loop-at.invariant.numbers)

pub index_mut-bin-requires : goal.index_mut-bin-requires
index_mut-bin-requires g c =
    let long = seen_length (goal.F-step g) c.loop-at.at c.args.keep.now c.self.inside.bins.items c.loop-at.self-inside.bins.items c.loop-at.keep c.loop-at.invariant.kept in
    omega (arith, long, c.len-at-end.ensures, c.self.inside.bins.ok.0, c.loop-at.self-inside.bins.ok.0)

pub overflow_add-len : goal.overflow_add-len
overflow_add-len g c =
    let more = keeps_here (goal.F-step g) c.loop-at.at c.args.keep.now c.self.inside.bins.items c.loop-at.self-inside.bins.items c.loop-at.keep c.index_mut-bin.result.now c.retain.new.self c.retain.new.keep c.loop-at.invariant.kept
    (omega (arith, c.len-at-end.ensures, c.self.inside.bins.ok.0)) c.index_mut-bin.ensures.value c.retain.ensures.kept in
    let few = rw (← c.self.view_is) at c.requires.few in
    omega (arith, more.len, more.few, few, c.loop-at.invariant.len, c.len-len.ensures)

pub loop-at-preserved : goal.loop-at-preserved
loop-at-preserved g c =
    let more = keeps_here (goal.F-step g) c.loop-at.at c.args.keep.now c.self.inside.bins.items c.loop-at.self-inside.bins.items c.loop-at.keep c.index_mut-bin.result.now c.retain.new.self c.retain.new.keep c.loop-at.invariant.kept
    (omega (arith, c.len-at-end.ensures, c.self.inside.bins.ok.0)) c.index_mut-bin.ensures.value c.retain.ensures.kept in
    let xs = c.loop-at.self-inside.bins.items in
    let b = c.index_mut-bin.result.now in
    let long = seen_length (goal.F-step g) c.loop-at.at c.args.keep.now c.self.inside.bins.items xs c.loop-at.keep c.loop-at.invariant.kept in
    let zero = all_at _ xs c.loop-at.at b (omega (arith, long, c.len-at-end.ensures, c.self.inside.bins.ok.0)) c.index_mut-bin.ensures.value c.loop-at.invariant.numbers in
    let numbers = all_set _ xs c.loop-at.at c.retain.new.self (Keeps-all _ _ c.loop-at.keep (entries_of_bin b) (entries_of_bin c.retain.new.self) c.retain.new.keep c.retain.ensures.kept zero) c.loop-at.invariant.numbers in
    record { callable = search of_calls; kept = more.kept; numbers = numbers; len = omega (arith, more.len, c.loop-at.invariant.len, c.len-len.ensures) }

pub returns-clause-kept : goal.returns-clause-kept
returns-clause-kept g c =
    let xs = c.self.inside.bins.items in
    let end : c.loop-at.at ≡ length (maps_of_bins xs) = rw length-map (omega (arith, c.len-at-end.ensures, c.self.inside.bins.ok.0)) in
    rw (← c.self.view_is) (KeepsBefore-all (goal.F-step g) c.loop-at.at c.args.keep.now (maps_of_bins xs) (maps_of_bins c.loop-at.self-inside.bins.items) c.loop-at.keep c.loop-at.invariant.kept end)

pub returns-clause-len : goal.returns-clause-len
returns-clause-len g c =
    let ys = c.loop-at.self-inside.bins.items in
    let long = seen_length (goal.F-step g) c.loop-at.at c.args.keep.now c.self.inside.bins.items ys c.loop-at.keep c.loop-at.invariant.kept in
    let end : c.loop-at.at ≡ length (maps_of_bins ys) = rw length-map (omega (arith, long, c.len-at-end.ensures, c.self.inside.bins.ok.0)) in
    c.loop-at.invariant.len ∙ front_len-all c.loop-at.at (maps_of_bins ys) end
