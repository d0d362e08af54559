use Rattle.std.proofs.Common.{◌≡◌, [], ◌∷◌, set, length, ◌∙◌, arith}
use Rattle.std.proofs.lemmas.List.{length-map}
use Rattle.flurry_bins.specs.Bin.{entries_of_bin}
use Rattle.flurry_base.proofs.ListParts.{all_append}
use Rattle.flurry_seq.proofs.NumberLemmas.{all_at, all_filter, all_set}
use Rattle.flurry_seq.specs.MapsOfBins.{plain_bin, maps_of_bins}
use Rattle.flurry_seq.proofs.MapsOfBinsLemmas.{halved_here}
use Rattle.flurry_seq.proofs.TableLaws.{size_power}
use Rattle.flurry_seq.proofs.HalvingLemmas.{halved_all}
use Rattle.flurry_seq.proofs.table.halve.Goals as goal

pub loop-at-preserved : goal.loop-at-preserved
loop-at-preserved g c =
    let len : c.len-count.result ≡ length c.args.bins.now.items = omega (arith, c.len-count.ensures, c.args.bins.now.ok.0) in
    let power = (size_power (length c.args.bins.now.items) c.ilog2-bit.result c.requires.size c.requires.some (rw len at c.ilog2-bit.ensures.power_le) (rw len at c.ilog2-bit.ensures.next_power_gt)).1 in
    record {
      halves =
          rw c.push_reserved.ensures.items
          (halved_here c.loop-at.bins.items c.args.bins.now.items c.loop-at.at c.ilog2-bit.result c.index_mut-bin.result.now c.split-low.result.0 c.split-low.result.1 power (omega (arith, len)) (omega (arith, len, c.loop-at.invariant.count, c.loop-at.bins.ok.0)) c.loop-at.invariant.halves
          c.index_mut-bin.ensures.value (rw c.replace.ensures.value at c.split-low.ensures.low) (rw c.replace.ensures.value at c.split-low.ensures.high));
      numbers = λ all.
          let before = c.loop-at.invariant.numbers all in
          let here = all_at _ c.loop-at.bins.items c.loop-at.at c.index_mut-bin.result.now (omega (arith, len, c.loop-at.invariant.count, c.loop-at.bins.ok.0)) c.index_mut-bin.ensures.value before in
          rw c.push_reserved.ensures.items
          (all_append _ (set c.loop-at.bins.items c.loop-at.at c.split-low.result.0) (c.split-low.result.1 ∷ [])
          (all_set _ c.loop-at.bins.items c.loop-at.at c.split-low.result.0 (rw (c.split-low.ensures.low, c.replace.ensures.value) (all_filter _ _ (entries_of_bin c.index_mut-bin.result.now) here)) before)
          (rw (c.split-low.ensures.high, c.replace.ensures.value) (all_filter _ _ (entries_of_bin c.index_mut-bin.result.now) here), tt));
      count = omega (arith, c.push_reserved.ensures.len, c.loop-at.invariant.count);
      room = omega (arith, c.push_reserved.ensures.capacity, c.loop-at.invariant.room);
      capacity = c.push_reserved.ensures.capacity ∙ c.loop-at.invariant.capacity;
    }

pub returns-clause-bins : goal.returns-clause-bins
returns-clause-bins g c =
    let len : c.len-count.result ≡ length c.args.bins.now.items = omega (arith, c.len-count.ensures, c.args.bins.now.ok.0) in
    let all : c.loop-at.at ≡ length (maps_of_bins c.args.bins.now.items) = rw length-map (omega (arith, len)) in
    c.loop-at.invariant.halves ∙ rw (all, ← length-map c.args.bins.now.items plain_bin) (halved_all (maps_of_bins c.args.bins.now.items))

pub returns-clause-room : goal.returns-clause-room
returns-clause-room g c = c.loop-at.invariant.capacity
