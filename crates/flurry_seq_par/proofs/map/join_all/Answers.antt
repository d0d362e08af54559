use Rattle.std.proofs.Common.{rules, ◌≡◌, ◌+◌, [], ◌∷◌, ◌++◌, length, flat_map, inl, ap, sym, ◌∙◌, append_assoc, subst, arith}
use Rattle.std.specs.Vec.Iter.{into_iter_items}
use Rattle.std.proofs.lemmas.List.Sorted.{length_permutation}
use Rattle.flurry_base.specs.FiniteMap.{IsFiniteMap, with_all}
use Rattle.flurry_seq.specs.Growth.{bins_for}
use Rattle.flurry_seq.specs.MapsOfBins.{maps_of_bins}
use Rattle.flurry_seq.proofs.IterLaws.{all_apart}
use Rattle.flurry_seq.proofs.RoomLaws.{room_for}
use Rattle.flurry_seq_par.specs.Joins.{pairs_of_bins}
use Rattle.flurry_seq_par.proofs.Joining.{IsFiniteMap-with_all, map_apart, with_all-permuted, with_maps-push}
use Rattle.flurry_seq_par.proofs.Rooms.{length-around, length-pushed, room_fewer}
use Rattle.flurry_seq_par.proofs.map.join_all.Goals as goal

pub loop-map-init : goal.loop-map-init
loop-map-init g c =
    let made = c.in_ok-all.ensures.empty in
    let none : length c.in_ok-all.all.pairs ≡ 0 = ap (λ m. length m.pairs) made in
    record {
      pairs = ap (λ m. m.pairs) made;
      ascend = c.in_ok-all.ensures.ascend;
      few = omega (arith, none);
      room = λ le. inl (ap (λ m. m.bins) made);
      hasher = ap (λ m. m.hasher) made;
      split = search rules;
    }

pub loop-map-preserved : goal.loop-map-preserved
loop-map-preserved g c =
    let cmp = g.K.Ord.cmp in
    let total = g.met.K.Ord.total in
    let map = c.in-Some.map in
    let before = c.loop-map.yielded in
    let after = into_iter_items c.next.new.self in
    let old = c.loop-map.all.pairs in
    let out = c.into_bins-bins.ensures.bins in
    let bins = c.into_bins-bins.result.0.items in
    let here = pairs_of_bins bins in
    let apart = all_apart total (g.S.KeyHasher.hash_of map.hasher) (g.met.S.KeyHasher.alike map.hasher) (length (maps_of_bins bins)) 0 (maps_of_bins bins) out.placed in
    let same = with_all-permuted total old map.pairs here c.loop-map.invariant.ascend (map_apart total map.pairs c.into_bins-bins.ensures.ascend) apart out.pairs in
    let put = c.in_ok-join_bins.ensures.ok in
    let split = append_assoc before (map ∷ []) after ∙ ap (λ l. before ++ l) (sym c.in-Some.ensures.steps.0) ∙ c.loop-map.invariant.split in
    let whole = ap (λ l. before ++ l) (sym c.in-Some.ensures.steps.0) ∙ c.loop-map.invariant.split in
    let long = ap (λ l. length (flat_map (λ n. n.pairs) l)) (sym whole) ∙ length-around (λ n. n.pairs) before map after in
    let pushed = length-pushed (λ n. n.pairs) before map in
    let as_many = length_permutation map.pairs here out.pairs in
    let fewer = c.loop-map.invariant.few in
    let came = c.in_ok-join_bins.ensures.few in
    record {
      pairs = put ∙ sym same ∙ ap (λ l. with_all cmp l map.pairs) c.loop-map.invariant.pairs ∙ sym (with_maps-push cmp (λ n. n.pairs) [] before map);
      ascend = subst (IsFiniteMap cmp) (sym put) (IsFiniteMap-with_all total old here c.loop-map.invariant.ascend);
      few = omega (arith, fewer, came, as_many, pushed);
      room = λ le.
          c.in_ok-join_bins.ensures.room (bins_for c.args.count)
          (room_fewer (bins_for c.args.count) c.args.count (length old + length here) (omega (arith, fewer, as_many, long, le)) (room_for c.args.count))
          (c.loop-map.invariant.room le);
      hasher = c.in_ok-join_bins.ensures.hasher ∙ c.loop-map.invariant.hasher;
      split = split;
    }
