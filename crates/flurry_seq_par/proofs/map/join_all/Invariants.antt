use Rattle.std.proofs.Common.{◌≡◌, ◌≤◌, ◌++◌, [], length, map, flat_map}
use Rattle.std.specs.Vec.Iter.{into_iter_items}
use Rattle.flurry_base.specs.FiniteMap.{IsFiniteMap}
use Rattle.flurry_seq.specs.Growth.{bins_for, IsTableFrom}
use Rattle.flurry_seq_par.specs.Joins.{with_maps}
use Rattle.flurry_seq_par.proofs.map.join_all.Given as goal

abbrev pub invariant-loop-map : goal.invariant-loop-map
invariant-loop-map g l = record {
  pairs : l.all.pairs ≡ with_maps g.K.Ord.cmp [] (map (λ n. n.pairs) l.yielded);
  ascend : IsFiniteMap g.K.Ord.cmp l.all.pairs;
  few : length l.all.pairs ≤ length (flat_map (λ n. n.pairs) l.yielded);
  room : length (flat_map (λ n. n.pairs) l.fn.maps.items) ≤ l.fn.count → IsTableFrom (bins_for l.fn.count) (length l.all.pairs) l.all.bins;
  hasher : l.all.hasher ≡ l.fn.hasher;
  split : l.yielded ++ into_iter_items l.map-iterator ≡ l.fn.maps.items;
}
