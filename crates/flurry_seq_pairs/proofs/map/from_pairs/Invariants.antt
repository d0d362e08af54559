use Rattle.std.proofs.Common.{◌≡◌, ◌++◌, [], length, map}
use Rattle.std.specs.List.Sorted.{IsPermutation}
use Rattle.std.specs.Iterator.Adapters.{enumerate_source, enumerate_count}
use Rattle.std.specs.Vec.Iter.{into_iter_items}
use Rattle.flurry_base.specs.FiniteMap.{IsFiniteMap, with_all}
use Rattle.flurry_seq.specs.Apart.{AreApart}
use Rattle.flurry_seq.specs.Growth.{bins_for, IsTableFrom}
use Rattle.flurry_seq_pairs.proofs.map.from_pairs.Given as goal

abbrev pub invariant-loop-position : goal.invariant-loop-position
invariant-loop-position g l = record {
  ready : ((goal.iterator-loop-position) g).can_next l.position-iterator;
  ends : ((goal.iterator-loop-position) g).is_finite l.position-iterator;
  count : enumerate_count l.position-iterator ≡ length l.yielded;
  split : map (λ e. e.1) l.yielded ++ into_iter_items (enumerate_source l.position-iterator) ≡ l.fn.pairs.0.items;
  pairs : l.map.pairs ≡ with_all g.K.Ord.cmp [] (map (λ e. e.1) l.yielded);
  apart : AreApart g.K.Ord.cmp (map (λ e. e.1) l.yielded);
  permuted : IsPermutation (map (λ e. e.1) l.yielded) l.map.pairs;
  room : IsTableFrom (bins_for (length l.fn.pairs.0.items)) (length l.map.pairs) l.map.bins;
  hasher : l.map.hasher ≡ l.fn.hasher;
  ascend : IsFiniteMap g.K.Ord.cmp l.map.pairs;
}
