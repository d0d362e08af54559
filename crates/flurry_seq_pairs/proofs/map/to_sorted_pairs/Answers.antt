use Rattle.std.proofs.Common.{rules}
use Rattle.std.proofs.lemmas.Fn.{always_returns_same}
use Rattle.std.proofs.lemmas.List.Sorted.{ranks_by}
use Rattle.flurry_seq_pairs.proofs.CloneLaws.{equal_pairs, permuted_clones}
use Rattle.flurry_seq_pairs.proofs.SortedLaws.{same_pairs}
use Rattle.flurry_seq_pairs.proofs.map.to_sorted_pairs.Goals as goal

pub returns-clause-clones : goal.returns-clause-clones
returns-clause-clones g c = (c.iter.result, c.in_ok-pairs.pairs.items, c.iter.ensures.pairs, c.in_ok-pairs.ensures, c.sort_unstable_by.ensures.permutation)

pub returns-clause-sorted : goal.returns-clause-sorted
returns-clause-sorted g c = c.sort_unstable_by.ensures.sorted _ (ranks_by g.met.K.Ord.total (λ p. p.0)) (always_returns_same _ _ _ (λ a r f' k. search rules))

pub returns-clause-pairs : goal.returns-clause-pairs
returns-clause-pairs g c = λ keys values.
    same_pairs g.met.K.Ord.total c.args.map.now.pairs c.sort_unstable_by.new.self.items c.iter.ensures.ascend
    (permuted_clones c.args.map.now.pairs c.sort_unstable_by.new.self.items (equal_pairs keys values) (returns-clause-clones g c))
    (returns-clause-sorted g c)
