use Rattle.flurry_seq_pairs.proofs.CloneLaws.{permuted_clones}
use Rattle.flurry_seq_pairs.proofs.SortedLaws.{same_as_permuted}
use Rattle.flurry_seq_pairs.proofs.set.to_sorted_items.Goals as goal

pub returns-clause-clones : goal.returns-clause-clones
returns-clause-clones g c = (c.iter.result, c.in_ok-items.items.items, c.iter.ensures.elements, c.in_ok-items.ensures, c.sort_unstable.ensures.permutation)

pub returns-clause-elements : goal.returns-clause-elements
returns-clause-elements g c = λ same.
    same_as_permuted g.met.T.Ord.total c.args.set.now.elements c.sort_unstable.new.self.items c.iter.ensures.ascend
    (permuted_clones c.args.set.now.elements c.sort_unstable.new.self.items same (returns-clause-clones g c))
    c.sort_unstable.ensures.sorted
