use Rattle.std.proofs.Common.{◌≡◌, is_some}
use Rattle.std.specs.List.{list_all}
use Rattle.flurry_base.specs.FiniteSet.{element_at}
use Rattle.flurry_seq_set.proofs.seq_set.SeqSet.is_subset.Given as goal

abbrev pub invariant-loop-element : goal.invariant-loop-element
invariant-loop-element g l = list_all (λ y. is_some (element_at g.T.Ord.cmp l.other.elements y)) l.element-iterator ≡ list_all (λ y. is_some (element_at g.T.Ord.cmp l.other.elements y)) l.self.elements
