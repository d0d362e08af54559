use Rattle.std.proofs.Common.{◌≡◌}
use Rattle.std.specs.List.{list_all}
use Rattle.flurry_seq.specs.Equality.{has_pair}
use Rattle.flurry_seq.proofs.equality.SeqMapPartialEq.eq.Given as goal

abbrev pub invariant-loop-key : goal.invariant-loop-key
invariant-loop-key g l = list_all (has_pair g.K.Ord.cmp g.V.PartialEq.eq l.other.pairs) l.key-iterator ≡ list_all (has_pair g.K.Ord.cmp g.V.PartialEq.eq l.other.pairs) l.self.pairs
