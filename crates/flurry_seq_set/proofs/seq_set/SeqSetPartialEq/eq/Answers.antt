use Rattle.std.proofs.Common.{true, refl, ◌∙◌}
use Rattle.flurry_seq_set.proofs.SetLaws.{keys_eq, same_keys}
use Rattle.flurry_seq_set.proofs.seq_set.SeqSetPartialEq.eq.Goals as goal

pub returns-clause-value : goal.returns-clause-value
returns-clause-value g c =
    c.eq.ensures.value ∙ rw (← c.self.view_is, ← c.other.view_is) (keys_eq g.T.Ord.cmp (λ v w. true) (λ v w. refl) c.self.inside.map.pairs c.other.inside.map.pairs)

pub returns-clause-classes : goal.returns-clause-classes
returns-clause-classes g c =
    rw (← c.self.view_is, ← c.other.view_is) (same_keys g.T.Ord.cmp (λ v w. true) (λ v w. refl) c.self.inside.map.pairs c.other.inside.map.pairs c.eq.result c.eq.ensures.keys)
