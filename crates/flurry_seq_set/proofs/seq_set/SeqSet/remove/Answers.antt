use Rattle.std.proofs.Common.{sym, ap, ◌∙◌, is_some}
use Rattle.std.specs.Arc.{arc_value}
use Rattle.flurry_base.proofs.FiniteMapLaws.{IsFiniteMap-without}
use Rattle.flurry_seq_set.specs.SetContents.{set_contents}
use Rattle.flurry_seq_set.proofs.SetLaws.{some_mapped, has_value-keys, without_element-keys}
use Rattle.flurry_seq_set.proofs.seq_set.SeqSet.remove.Goals as goal

pub invariant_of-self : goal.invariant_of-self
invariant_of-self g c = rw c.remove.ensures.after (IsFiniteMap-without g.met.T.Ord.total c.self.inside.map.pairs (g.Q.Query.stands_for c.args.element) c.self.invariant)

pub returns-clause-after : goal.returns-clause-after
returns-clause-after g c =
    rw (c.remove.ensures.after, ← c.self.view_is)
    (ap (λ xs. set_contents xs c.self.inside.map.bins c.self.inside.map.hasher) (sym (without_element-keys g.met.T.Ord.total c.self.inside.map.pairs (g.Q.Query.stands_for c.args.element) c.self.invariant)))

pub returns-clause-found : goal.returns-clause-found
returns-clause-found g c =
    c.is_some.ensures ∙ sym (some_mapped arc_value c.remove.result) ∙ ap is_some c.remove.ensures.value ∙ rw (← c.self.view_is) (has_value-keys g.T.Ord.cmp c.self.inside.map.pairs (g.Q.Query.stands_for c.args.element))
