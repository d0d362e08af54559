use Rattle.std.proofs.Common.{option_map, sym, ap, ◌∙◌}
use Rattle.flurry_base.proofs.FiniteMapLaws.{IsFiniteMap-without}
use Rattle.flurry_seq_set.specs.SetContents.{set_contents}
use Rattle.flurry_seq_set.proofs.SetLaws.{element_at-keys, without_element-keys}
use Rattle.flurry_seq_set.proofs.seq_set.SeqSet.take.Goals as goal

pub invariant_of-self : goal.invariant_of-self
invariant_of-self g c = rw c.remove_entry.ensures.after (IsFiniteMap-without g.met.T.Ord.total c.self.inside.map.pairs (g.Q.Query.stands_for c.args.element) c.self.invariant)

pub returns-in_err-stored-clause-element : goal.returns-in_err-stored-clause-element
returns-in_err-stored-clause-element g c =
    rw (c.from_residual.ensures, ← c.self.view_is) (ap (option_map (λ p. p.0)) c.in_err-stored.ensures.pair ∙ sym (element_at-keys g.T.Ord.cmp c.self.inside.map.pairs (g.Q.Query.stands_for c.args.element)))

pub returns-in_err-stored-clause-after : goal.returns-in_err-stored-clause-after
returns-in_err-stored-clause-after g c =
    rw (c.remove_entry.ensures.after, ← c.self.view_is)
    (ap (λ xs. set_contents xs c.self.inside.map.bins c.self.inside.map.hasher) (sym (without_element-keys g.met.T.Ord.total c.self.inside.map.pairs (g.Q.Query.stands_for c.args.element) c.self.invariant)))

pub invariant_of-self-2 : goal.invariant_of-self-2
invariant_of-self-2 g c = rw c.remove_entry.ensures.after (IsFiniteMap-without g.met.T.Ord.total c.self.inside.map.pairs (g.Q.Query.stands_for c.args.element) c.self.invariant)

pub returns-clause-element : goal.returns-clause-element
returns-clause-element g c = rw (← c.self.view_is) (ap (option_map (λ p. p.0)) c.in_ok-stored.ensures.pair ∙ sym (element_at-keys g.T.Ord.cmp c.self.inside.map.pairs (g.Q.Query.stands_for c.args.element)))

pub returns-clause-after : goal.returns-clause-after
returns-clause-after g c =
    rw (c.remove_entry.ensures.after, ← c.self.view_is)
    (ap (λ xs. set_contents xs c.self.inside.map.bins c.self.inside.map.hasher) (sym (without_element-keys g.met.T.Ord.total c.self.inside.map.pairs (g.Q.Query.stands_for c.args.element) c.self.invariant)))
