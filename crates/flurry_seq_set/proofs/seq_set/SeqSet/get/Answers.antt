use Rattle.std.proofs.Common.{option_map, sym, ap, ◌∙◌}
use Rattle.flurry_seq_set.proofs.SetLaws.{element_at-keys}
use Rattle.flurry_seq_set.proofs.seq_set.SeqSet.get.Goals as goal

pub returns-in_err-stored-clause-element : goal.returns-in_err-stored-clause-element
returns-in_err-stored-clause-element g c =
    rw (c.from_residual.ensures, ← c.self.view_is) (ap (option_map (λ p. p.0)) c.in_err-stored.ensures.pair ∙ sym (element_at-keys g.T.Ord.cmp c.self.inside.map.pairs (g.Q.Query.stands_for c.args.element)))

pub returns-clause-element : goal.returns-clause-element
returns-clause-element g c = rw (← c.self.view_is) (ap (option_map (λ p. p.0)) c.in_ok-stored.ensures.pair ∙ sym (element_at-keys g.T.Ord.cmp c.self.inside.map.pairs (g.Q.Query.stands_for c.args.element)))
