use Rattle.std.proofs.Common.{sym, ◌∙◌}
use Rattle.flurry_seq_set.proofs.SetLaws.{has_element-keys}
use Rattle.flurry_seq_set.proofs.seq_set.SeqSet.contains.Goals as goal

pub returns-clause-found : goal.returns-clause-found
returns-clause-found g c = c.contains_key.ensures.found ∙ rw (← c.self.view_is) (sym (has_element-keys g.T.Ord.cmp c.self.inside.map.pairs (g.Q.Query.stands_for c.args.element)))
