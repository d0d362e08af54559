use Rattle.std.proofs.Common.{sym, ◌∙◌, rules}
use Rattle.flurry_shared_view.proofs.WalkLaws.{goes_on}
use Rattle.flurry_shared_view.proofs.iter.Iter.next_seen.Goals as goal

pub invariant_of-self : goal.invariant_of-self
invariant_of-self g c = λ e.
    goes_on g.K.Ord.cmp (λ s. s) (λ s. s) _ _ c.see_next-answer.result (c.self.invariant c.if-self.false) c.see_next-answer.ensures (sym c.is_last-self-inside.ensures ∙ e)

pub returns : goal.returns
returns g c = search rules
