use Rattle.std.proofs.Common.{refl, of_calls}
use denote.Param.Always.{always_mut, mut_by, mut_next}
use Rattle.flurry_seq_set.proofs.SetLaws.{retains_keys, IsFiniteMap-retained}
use Rattle.flurry_seq_set.proofs.seq_set.SeqSet.retain.Goals as goal

pub retain-requires : goal.retain-requires
retain-requires g c =
    mut_by _ (λ y. always_mut g.F.FnMut y.0) (λ s a i. search of_calls) (λ s a r t i e. mut_next g.F.FnMut s.0 (a.0, tt) r t.0 t.0 (search (of_calls, e.met)) refl i) _ (search of_calls)

pub invariant_of-self : goal.invariant_of-self
invariant_of-self g c = IsFiniteMap-retained (goal.F-step g) _ (λ f. f.0) (λ f k v answer next e. search (of_calls, e.met)) g.met.T.Ord.total _ c.self.inside.map c.retain.new.self c.retain.ensures.kept

pub returns-clause-kept : goal.returns-clause-kept
returns-clause-kept g c = rw (← c.self.view_is) (retains_keys (goal.F-step g) _ (λ f. f.0) (λ f k v answer next e. search (of_calls, e.met)) g.met.T.Ord.total _ c.self.inside.map c.retain.new.self c.retain.ensures.kept)
