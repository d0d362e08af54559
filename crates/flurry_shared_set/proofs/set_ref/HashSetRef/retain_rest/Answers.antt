use denote.Param.Always.{mut_next}
use Rattle.std.proofs.Common.{rules, Ok, ◌∙◌, ap, inl, inr, subst, sym}
use Rattle.std.specs.Option.{option_map}
use Rattle.std.specs.Arc.{arc_value}
use Rattle.flurry_shared_view.specs.Visits.{RemovesSeen}
use Rattle.flurry_shared_view.proofs.VisitLaws.{has_visited_none, has_visited_more, has_visited_all}
use Rattle.flurry_shared_set.proofs.ElementLaws.{says_of_element}
use Rattle.flurry_shared_set.proofs.set_ref.HashSetRef.retain_rest.Goals as goal

pub loop-init : goal.loop-init
loop-init g c = (search rules, has_visited_none g.T.Ord.cmp _ _ _ c.requires.begun)

pub returns-in_default : goal.returns-in_default
returns-in_default g c = has_visited_all g.T.Ord.cmp _ (λ s. s) (λ s. s) _ _ c.next_seen.result c.next_seen.ensures (c.in_ok-seen.was ∙ ap Ok c.in_default.is) _ _ c.loop.invariant.1

pub loop-preserved-then-not-keep : goal.loop-preserved-then-not-keep
loop-preserved-then-not-keep g c = (
  search (mut_next, c.loop.invariant.0, rules),
  has_visited_more g.T.Ord.cmp _ (λ s. s) (λ s. s) _ _ c.next_seen.result c.next_seen.ensures _ (c.in_ok-seen.was ∙ ap Ok c.in-Some-2.is) _ _ _ c.loop.invariant.1
      (λ y same. inr (
        says_of_element c.key.ensures y (ap (λ s. s.key) same) (goal.F-step g) _ _ _ _ c.if-not-keep.true c.keep.ensures,
        subst (λ m. RemovesSeen g.T.Ord.cmp g.S.KeyHasher.hash_of m y) c.self.view_is
            (subst (RemovesSeen g.T.Ord.cmp g.S.KeyHasher.hash_of c.self.inside.map) (sym same) (option_map arc_value c.remove_seen.result, c.remove_seen.ensures)),
      )),
)

pub loop-preserved-then-not-keep-2 : goal.loop-preserved-then-not-keep-2
loop-preserved-then-not-keep-2 g c = (
  search (mut_next, c.loop.invariant.0, rules),
  has_visited_more g.T.Ord.cmp _ (λ s. s) (λ s. s) _ _ c.next_seen.result c.next_seen.ensures _ (c.in_ok-seen.was ∙ ap Ok c.in-Some-2.is) _ _ _ c.loop.invariant.1
      (λ y same. inr (
        says_of_element c.key.ensures y (ap (λ s. s.key) same) (goal.F-step g) _ _ _ _ c.if-not-keep.true c.keep.ensures,
        subst (λ m. RemovesSeen g.T.Ord.cmp g.S.KeyHasher.hash_of m y) c.self.view_is
            (subst (RemovesSeen g.T.Ord.cmp g.S.KeyHasher.hash_of c.self.inside.map) (sym same) (option_map arc_value c.remove_seen.result, c.remove_seen.ensures)),
      )),
)

pub loop-preserved : goal.loop-preserved
loop-preserved g c = (
  search (mut_next, c.loop.invariant.0, rules),
  has_visited_more g.T.Ord.cmp _ (λ s. s) (λ s. s) _ _ c.next_seen.result c.next_seen.ensures _ (c.in_ok-seen.was ∙ ap Ok c.in-Some-2.is) _ _ _ c.loop.invariant.1
      (λ y same. inl (says_of_element c.key.ensures y (ap (λ s. s.key) same) (goal.F-step g) _ _ _ _ c.if-not-keep.false c.keep.ensures)),
)
