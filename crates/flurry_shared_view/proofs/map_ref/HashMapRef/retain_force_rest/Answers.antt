use denote.Param.Always.{mut_next}
use Rattle.std.proofs.Common.{rules, Ok, ◌∙◌, ap, inl, inr}
use Rattle.std.specs.Option.{option_map}
use Rattle.std.specs.Arc.{arc_value}
use Rattle.flurry_base.specs.declared.call.Call.TheVariants.{Remove}
use Rattle.flurry_shared_view.specs.SharedAnswers.{IsAnswerOf, value_answer}
use Rattle.flurry_shared_view.proofs.VisitLaws.{has_visited_none, has_visited_more, has_visited_all, says_of_pair, at_key_read}
use Rattle.flurry_shared_view.proofs.map_ref.HashMapRef.retain_force_rest.Goals as goal
use Rattle.flurry_shared_view.proofs.map_ref.HashMapRef.retain_force_rest.Goals.{then-not-keep+in-Some-1, then-not-keep+in-None-1, else-not-keep}

pub loop-init : goal.loop-init
loop-init g c = (search rules, has_visited_none g.K.Ord.cmp _ _ _ c.requires.begun)

pub returns-in_default : goal.returns-in_default
returns-in_default g c = has_visited_all g.K.Ord.cmp _ _ _ _ _ c.next-in-loop.result c.next-in-loop.ensures (c.in_ok-key.was ∙ ap Ok c.in_default.is) _ _ c.loop.invariant.1

pub loop-preserved : goal.loop-preserved
loop-preserved g c = (
  search (mut_next, c.loop.invariant.0, rules),
  has_visited_more g.K.Ord.cmp _ _ _ _ _ c.next-in-loop.result c.next-in-loop.ensures _ (c.in_ok-key.was ∙ ap Ok c.in-Some-2.is) _ _ _ c.loop.invariant.1
      (λ y same. elim c.if-not-keep.branch [
        | then-not-keep+in-Some-1 w ↦ inr (
          says_of_pair c.deref.ensures c.deref-in-loop.ensures y same (goal.F-step g) _ _ _ _ w.if-not-keep.true c.keep.ensures,
          (option_map arc_value w.remove.result, at_key_read _ _ w.as_ref.ensures y same (λ k. IsAnswerOf g.K.Ord.cmp g.S.KeyHasher.hash_of c.args.self.now (Remove k) (value_answer w.remove.result)) w.remove.ensures),
        )
        | then-not-keep+in-None-1 w ↦ inr (
          says_of_pair c.deref.ensures c.deref-in-loop.ensures y same (goal.F-step g) _ _ _ _ w.if-not-keep.true c.keep.ensures,
          (option_map arc_value w.remove.result, at_key_read _ _ w.as_ref.ensures y same (λ k. IsAnswerOf g.K.Ord.cmp g.S.KeyHasher.hash_of c.args.self.now (Remove k) (value_answer w.remove.result)) w.remove.ensures),
        )
        | else-not-keep w ↦ inl (says_of_pair c.deref.ensures c.deref-in-loop.ensures y same (goal.F-step g) _ _ _ _ w.if-not-keep.false c.keep.ensures)
      ]),
)
