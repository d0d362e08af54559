use Rattle.std.proofs.Common.{append-nil, All, ◌≡◌, ◌∷◌, [], ◌++◌, refl, sym, ap, ◌∙◌, subst, append_assoc}
use Rattle.std.specs.Vec.Iter.{into_iter_items}
use Rattle.std.proofs.lemmas.List.{nil_from_length}
use Rattle.flurry_steps_world.specs.Runs.{DoesStep, Runs, StepIsReady}
use Rattle.flurry_steps_world.proofs.RunLaws.{on_err, runs_more, all_head, all_tail}
use Rattle.flurry_steps_world.proofs.world.World.run.Goals as goal

pub loop-step-init : goal.loop-step-init
loop-step-init g c = record {
  ran = refl;
  hasher = refl;
  split = c.into_iter-step-iterator.ensures.into_iter_gives.0;
  ready = subst (All (StepIsReady g.F.ComputeFn.can_change g.F.ComputeFn.never_keeps)) (sym c.into_iter-step-iterator.ensures.into_iter_gives.0) c.requires;
}

pub loop-step-preserved : goal.loop-step-preserved
loop-step-preserved g c = record {
  ran =
      runs_more g.K.Ord.cmp (g.S.KeyHasher.hash_of c.args.self.now.hasher) g.F.ComputeFn.changes c.loop-step.yielded c.args.self.now c.loop-step.self c.do_step.new.self c.in-Some.step c.loop-step.invariant.ran
      (subst (λ h. DoesStep g.K.Ord.cmp (g.S.KeyHasher.hash_of h) g.F.ComputeFn.changes c.in-Some.step c.loop-step.self c.do_step.new.self) c.loop-step.invariant.hasher c.in_ok-do_step.ensures.ok);
  hasher = c.in_ok-do_step.ensures.hasher ∙ c.loop-step.invariant.hasher;
  split =
      append_assoc c.loop-step.yielded (c.in-Some.step ∷ []) (into_iter_items c.next.new.self)
      ∙ ap (λ l. c.loop-step.yielded ++ l) (sym c.in-Some.ensures.steps.0) ∙ c.loop-step.invariant.split;
  ready = all_tail (StepIsReady g.F.ComputeFn.can_change g.F.ComputeFn.never_keeps) c.in-Some.step _ (subst (All (StepIsReady g.F.ComputeFn.can_change g.F.ComputeFn.never_keeps)) c.in-Some.ensures.steps.0 c.loop-step.invariant.ready);
}

pub do_step-requires : goal.do_step-requires
do_step-requires g c = all_head (StepIsReady g.F.ComputeFn.can_change g.F.ComputeFn.never_keeps) c.in-Some.step _ (subst (All (StepIsReady g.F.ComputeFn.can_change g.F.ComputeFn.never_keeps)) c.in-Some.ensures.steps.0 c.loop-step.invariant.ready)

pub returns-in_err-do_step-clause-err : goal.returns-in_err-do_step-clause-err
returns-in_err-do_step-clause-err g c =
    on_err c.from_residual.result _ (
      c.loop-step.yielded,
      into_iter_items c.next.new.self,
      c.in-Some.step,
      sym c.loop-step.invariant.split ∙ ap (λ l. c.loop-step.yielded ++ l) c.in-Some.ensures.steps.0,
      subst (λ v. Runs g.K.Ord.cmp (g.S.KeyHasher.hash_of c.args.self.now.hasher) g.F.ComputeFn.changes c.loop-step.yielded c.args.self.now v) (sym c.in_err-do_step.ensures.err) c.loop-step.invariant.ran,
    )

pub returns-clause-ok : goal.returns-clause-ok
returns-clause-ok g c =
    let none : into_iter_items c.loop-step.step-iterator ≡ [] = nil_from_length _ (sym c.loop-step.step-iterator.rest.ok.0 ∙ c.in-None.ensures.steps.0) in
    let all : c.loop-step.yielded ≡ c.args.steps.items = sym (append-nil c.loop-step.yielded) ∙ ap (λ l. c.loop-step.yielded ++ l) (sym none) ∙ c.loop-step.invariant.split in
    subst (λ l. Runs g.K.Ord.cmp (g.S.KeyHasher.hash_of c.args.self.now.hasher) g.F.ComputeFn.changes l c.args.self.now c.loop-step.self) all c.loop-step.invariant.ran
