-- Steps of a world, and what is written for their labels.
use Rattle.std.proofs.Common.{◌≡◌, ℕ, suc, ◌+◌, ◌-◌, ◌<◌, List, [], ◌∷◌, ◌++◌, replicate, Option, None, Some, Result, IfOk, MatchOption, refl, sym, ap, ◌∙◌, subst, append_assoc, append-nil, arith}
use Rattle.std.specs.Prelude.{slice_get}
use Rattle.std.specs.Ordering.{nat_cmp}
use Rattle.std.specs.Io.KnownBytes.{Appends}
use Rattle.std.proofs.KnownBytes.{Appends-trans}
use Rattle.std.proofs.lemmas.Grind.{replicate_next}
use Rattle.std.proofs.lemmas.Result.{IfOk-weaker}
use Rattle.std.proofs.lemmas.List.{replicate-append-replicate}
use Rattle.flurry_steps_theory.specs.declared.Label.{Label}
use Rattle.flurry_steps_theory.specs.declared.Label.TheVariants as label
use Rattle.flurry_steps_world.specs.World.{PartyRecord, WorldState}
use Rattle.flurry_steps_world.specs.Steps.{RecordStep, WorldStep, WorldLoses, with_label, with_loss}
use Rattle.flurry_steps_world.specs.Runs.{DoesStep, Runs}
use Rattle.flurry_steps_world.specs.declared.world.Step as world
use Rattle.flurry_steps_world.specs.declared.world.Step.TheVariants as step
use Rattle.flurry_run_lines.specs.Endings.{out_of_memory_text}
use Rattle.flurry_run_lines.specs.Labels.{label_text}
use Rattle.flurry_run_lines.specs.Runs.{IsAnswered}
use Rattle.flurry_run_lines.specs.ScheduleRuns.{labels_text, drop_text, Tells, AnswersDrop, AnswersSteps, of_a_world}
use Rattle.flurry_run_lines.specs.declared.schedule.Line.TheVariants as line
use Rattle.flurry_base.specs.declared.verdict.Verdict.{Verdict}

labels_text-append : {F : Type 0} (a b : List (Label ℕ ℕ F)) → labels_text (a ++ b) ≡ labels_text a ++ labels_text b
labels_text-append [] b = refl
labels_text-append (l ∷ a) b = ap (λ t. label_text l ++ 10 ∷ t) (labels_text-append a b) ∙ sym (append_assoc (label_text l) (10 ∷ labels_text a) (labels_text b))

module _ {F S : Type 0} where
  -- ---- labels

  pub tells_none : (w : WorldState ℕ ℕ F S) → Tells w w []
  tells_none w = ([], sym (append-nil w.trace), refl)

  pub tells_one : (w v : WorldState ℕ ℕ F S) (l : Label ℕ ℕ F) → v.trace ≡ w.trace ++ l ∷ [] → Tells w v (label_text l ++ 10 ∷ [])
  tells_one w v l h = (l ∷ [], h, refl)

  pub tells_more : (w v u : WorldState ℕ ℕ F S) (first rest : List ℕ) → Tells w v first → Tells v u rest → Tells w u (first ++ rest)
  tells_more w v u first rest a b =
      (a.0 ++ b.0, b.1 ∙ ap (λ t. t ++ b.0) a.1 ∙ append_assoc w.trace a.0 b.0, rw (a.2, b.2) (sym (labels_text-append a.0 b.0)))

  module _ (changes : F → ℕ → Option ℕ → Verdict ℕ → Type 0) where
    -- ---- steps

    -- the label of a step
    pub label_of_step : (w v : WorldState ℕ ℕ F S) (p : ℕ) → WorldStep nat_cmp changes w p v → (l : Label ℕ ℕ F) × (v.trace ≡ w.trace ++ l ∷ [])
    label_of_step w v p h = by_caller (slice_get w.party_records p) h
      where
        by_caller : (x : Option (PartyRecord ℕ ℕ F)) → MatchOption x (v ≡ with_label w (label.Silent p)) (λ x. RecordStep nat_cmp changes w p x v) → (l : Label ℕ ℕ F) × (v.trace ≡ w.trace ++ l ∷ [])
        by_caller None h = (label.Silent p, ap (λ u. u.trace) h)
        by_caller (Some x) h = (h.step_label, ap (λ u. u.trace) h.after)

    runs_more : (steps : List (world.Step ℕ ℕ F)) (s : world.Step ℕ ℕ F) (w v u : WorldState ℕ ℕ F S) → Runs nat_cmp (λ k. k) changes steps w v → DoesStep nat_cmp (λ k. k) changes s v u
        → Runs nat_cmp (λ k. k) changes (steps ++ s ∷ []) w u
    runs_more [] s w v u e d = (u, subst (λ x. DoesStep nat_cmp (λ k. k) changes s x u) e d, refl)
    runs_more (t ∷ steps) s w v u r d = (r.0, r.1, runs_more steps s r.0 v u r.2 d)

    -- so many steps of one party were done, and their labels written
    abbrev pub Did : ℕ → ℕ → WorldState ℕ ℕ F S → WorldState ℕ ℕ F S → Option (List ℕ) → Option (List ℕ) → Type 0
    Did p n w v held holds = AnswersSteps changes (replicate n (step.Step p)) w v held holds None

    pub did_more : (p n : ℕ) (w v u : WorldState ℕ ℕ F S) (held holds later : Option (List ℕ)) → Did p n w v held holds → WorldStep nat_cmp changes v p u
        → ((older : List (Label ℕ ℕ F)) (l : Label ℕ ℕ F) → u.trace ≡ older ++ l ∷ [] → Appends holds later (label_text l ++ 10 ∷ [])) → Did p (n + 1) w u held later
    did_more p n w v u held holds later d st written =
        let l = label_of_step v u p st in
        let text = label_text l.0 ++ 10 ∷ [] in (
          d.0 ++ text,
          rw (replicate_next {X = world.Step ℕ ℕ F} n (step.Step p)) (runs_more (replicate n (step.Step p)) (step.Step p) w v u d.1 st),
          tells_more w v u d.0 text d.2 (tells_one v u l.0 l.1),
          Appends-trans held holds later d.0 text d.3 (written v.trace l.0 l.1),
        )

    -- memory is wanting after so many of them
    pub did_front : (p n m status : ℕ) (w v u : WorldState ℕ ℕ F S) (held holds later : Option (List ℕ)) → n < m → Did p n w v held holds → u ≡ v → status ≡ 3 → Appends holds later out_of_memory_text
        → AnswersSteps changes (replicate m (step.Step p)) w u held later (Some status)
    did_front p n m status w v u held holds later few d same is written =
        let whole : replicate m (step.Step p) ≡ replicate n (step.Step p) ++ step.Step p ∷ replicate (m - n - 1) (step.Step p) = ap (λ k. replicate k (step.Step p)) (omega arith) ∙ sym (replicate-append-replicate n (suc (m - n - 1)) (step.Step p)) in
        let done : AnswersSteps changes (replicate m (step.Step p)) w v held later (Some status) = (d.0, (replicate n (step.Step p), replicate (m - n - 1) (step.Step p), step.Step p, whole, d.1), d.2, is, Appends-trans held holds later d.0 out_of_memory_text d.3 written) in
        rw same done

    -- one step was not done
    pub not_done : (status : ℕ) (w v : WorldState ℕ ℕ F S) (s : world.Step ℕ ℕ F) (held holds : Option (List ℕ)) → v ≡ w → status ≡ 3 → Appends held holds out_of_memory_text
        → AnswersSteps changes (s ∷ []) w v held holds (Some status)
    not_done status w v s held holds same is written =
        ([], ([], [], s, refl, same), rw same (tells_none w), is, written)

    -- a loss adds the silent label of its party
    label_of_loss : (w v : WorldState ℕ ℕ F S) (p : ℕ) → WorldLoses w p v → v.trace ≡ w.trace ++ label.Silent p ∷ []
    label_of_loss w v p h = by_caller (slice_get w.party_records p) h
      where
        by_caller : (x : Option (PartyRecord ℕ ℕ F)) → MatchOption x (v ≡ with_label w (label.Silent p)) (λ x. v ≡ with_loss w p x) → v.trace ≡ w.trace ++ label.Silent p ∷ []
        by_caller None h = ap (λ u. u.trace) h
        by_caller (Some x) h = ap (λ u. u.trace) h

    -- a party lost, and the label of that was written
    pub lost_once : (w v : WorldState ℕ ℕ F S) (p : ℕ) (held holds : Option (List ℕ)) → WorldLoses w p v
        → ((older : List (Label ℕ ℕ F)) (l : Label ℕ ℕ F) → v.trace ≡ older ++ l ∷ [] → Appends held holds (label_text l ++ 10 ∷ [])) → AnswersSteps changes (step.Lose p ∷ []) w v held holds None
    lost_once w v p held holds lost written =
        let l : Label ℕ ℕ F = label.Silent p in
        let told = label_of_loss w v p lost in
        (label_text l ++ 10 ∷ [], (v, lost, refl), tells_one w v l told, written w.trace l told)

    -- a removal of what was read began, or there was none, or memory was wanting for it: the line is answered so
    pub drop_answers : (p n : ℕ) (w v : WorldState ℕ ℕ F S) (held holds : Option (List ℕ)) (r : Option ℕ) → AnswersDrop changes p w v held holds r → IsAnswered (of_a_world changes) (line.Drop p) (Some w) (Some v) n held holds r
    drop_answers p n w v held holds None d = (drop_text d.0, (d.0, v, d.1, refl, refl), d.2)
    drop_answers p n w v held holds (Some status) d = (out_of_memory_text, (w, [], ([], [], step.Drop p, refl, refl), tells_none w, (refl, d.1)), d.2)

    pub drop_line : {E : Type 0} (p n : ℕ) (w v : WorldState ℕ ℕ F S) (held holds : Option (List ℕ)) (r : Result (Option ℕ) E) → IfOk r (AnswersDrop changes p w v held holds) → IfOk r (IsAnswered (of_a_world changes) (line.Drop p) (Some w) (Some v) n held holds)
    drop_line p n w v held holds r d = IfOk-weaker r (AnswersDrop changes p w v held holds) (IsAnswered (of_a_world changes) (line.Drop p) (Some w) (Some v) n held holds) (drop_answers p n w v held holds) d
