-- Lists of steps, one after another.
use Rattle.std.specs.Prelude.{ℕ, suc, List, [], ◌∷◌, ◌++◌, All, Option, Result, Ok, Err, OnErr}
use Rattle.std.specs.declared.cmp.Ordering.{Ordering}
use Rattle.std.proofs.Common.{arith, refl, subst}
use Rattle.flurry_steps_world.specs.World.{WorldState}
use Rattle.flurry_steps_stages.specs.CallView.{OwnedIsReady}
use Rattle.flurry_steps_stages.specs.declared.call.OwnedCall.{OwnedCall}
use Rattle.flurry_steps_stages.specs.declared.call.OwnedCall.TheVariants as owned
use Rattle.flurry_steps_world.specs.Runs.{DoesStep, Runs, StepIsReady}
use Rattle.flurry_steps_world.specs.declared.world.Step.{Step}
use Rattle.flurry_steps_world.specs.declared.world.Step.TheVariants as step
use Rattle.flurry_base.specs.declared.verdict.Verdict.{Verdict}

-- what holds of an error
pub on_err : {T E : Type 0} (r : Result T E) (P : Type 0) → P → OnErr r P
on_err (Ok x) P p = tt
on_err (Err e) P p = p

module _ {K V F S : Type 0} (cmp : K → K → Ordering) (hash : K → ℕ) (changes : F → K → Option V → Verdict V → Type 0) where
  -- one step more
  pub runs_more : (front : List (Step K V F)) (w v u : WorldState K V F S) (s : Step K V F) → Runs cmp hash changes front w v → DoesStep cmp hash changes s v u → Runs cmp hash changes (front ++ s ∷ []) w u
  runs_more [] w v u s ran did = (u, subst (λ z. DoesStep cmp hash changes s z u) ran did, refl)
  runs_more (t ∷ front) w v u s (m, first, rest) did = (m, first, runs_more front m v u s rest did)

-- the first of a list, and the rest
module _ {X : Type 0} (P : X → Type 0) (x : X) (xs : List X) (all : All P (x ∷ xs)) where
  pub all_head : P x
  all_head = all 0 x (omega arith)

  pub all_tail : All P xs
  all_tail k d h = all (suc k) d (omega (arith, h))

module _ {K V F : Type 0} (can_change never_keeps : F → Type 0) (callable : (f : F) → can_change f) (changing : (f : F) → never_keeps f) where
  kept_ready : (c : OwnedCall K V F) → OwnedIsReady can_change never_keeps c
  kept_ready (owned.Compute k f) = (callable f, changing f)
  kept_ready (owned.Alter k f) = callable f
  kept_ready (owned.AlterPresent k f) = callable f
  kept_ready c = tt

  -- where each function may be called, each step may be done
  pub step_ready : (s : Step K V F) → StepIsReady can_change never_keeps s
  step_ready (step.Begin c) = kept_ready c
  step_ready s = tt
