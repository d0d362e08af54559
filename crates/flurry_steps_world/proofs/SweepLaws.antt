-- Calls that go over all bins, and the others: what their stages tell of each other.
use Rattle.std.specs.Prelude.{◌≡◌, ℕ, false, Option, Some, None, IsNone, IsSome, ⊤}
use Rattle.std.proofs.Common.{arith, refl, sym, ◌∙◌, ap, subst}
use Rattle.flurry_steps_sweep.specs.Sweep.{SweepKind, Reads, Wipes}
use Rattle.flurry_steps_stages.specs.Stage.{ForInsert, ForReserve, Resume, ThenBin, ThenRecount, ThenGrow, Stage, AtLocate, AtBin, AtHelp, AtGrow, AtReserve, AtSweep, AtDone, AtTaken, last_seen, IsSingle, task_of_call}
use Rattle.flurry_base.specs.OneKey.{key_of}
use Rattle.flurry_steps_theory.specs.Trace.{is_lookup}
use Rattle.flurry_base.specs.declared.call.Call.{Call}
use Rattle.flurry_base.specs.declared.call.Call.TheVariants as call
use Rattle.flurry_base.specs.declared.call.Seen.{Seen}
use Rattle.flurry_steps_world.specs.World.{FollowsResume, FollowsKind, FollowsStage}

-- the call does not go over all bins, and has not ended
abbrev pub IsGoingSingle : {K V F : Type 0} → Stage K V F → Type 0
IsGoingSingle (AtSweep w) = ⊥
IsGoingSingle (AtDone r) = ⊥
IsGoingSingle AtTaken = ⊥
IsGoingSingle _ = ⊤

module _ {K V F : Type 0} where
  no_decision : (c : Call K V F) → IsSome (key_of c) → c ≡ call.Walk → ⊥
  no_decision c some is = let none : key_of c ≡ None = ap key_of is in grind (arith, none, some)

  no_task : {X : Type 0} (c : Call K V F) (t : X) (o : Option X) → o ≡ Some t → (c ≡ call.Walk → o ≡ None) → c ≡ call.Walk → ⊥
  no_task c t o some none is = let gone = none is in cc

  walk_resumes : (c : Call K V F) (a : Resume K V F) → FollowsResume c a → c ≡ call.Walk → ⊥
  walk_resumes c (ThenBin t e) f is = no_task c t (task_of_call c) f.0 (λ h. ap task_of_call h) is
  walk_resumes c (ThenRecount r) f is = no_decision c f.one_key is
  walk_resumes c (ThenGrow w (ForInsert r)) f is = no_decision c f.one_key is
  walk_resumes c (ThenGrow w ForReserve) (n, f) is = let same = sym f ∙ is in cc

  -- the call of such a stage is no walk
  pub no_walk : (hash : K → ℕ) (c : Call K V F) (s : Stage K V F) → IsGoingSingle s → FollowsStage hash c s → c ≡ call.Walk → ⊥
  no_walk hash c (AtLocate t) g f is = no_task c t (task_of_call c) f (λ h. ap task_of_call h) is
  no_walk hash c (AtBin t e) g f is = no_task c t (task_of_call c) f (λ h. ap task_of_call h) is
  no_walk hash c (AtHelp h a) g f is = walk_resumes c a f is
  no_walk hash c (AtGrow w ForReserve) g (n, f) is = let same = sym f ∙ is in cc
  no_walk hash c (AtReserve a) g f is = let same = sym f ∙ is in cc
  no_walk hash c (AtSweep w) g f is = absurd g
  no_walk hash c (AtDone r) g f is = absurd g
  no_walk hash c AtTaken g f is = absurd g
  no_walk hash c s g f is = no_decision c f.one_key is

  errand_unread : (c : Call K V F) (w : SweepKind) (z : Option (Seen K V)) → (c ≡ call.Walk → ⊥) → FollowsKind c w z → z ≡ None
  errand_unread c Reads z other f = absurd (other f)
  errand_unread c (Wipes n) z other f = f.1

  -- a call that is no walk has read nothing
  pub no_seen : (hash : K → ℕ) (c : Call K V F) (s : Stage K V F) → (c ≡ call.Walk → ⊥) → FollowsStage hash c s → last_seen s ≡ None
  no_seen hash c (AtSweep w) other f = errand_unread c w.kind w.last other f.0
  no_seen hash c s other f = refl

  pub single_unread : (s : Stage K V F) → IsSingle s → last_seen s ≡ None
  single_unread (AtSweep w) h = absurd h
  single_unread s h = refl

  -- a walk and a clear have no key
  pub no_key : (c : Call K V F) (w : SweepKind) (z : Option (Seen K V)) → FollowsKind c w z → IsNone (key_of c)
  no_key c Reads z f = subst (λ d. IsNone (key_of d)) (sym f) refl
  no_key c (Wipes n) z f = subst (λ d. IsNone (key_of d)) (sym f.0) refl

  -- and look nothing up
  pub looks_not : (c : Call K V F) (w : SweepKind) (z : Option (Seen K V)) → FollowsKind c w z → is_lookup (Some c) ≡ false
  looks_not c Reads z f = ap (λ d. is_lookup (Some d)) f
  looks_not c (Wipes n) z f = ap (λ d. is_lookup (Some d)) f.0
