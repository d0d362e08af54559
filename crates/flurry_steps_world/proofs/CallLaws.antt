-- What a call's task tells of the call.
use Rattle.std.specs.Prelude.{ℕ, true, false, [], Option, Some, None, IsSome, ⊤, ◌≡◌}
use Rattle.std.specs.declared.cmp.Ordering.{Ordering}
use Rattle.std.proofs.Common.{refl, sym, ap, subst, inl}
use Rattle.flurry_base.specs.declared.reply.KeptReply.{KeptReply}
use Rattle.flurry_base.specs.declared.reply.KeptReply.TheVariants.{Value, Contains}
use Rattle.flurry_steps_theory.specs.Machine.{Looking, mode_at_table, MayOpen, Adds as AddsPair}
use Rattle.flurry_base.specs.OneKey.{key_of}
use Rattle.flurry_steps_theory.specs.Map.{Allows}
use Rattle.flurry_base.specs.declared.call.Call.{Call}
use Rattle.flurry_base.specs.declared.call.Call.TheVariants.{Insert, TryInsert, Alter, RemoveSeen, Reserve, Clear, Walk}
use Rattle.flurry_base.specs.declared.verdict.Verdict.{Verdict}
use Rattle.flurry_base.specs.declared.verdict.Verdict.TheVariants.{Keep}
use Rattle.flurry_steps_stages.specs.Stage.{Task, Finds, Removes, Inserts, Adds, Alters, reply_for, task_of_call}

-- it adds nothing to an empty map
abbrev pub AddsNothing : {K V F : Type 0} → Task K V F → Type 0
AddsNothing (Inserts k v) = ⊥
AddsNothing (Adds k v) = ⊥
AddsNothing (Alters k true f) = ⊥
AddsNothing _ = ⊤

-- and answers this there
abbrev pub empty_reply : {K V F : Type 0} → Task K V F → KeptReply K V
empty_reply (Finds w k) = reply_for w None
empty_reply (Removes w k) = reply_for w None
empty_reply (Alters k may_add f) = Contains false
empty_reply _ = Value None

module _ {K V F : Type 0} where
  same_task : {t u : Task K V F} → Some t ≡ Some u → t ≡ u
  same_task {t} h = ap (λ o. unwrap o) h
    where
      unwrap : Option (Task K V F) → Task K V F
      unwrap None = t
      unwrap (Some u) = u

  pub found_task : (c : Call K V F) (t : Task K V F) (e : ℕ) → task_of_call c ≡ Some t → mode_at_table e c ≡ Looking e
  found_task (Reserve n) t e h = cc
  found_task Clear t e h = cc
  found_task Walk t e h = cc
  found_task c t e h = refl

  pub key_of_task : (c : Call K V F) (t : Task K V F) → task_of_call c ≡ Some t → IsSome (key_of c)
  key_of_task (Reserve n) t h = cc
  key_of_task Clear t h = cc
  key_of_task Walk t h = cc
  key_of_task c t h = refl

  -- a call that may add a pair may open table 4
  pub opens_first : (c : Call K V F) (t : Task K V F) → task_of_call c ≡ Some t → (AddsNothing t → ⊥) → MayOpen c 4
  opens_first (Insert k v) t h no_less = refl
  opens_first (TryInsert k v) t h no_less = refl
  opens_first (Alter k true f) t h no_less = refl
  opens_first (Reserve n) t h no_less = cc
  opens_first Clear t h no_less = cc
  opens_first Walk t h no_less = cc
  opens_first c t h no_less = absurd (no_less (subst AddsNothing (same_task h) tt))

  module _ (cmp : K → K → Ordering) (gives : F → K → Option V → Verdict V → Type 0) where
    abbrev EmptyAnswer : Call K V F → Task K V F → Type 0
    EmptyAnswer c t = (AddsPair c → ⊥) × Allows cmp gives c [] (empty_reply t)

    -- what any other call of one key answers on the empty map
    pub empty_allowed : (c : Call K V F) (t : Task K V F) → task_of_call c ≡ Some t → AddsNothing t → EmptyAnswer c t
    empty_allowed (Insert k v) t h n = absurd (subst AddsNothing (sym (same_task h)) n)
    empty_allowed (TryInsert k v) t h n = absurd (subst AddsNothing (sym (same_task h)) n)
    empty_allowed (Alter k true f) t h n = absurd (subst AddsNothing (sym (same_task h)) n)
    empty_allowed (Alter k false f) t h n = subst (EmptyAnswer (Alter k false f)) (same_task h) ((λ g. g), (Keep, refl, refl))
    empty_allowed (RemoveSeen z) t h n = subst (EmptyAnswer (RemoveSeen z)) (same_task h) ((λ g. g), inl refl)
    empty_allowed (Reserve m) t h n = cc
    empty_allowed Clear t h n = cc
    empty_allowed Walk t h n = cc
    empty_allowed c t h n = subst (EmptyAnswer c) (same_task h) ((λ g. g), refl)
