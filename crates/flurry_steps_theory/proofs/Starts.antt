-- A number once published stays one: it may be kept, and used as late as one likes.
use Rattle.std.specs.Prelude.{ℕ, suc, ◌≤◌, Bool, true, List, [], ◌∷◌, ◌++◌, Option, Some, None, if◌then◌else◌, ◌≡◌}
use Rattle.std.specs.declared.cmp.Ordering.{Ordering}
use Rattle.std.specs.Cmp.{IsTotalOrder}
use Rattle.std.proofs.Common.{arith, refl, sym, ◌∙◌}
use Rattle.flurry_steps_theory.specs.Map.{same}
use Rattle.flurry_steps_theory.specs.Machine.{State, Transition, Enabled, WasPublished, next_state, Opens, Publishes}
use Rattle.flurry_steps_theory.specs.Invariant.{Inv, IsPartition, CanAll, after_all, new_world}
use Rattle.flurry_steps_theory.proofs.Tables.{same_some}
use Rattle.flurry_steps_theory.proofs.Step.{inv_after}
use Rattle.flurry_base.specs.declared.sizes.TheConstants.{MAX_TABLE}
use Rattle.flurry_base.specs.declared.verdict.Verdict.{Verdict}

module _ {K V F : Type 0} (cmp : K → K → Ordering) (total : IsTotalOrder cmp) (hash : K → ℕ) (lawful : (j k : K) → same cmp j k ≡ true → hash j ≡ hash k) (gives : F → K → Option V → Verdict V → Type 0) where
  was_step : (s : State K V F) (p : ℕ) (l : Transition K V F) (e : ℕ) → Enabled cmp hash gives s p l → IsPartition s → WasPublished cmp hash gives s e → WasPublished cmp hash gives (next_state cmp hash gives s p l) e
  was_step s p (Opens d) e can u o = absurd (grind (arith, can.3, o.2))
  was_step s p (Publishes d gr) e can u o = (o.0, suc d, refl, omega (arith, o.3, same_some (sym o.2 ∙ can.1)))
  was_step s p l e can u o = o

  -- what was published after some steps of a run may be begun at after any further ones
  pub was_after : (e : ℕ) (b : Bool) → e ≤ MAX_TABLE → (more steps : List (ℕ × Transition K V F)) → CanAll cmp hash gives (new_world e b) (more ++ steps) → (x : ℕ) → (after_all cmp hash gives (new_world e b) steps).published ≡ Some x → WasPublished cmp hash gives (after_all cmp hash gives (new_world e b) (more ++ steps)) x
  was_after e b l [] steps can x h =
      let i : (home : ℕ → ℕ) × Inv cmp hash gives (if b then Some e else None) home (after_all cmp hash gives (new_world e b) steps) = inv_after cmp total hash lawful gives e b l steps can in
      ((i.1.tables.from x h).0, x, h, omega arith)
  was_after e b l (m ∷ more) steps can x h =
      let i : (home : ℕ → ℕ) × Inv cmp hash gives (if b then Some e else None) home (after_all cmp hash gives (new_world e b) (more ++ steps)) = inv_after cmp total hash lawful gives e b l (more ++ steps) can.1 in
      was_step (after_all cmp hash gives (new_world e b) (more ++ steps)) m.0 m.1 x can.0 i.1.cut (was_after e b l more steps can.1 x h)
