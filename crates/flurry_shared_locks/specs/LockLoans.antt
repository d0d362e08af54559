-- What is known of a loan under a lock.
use Rattle.std.specs.Prelude.{◌≡◌, ℕ, Bool, Option, ⊤}
use Rattle.flurry_steps.specs.Field.{Loan}
use Rattle.flurry_steps_sweep.specs.Part.{Part, ControlPart}
use Rattle.flurry_shared_locks.specs.declared.call_field.CallField.{CallField}

-- Any part of its type may be lent, since other threads change it between loans. The lock field stays as it is, and so does where it makes
-- tables.
abbrev pub LockLends : {S K V R : Type 0} → S → Loan K V R → S → Type 0
LockLends s l s' = s' ≡ s

-- the field of a call stays one of the same locks, whatever becomes of the call's helper
pub record KeepsLocks {R K V A : Type 0} (s s' : CallField R K V A) : Type 0 where
  pub runtime : s'.rt ≡ s.rt
  pub locks : s'.locks ≡ s.locks

-- so does the field of a call
abbrev pub CallLends : {R K V A M : Type 0} → CallField R K V A → Loan K V M → CallField R K V A → Type 0
CallLends s l s' = KeepsLocks s s'

-- the control is always there, and any other part may be lacking
abbrev pub LockLacks : {S : Type 0} → S → Part → Type 0
LockLacks s ControlPart = ⊥
LockLacks s _ = ⊤

-- a table that is made under the control's lock is known by its place alone
abbrev pub RoomStays : {M : Type 0} → M → ℕ → Option ℕ → Bool → M → Type 0
RoomStays m e p ok m' = m' ≡ m
