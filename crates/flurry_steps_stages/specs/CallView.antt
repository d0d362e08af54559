-- What contracts see of a call of a shared map.
use Rattle.std.specs.Prelude.{true, false, ⊤}
use Rattle.std.specs.Arc.{arc_value}
use Rattle.flurry_steps_stages.specs.declared.call.Key.{Key}
use Rattle.flurry_steps_stages.specs.declared.call.Call.{Call}
use Rattle.flurry_steps_stages.specs.declared.call.OwnedCall.{OwnedCall}
use Rattle.flurry_steps_stages.specs.declared.call.Call.TheVariants as call
use Rattle.flurry_base.specs.declared.call.Call as plain_call_type
use Rattle.flurry_base.specs.declared.call.Call.TheVariants as plain
use Rattle.flurry_steps_stages.specs.declared.call.Key.TheVariants as key
use Rattle.flurry_steps_stages.specs.declared.call.OwnedCall.TheVariants as owned

-- the key that a lent one stands for, or that the call owns
abbrev pub plain_key : {Q K : Type 0} → (Q → K) → Key Q K → K
plain_key stands_for (key.Lent q) = stands_for q
plain_key stands_for (key.Own k) = k

module _ {Q K V F A : Type 0} (stands_for : Q → K) where
  -- the call as plain data
  abbrev pub plain_call : Call Q K V F A → plain_call_type.Call K V F
  plain_call (call.Get k) = plain.Get (stands_for k)
  plain_call (call.GetKeyValue k) = plain.GetKeyValue (stands_for k)
  plain_call (call.ContainsKey k) = plain.ContainsKey (stands_for k)
  plain_call (call.Remove k) = plain.Remove (stands_for k)
  plain_call (call.RemoveEntry k) = plain.RemoveEntry (stands_for k)
  plain_call (call.RemoveSeen z) = plain.RemoveSeen z
  plain_call (call.Insert k v) = plain.Insert k (arc_value v)
  plain_call (call.TryInsert k v) = plain.TryInsert k v
  plain_call (call.Compute k f) = plain.Compute (stands_for k) f
  plain_call (call.Alter k f) = plain.Alter k true f
  plain_call (call.AlterPresent k f) = plain.Alter (stands_for k) false f
  plain_call (call.Reserve n) = plain.Reserve n
  plain_call call.Clear = plain.Clear
  plain_call call.Walk = plain.Walk

module _ {K V F : Type 0} where
  -- that of a call that has its key
  abbrev pub plain_of_owned : OwnedCall K V F → plain_call_type.Call K V F
  plain_of_owned (owned.Get k) = plain.Get k
  plain_of_owned (owned.GetKeyValue k) = plain.GetKeyValue k
  plain_of_owned (owned.ContainsKey k) = plain.ContainsKey k
  plain_of_owned (owned.Remove k) = plain.Remove k
  plain_of_owned (owned.RemoveEntry k) = plain.RemoveEntry k
  plain_of_owned (owned.Insert k v) = plain.Insert k v
  plain_of_owned (owned.TryInsert k v) = plain.TryInsert k v
  plain_of_owned (owned.Compute k f) = plain.Compute k f
  plain_of_owned (owned.Alter k f) = plain.Alter k true f
  plain_of_owned (owned.AlterPresent k f) = plain.Alter k false f
  plain_of_owned (owned.Reserve n) = plain.Reserve n
  plain_of_owned owned.Clear = plain.Clear
  plain_of_owned owned.Walk = plain.Walk

  -- its function, if it has one, may be called, and for a computation keeps no pair
  abbrev pub CallIsReady : {Q A : Type 0} → (F → Type 0) → (F → Type 0) → Call Q K V F A → Type 0
  CallIsReady can_change never_keeps (call.Compute k f) = can_change f × never_keeps f
  CallIsReady can_change never_keeps (call.Alter k f) = can_change f
  CallIsReady can_change never_keeps (call.AlterPresent k f) = can_change f
  CallIsReady can_change never_keeps _ = ⊤

  -- its function, if it has one, may be called, and for a computation keeps no pair
  abbrev pub OwnedIsReady : (F → Type 0) → (F → Type 0) → OwnedCall K V F → Type 0
  OwnedIsReady can_change never_keeps (owned.Compute k f) = can_change f × never_keeps f
  OwnedIsReady can_change never_keeps (owned.Alter k f) = can_change f
  OwnedIsReady can_change never_keeps (owned.AlterPresent k f) = can_change f
  OwnedIsReady can_change never_keeps _ = ⊤
