-- What a call returns that gets the value of a key, or inserts one.
use Rattle.std.specs.Prelude.{◌≡◌, ◌⊎◌, Some}
use Rattle.flurry_base.specs.declared.call.Call.{Call}
use Rattle.flurry_base.specs.declared.call.Call.TheVariants.{Get, TryInsert}
use Rattle.flurry_base.specs.declared.reply.KeptReply.TheVariants.{Value, New, Exists}
use Rattle.flurry_bins_slots.specs.declared.compute_fn.NoFn.{NoFn}
use Rattle.flurry_steps_sweep.specs.Outcome.{Outcome, OutcomeReply, OutcomeRefused}

-- over the answers that calls of the map can give, and the values that the function can return at the key
module _ {K V : Type 0} (CanAnswer : Call K V NoFn → Outcome K V → Type 0) (key : K) (Computes : V → Type 0) where
  -- the value is one that a look-up of the key found; or the function returned a value, and an insertion of it that keeps a present one
  -- gave it back as new, or gave the value that was present
  abbrev pub GetsOrInserts : V → Type 0
  GetsOrInserts a =
      CanAnswer (Get key) (OutcomeReply (Value (Some a)))
      ⊎ ((v : V) × Computes v × ((CanAnswer (TryInsert key v) (OutcomeReply (New a)) × (a ≡ v)) ⊎ CanAnswer (TryInsert key v) (OutcomeReply (Exists a v))))

  -- the look-up was refused, or the insertion of a value that the function returned
  abbrev pub FailsToGetOrInsert : Type 0
  FailsToGetOrInsert = CanAnswer (Get key) OutcomeRefused ⊎ ((v : V) × Computes v × CanAnswer (TryInsert key v) OutcomeRefused)
