-- A call before its first step.
use Rattle.std.specs.Prelude.{◌≡◌, ℕ, List, slice_get, Some, None}
use Rattle.std.proofs.Common.{refl, sym, ◌∙◌, ap}
use Rattle.flurry_steps_stages.specs.Stage.{RemovesSeen, AtLocate, last_seen, stage_of_call}
use Rattle.flurry_steps.specs.Party.{PartyState}
use Rattle.flurry_steps_stages.specs.CallView.{plain_of_owned}
use Rattle.flurry_steps_stages.specs.declared.call.OwnedCall.{OwnedCall}
use Rattle.flurry_steps_stages.specs.declared.call.OwnedCall.TheVariants as owned
use Rattle.flurry_base.specs.declared.call.Call.{Call}
use Rattle.flurry_base.specs.declared.call.Call.TheVariants as call
use Rattle.flurry_base.specs.declared.call.Seen.{Seen}
use Rattle.flurry_steps_theory.specs.Machine.{Locating}
use Rattle.flurry_base.specs.OneKey.{key_of, hash_of_call}
use Rattle.flurry_steps_world.specs.World.{PartyRecord, seen_in, mode_of_stage, FollowsStage}
use Rattle.flurry_steps_world.proofs.StateLaws.{held_of_stage, same_some}

-- it goes by its key's hash, and stands where the machine's call begins
pub record IsBeginning {K V F : Type 0} (hash : K → ℕ) (d : Call K V F) (c : PartyState K V F) : Type 0 where
  pub own_hash : (k : K) → key_of d ≡ Some k → c.hash ≡ hash k
  pub follows : FollowsStage hash d c.stage
  pub mode : mode_of_stage c.stage ≡ Locating
  pub plain_entries : held_of_stage c.stage ≡ (None, None)
  pub unread : last_seen c.stage ≡ None

module _ {K V F : Type 0} where
  -- the stage of a call that has its key
  pub fresh_stage : (hash : K → ℕ) (c : OwnedCall K V F) → FollowsStage hash (plain_of_owned c) (stage_of_call (plain_of_owned c)) × (mode_of_stage (stage_of_call (plain_of_owned c)) ≡ Locating) × (held_of_stage (stage_of_call (plain_of_owned c)) ≡ (None, None)) × (last_seen (stage_of_call (plain_of_owned c)) ≡ None)
  fresh_stage hash (owned.Get j) = (refl, refl, refl, refl)
  fresh_stage hash owned.Clear = (((refl, refl), refl), refl, refl, refl)
  fresh_stage hash owned.Walk = ((refl, tt), refl, refl, refl)
  fresh_stage hash c = (refl, refl, refl, refl)

  -- it goes by its key's hash
  pub own_hash : (hash : K → ℕ) (c : OwnedCall K V F) (k : K) → key_of (plain_of_owned c) ≡ Some k → hash_of_call hash (plain_of_owned c) ≡ hash k
  own_hash hash (owned.Reserve n) k h = cc
  own_hash hash owned.Clear k h = cc
  own_hash hash owned.Walk k h = cc
  own_hash hash c k h = ap hash (same_some h)

  -- a call that has its key
  pub owned_begins : (hash : K → ℕ) (n : ℕ) (c : OwnedCall K V F) → IsBeginning hash (plain_of_owned c) (record { hash = hash_of_call hash (plain_of_owned c); processors = n; helped = None; stage = stage_of_call (plain_of_owned c) })
  owned_begins hash n c =
      let (follows, mode, plain_entries, unread) = fresh_stage hash c in
      record { own_hash = own_hash hash c; follows = follows; mode = mode; plain_entries = plain_entries; unread = unread }

  -- the removal of a pair that a walk has read
  pub drop_begins : (hash : K → ℕ) (n : ℕ) (z : Seen K V) → IsBeginning {F = F} hash (call.RemoveSeen z) (record { hash = hash z.key; processors = n; helped = None; stage = AtLocate (RemovesSeen z) })
  drop_begins hash n z = record { own_hash = λ k h. ap hash (same_some h); follows = refl; mode = refl; plain_entries = refl; unread = refl }

  -- the walk with whose last read it begins has read that pair
  pub drop_origin : (xs : List (PartyRecord K V F)) (w : ℕ) (z : Seen K V) → seen_in (slice_get xs w) ≡ Some z → (v : ℕ) → Some w ≡ Some v → (y : Seen K V) × (seen_in (slice_get xs v) ≡ Some y) × (◌≡◌ {A = Call K V F} (call.RemoveSeen z) (call.RemoveSeen y))
  drop_origin xs w z h v e = (z, ap (λ n. seen_in (slice_get xs n)) (sym (same_some e)) ∙ h, refl)
