-- A call that loses an attempt stands where it stood, for the machine.
use Rattle.std.specs.Prelude.{ℕ, None, ◌≡◌}
use Rattle.std.proofs.Common.{refl}
use Rattle.flurry_base.specs.declared.call.Call.{Call}
use Rattle.flurry_steps_stages.specs.Help.{WantsSeat}
use Rattle.flurry_steps_stages.specs.Stage.{Resume, ThenBin, Stage, AtHelp, resumed_stage, last_seen}
use Rattle.flurry_steps.specs.PartyBoard.{stage_lost}
use Rattle.flurry_steps_world.specs.World.{mode_of_stage, FollowsStage}
use Rattle.flurry_steps_world.proofs.StateLaws.{held_of_stage}
use Rattle.flurry_steps_world.proofs.ClaimCases.{resumed_as}

module _ {K V F : Type 0} where
  -- the machine sees the same at both stages, and the call may stand at the second
  abbrev pub StandsAlike : (hash : K → ℕ) → Call K V F → Stage K V F → Stage K V F → Type 0
  StandsAlike hash c s s' = (mode_of_stage s' ≡ mode_of_stage s) × (held_of_stage s' ≡ held_of_stage s) × (last_seen s' ≡ last_seen s) × FollowsStage hash c s'

  resumed_unseen : (a : Resume K V F) → last_seen (resumed_stage a) ≡ None
  resumed_unseen (ThenBin t e) = refl
  resumed_unseen a = refl

  pub lost_as : (hash : K → ℕ) (c : Call K V F) (s : Stage K V F) → FollowsStage hash c s → StandsAlike hash c s (stage_lost s)
  lost_as hash c (AtHelp (WantsSeat e) a) f = let (mode, plain_entries, follows) = resumed_as hash c a f in (mode, plain_entries, resumed_unseen a, follows)
  lost_as hash c s f = (refl, refl, refl, f)
