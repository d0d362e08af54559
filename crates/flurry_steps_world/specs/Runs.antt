-- How a world begins, how calls begin in it, and what a list of steps does.
use Rattle.std.specs.Prelude.{◌≡◌, ◌⊎◌, ℕ, ◌^◌, ◌≤◌, ◌++◌, List, [], ◌∷◌, length, slice_get, Option, Some, None, MatchOption, ⊤}
use Rattle.std.specs.declared.cmp.Ordering.{Ordering}
use Rattle.flurry_base.specs.OneKey.{hash_of_call}
use Rattle.flurry_base.specs.Sizes.{wanted_of}
use Rattle.flurry_steps_stages.specs.Stage.{RemovesSeen, AtLocate, stage_of_call}
use Rattle.flurry_steps_stages.specs.CallView.{OwnedIsReady, plain_of_owned}
use Rattle.flurry_steps_stages.specs.declared.call.OwnedCall.{OwnedCall}
use Rattle.flurry_base.specs.declared.call.Call.TheVariants as call
use Rattle.flurry_base.specs.declared.call.Seen.{Seen}
use Rattle.flurry_steps_world.specs.Tables.{no_tables, with_table}
use Rattle.flurry_steps_world.specs.World.{WorldState, seen_in}
use Rattle.flurry_steps_world.specs.Steps.{fresh_world, with_party_record, WorldStep, WorldLoses}
use Rattle.flurry_steps_world.specs.declared.world.Step.{Step}
use Rattle.flurry_steps_world.specs.declared.world.Step.TheVariants as step
use Rattle.flurry_base.specs.declared.sizes.TheConstants.{MAX_TABLE}
use Rattle.flurry_base.specs.declared.verdict.Verdict.{Verdict}

module _ {K V F : Type 0} where
  -- the function of a call that begins, if it has one, may be called
  abbrev pub StepIsReady : (F → Type 0) → (F → Type 0) → Step K V F → Type 0
  StepIsReady can_change never_keeps (step.Begin c) = OwnedIsReady can_change never_keeps c
  StepIsReady can_change never_keeps (step.Drop p) = ⊤
  StepIsReady can_change never_keeps (step.Step p) = ⊤
  StepIsReady can_change never_keeps (step.Lose p) = ⊤

module _ {K V F S : Type 0} where
  -- no table for no pairs, else one of the wanted number of bins, which are live and empty
  abbrev pub NewGives : ℕ → S → ℕ → WorldState K V F S → Type 0
  NewGives pairs hasher processors w =
      ((pairs ≡ 0) × (w ≡ fresh_world hasher processors None no_tables))
      ⊎ ((pairs ≡ 0 → ⊥) × (e : ℕ) × (2 ^ e ≡ wanted_of pairs) × (e ≤ MAX_TABLE) × (w ≡ fresh_world hasher processors (Some e) (with_table no_tables e None)))

  -- the world after a call began, before its first step
  abbrev pub begun_with : (K → ℕ) → WorldState K V F S → OwnedCall K V F → WorldState K V F S
  begun_with hash w c = with_party_record w (plain_of_owned c) None (record { hash = hash_of_call hash (plain_of_owned c); processors = w.processors; helped = None; stage = stage_of_call (plain_of_owned c) })

  -- the world after the removal of the pair z, which walk p had read last, has begun
  abbrev pub begun_to_drop : (K → ℕ) → WorldState K V F S → ℕ → Seen K V → WorldState K V F S
  begun_to_drop hash w p z = with_party_record w (call.RemoveSeen z) (Some p) (record { hash = hash z.key; processors = w.processors; helped = None; stage = AtLocate (RemovesSeen z) })

  -- where party p is a walk that has read a pair, the removal of the last one begins, as the next party; else nothing does
  abbrev pub Drops : (K → ℕ) → WorldState K V F S → ℕ → Option ℕ → WorldState K V F S → Type 0
  Drops hash w p q v = MatchOption (seen_in (slice_get w.party_records p)) ((q ≡ None) × (v ≡ w)) (λ z. (q ≡ Some (length w.party_records)) × (v ≡ begun_to_drop hash w p z))

  module _ (cmp : K → K → Ordering) (hash : K → ℕ) (changes : F → K → Option V → Verdict V → Type 0) where
    -- one step of a list
    abbrev pub DoesStep : Step K V F → WorldState K V F S → WorldState K V F S → Type 0
    DoesStep (step.Begin c) w v = v ≡ begun_with hash w c
    DoesStep (step.Drop p) w v = (q : Option ℕ) × Drops hash w p q v
    DoesStep (step.Step p) w v = WorldStep cmp changes w p v
    DoesStep (step.Lose p) w v = WorldLoses w p v

    -- the steps, one after another
    abbrev pub Runs : List (Step K V F) → WorldState K V F S → WorldState K V F S → Type 0
    Runs [] w v = v ≡ w
    Runs (s ∷ steps) w v = (u : WorldState K V F S) × DoesStep s w u × Runs steps u v

    -- a front of the steps, one after another; there is a further one, which was not done
    abbrev pub RunsFront : List (Step K V F) → WorldState K V F S → WorldState K V F S → Type 0
    RunsFront steps w v = (front rest : List (Step K V F)) × (s : Step K V F) × (steps ≡ front ++ s ∷ rest) × Runs front w v
