-- What a step of a call is at a tally.
use Rattle.std.specs.Prelude.{◌≡◌, ℤ, pos, negsuc, Bool, true, false, if◌then◌else◌, int_le, ◌≤◌, ⊤}
use Rattle.flurry_steps_control.specs.Control.{count_after}
use Rattle.flurry_steps_sweep.specs.Outcome.{Outcome}
use Rattle.flurry_steps_stages.specs.Stage.{Stage, AtUncount, AtCount, AtRecount, AtGrow, AtDone, ForInsert, IsDecided}
use Rattle.flurry_steps.specs.Party.{PartyState}
use Rattle.flurry_steps_sweep.specs.declared.step.Event.{Event}
use Rattle.flurry_steps_sweep.specs.declared.step.Event.TheVariants as event
use Rattle.flurry_steps.specs.declared.party.ending.Rest.{Rest}
use Rattle.flurry_steps.specs.declared.party.ending.Rest.TheVariants as rest
use Rattle.flurry_base.specs.declared.sizes.TheConstants.{MAX_TABLE}

module _ {K V F : Type 0} where
  -- the next step counts a pair
  abbrev pub is_counting : Stage K V F → Bool
  is_counting (AtUncount r) = true
  is_counting (AtCount r) = true
  is_counting _ = false

  -- a call that put a pair looks at the control's count once so many pairs wait at its tally
  abbrev pub stage_tallied : ℤ → ℤ → Outcome K V → Stage K V F
  stage_tallied most n r = if int_le most n then AtRecount r else AtDone r

  -- the step of a call at a tally, at which n pairs waited before and n' wait after
  abbrev pub StageAtTally : ℤ → Stage K V F → ℤ → Stage K V F → ℤ → Type 0
  StageAtTally most (AtUncount r) n st' n' = (st' ≡ AtDone r) × (n' ≡ count_after (negsuc 0) n)
  StageAtTally most (AtCount r) n st' n' = (st' ≡ stage_tallied most n' r) × (n' ≡ count_after (pos 1) n)
  StageAtTally most _ n st' n' = ⊥

-- a call whose reply is known, and what it does next
pub record EndingState (K V : Type 0) : Type 0 where
  pub rest : Rest
  pub reply : Outcome K V

abbrev pub has_to_count : Rest → Bool
has_to_count rest.Count = true
has_to_count rest.Uncount = true
has_to_count _ = false

module _ {K V F : Type 0} where
  abbrev pub rest_stage : Rest → Outcome K V → Stage K V F
  rest_stage rest.Nothing r = AtDone r
  rest_stage rest.Count r = AtCount r
  rest_stage rest.Uncount r = AtUncount r
  rest_stage rest.Recount r = AtRecount r
  rest_stage (rest.Grow w) r = AtGrow w (ForInsert r)

  -- where it stands
  abbrev pub ending_stage : EndingState K V → Stage K V F
  ending_stage e = rest_stage e.rest e.reply

  -- the stages of such calls
  abbrev pub HasDecided : Stage K V F → Type 0
  HasDecided (AtDone r) = ⊤
  HasDecided (AtCount r) = ⊤
  HasDecided (AtUncount r) = ⊤
  HasDecided (AtRecount r) = ⊤
  HasDecided (AtGrow w (ForInsert r)) = ⊤
  HasDecided _ = ⊥

-- a call that has more to do has decided, and there is a table that it grows to
abbrev pub RestIsReady : {K V : Type 0} → Rest → Outcome K V → Type 0
RestIsReady rest.Nothing r = ⊤
RestIsReady (rest.Grow w) r = (w ≤ MAX_TABLE) × IsDecided r
RestIsReady _ r = IsDecided r

-- the step of p at that tally
pub record TallyStep {K V F : Type 0} (most : ℤ) (p : PartyState K V F) (n : ℤ) (ev : Event) (p' : PartyState K V F) (n' : ℤ) : Type 0 where
  pub hash : p'.hash ≡ p.hash
  pub processors : p'.processors ≡ p.processors
  pub helped : p'.helped ≡ p.helped
  pub silent : ev ≡ event.Silent
  pub step : StageAtTally most p.stage n p'.stage n'
