-- What a step of a call is at the board of a growth that it helps, or at the seats there.
use Rattle.std.specs.Prelude.{◌≡◌, ℕ, Bool, true, Option, Some, None, ⊤, if◌then◌else◌}
use Rattle.flurry_steps_control.specs.Claim.{whole_claim, moved_range}
use Rattle.flurry_steps_claims.specs.Range.{Bounds, IsRange}
use Rattle.flurry_steps_claims.specs.declared.range.Attempt.{Attempt}
use Rattle.flurry_steps_claims.specs.declared.range.Attempt.TheVariants.{Got, Lost, Nothing}
use Rattle.flurry_steps_sweep.specs.declared.step.Event.{Event}
use Rattle.flurry_steps_sweep.specs.declared.step.Event.TheVariants.{Silent}
use Rattle.flurry_steps_stages.specs.Help.{Help, WantsSeat, AtBoard, Moving, Publishing, GivesBack, helped_table, help_range, unclaimed}
use Rattle.flurry_steps_stages.specs.Stage.{Resume, Stage, AtHelp, resumed_stage}
use Rattle.flurry_steps.specs.Party.{PartyState}

-- what a call is answered
pub data BoardAnswer : Type 0 where
  -- whether it got a seat
  Seated : Bool → BoardAnswer
  -- what came of its attempt to claim a range
  Attempted : Attempt → BoardAnswer
  -- whether its report of that range was the last
  Reported : Bounds → Bool → BoardAnswer
  -- that its seat was taken back
  TakenBack : BoardAnswer

-- a range that was claimed at the board of table e is of that table
abbrev pub IsAttempt : ℕ → Attempt → Type 0
IsAttempt e (Got r) = r.table ≡ e
IsAttempt e _ = ⊤

-- a range that was claimed has a bin, and lies in its table
abbrev pub HasRange : BoardAnswer → Type 0
HasRange (Attempted (Got r)) = IsRange r
HasRange _ = ⊤

-- the answer is one to what the helper asks: it reports the range of its claim, and only once all bins of that have moved
abbrev pub HelpAsks : Help → BoardAnswer → Type 0
HelpAsks (WantsSeat e) (Seated b) = ⊤
HelpAsks (AtBoard e) (Attempted x) = IsAttempt e x
HelpAsks (Moving c) (Reported r b) = moved_range c ≡ Some r
HelpAsks (GivesBack e) TakenBack = ⊤
HelpAsks _ _ = ⊥

-- how helping goes on after an attempt at the board of table e
abbrev pub help_attempted : ℕ → Attempt → Help
help_attempted e (Got r) = Moving (whole_claim r)
help_attempted e Lost = AtBoard e
help_attempted e Nothing = GivesBack e

-- how helping goes on after an answer; none where it ends
abbrev pub help_after : Help → BoardAnswer → Option Help
help_after (WantsSeat e) (Seated true) = Some (AtBoard e)
help_after (AtBoard e) (Attempted x) = Some (help_attempted e x)
help_after (Moving c) (Reported r last) = Some (if last then Publishing c.range.table else AtBoard c.range.table)
help_after _ _ = None

-- the growth that a call helped last or found no seat for, where helping goes on like that
abbrev pub helped_with : Help → Option Help → Option ℕ → Option ℕ
helped_with h None m = Some (helped_table h)
helped_with h (Some k) m = m

module _ {K V F : Type 0} where
  abbrev pub StageAsks : Stage K V F → BoardAnswer → Type 0
  StageAsks (AtHelp h a) x = HelpAsks h x
  StageAsks _ x = ⊥

  -- a call goes on to help, or helping ends
  abbrev pub stage_helping : Option Help → Resume K V F → Stage K V F
  stage_helping None a = resumed_stage a
  stage_helping (Some h) a = AtHelp h a

  abbrev pub stage_answered : BoardAnswer → Stage K V F → Stage K V F
  stage_answered x (AtHelp h a) = stage_helping (help_after h x) a
  stage_answered x s = s

  abbrev pub helped_answered : BoardAnswer → Stage K V F → Option ℕ → Option ℕ
  helped_answered x (AtHelp h a) m = helped_with h (help_after h x) m
  helped_answered x s m = m

  -- the call, after that answer
  abbrev pub answered : BoardAnswer → PartyState K V F → PartyState K V F
  answered x p = record { hash = p.hash; processors = p.processors; helped = helped_answered x p.stage p.helped; stage = stage_answered x p.stage }

  -- ---- a report in two parts: the range comes out, and then the call is told

  abbrev pub range_to_report : Stage K V F → Option Bounds
  range_to_report (AtHelp h a) = help_range h
  range_to_report _ = None

  abbrev pub stage_unclaimed : Stage K V F → Stage K V F
  stage_unclaimed (AtHelp h a) = AtHelp (unclaimed h) a
  stage_unclaimed s = s

  abbrev pub IsAtBoard : Stage K V F → Type 0
  IsAtBoard (AtHelp (AtBoard e) a) = ⊤
  IsAtBoard _ = ⊥

  -- it is told whether its report was the last
  abbrev pub stage_told : Bool → Stage K V F → Stage K V F
  stage_told true (AtHelp (AtBoard e) a) = AtHelp (Publishing e) a
  stage_told b s = s

  -- ---- a call that loses

  -- one that would take a seat finds none; an attempt that is lost is made again, so any other call stays
  abbrev pub stage_lost : Stage K V F → Stage K V F
  stage_lost (AtHelp (WantsSeat e) a) = resumed_stage a
  stage_lost s = s

  abbrev pub helped_lost : Stage K V F → Option ℕ → Option ℕ
  helped_lost (AtHelp (WantsSeat e) a) m = Some e
  helped_lost s m = m

  abbrev pub lost : PartyState K V F → PartyState K V F
  lost p = record { hash = p.hash; processors = p.processors; helped = helped_lost p.stage p.helped; stage = stage_lost p.stage }

-- the step of p with that answer
pub record BoardStep {K V F : Type 0} (p : PartyState K V F) (x : BoardAnswer) (ev : Event) (p' : PartyState K V F) : Type 0 where
  pub asks : StageAsks p.stage x
  pub range : HasRange x
  pub silent : ev ≡ Silent
  pub after : p' ≡ answered x p
