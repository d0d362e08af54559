-- What contracts see of a call in progress that goes over all bins.
use Rattle.std.specs.Prelude.{Bool, true, false, Option, Some, None}
use Rattle.flurry_steps_sweep.specs.OutcomeView.{outcome_of}
use Rattle.flurry_steps_sweep.specs.declared.reply.Reply.{Reply}
use Rattle.flurry_steps_sweep.specs.Cursor.{CursorState}
use Rattle.flurry_steps_sweep.specs.Sweep as abstract
use Rattle.flurry_steps_sweep.specs.Sweep.{SweepState}
use Rattle.flurry_steps_sweep.specs.declared.sweep.SweepKind.{SweepKind}
use Rattle.flurry_steps_sweep.specs.declared.sweep.SweepKind.TheVariants as kind
use Rattle.flurry_steps_sweep.specs.declared.sweep.Stage.{Stage}
use Rattle.flurry_steps_sweep.specs.declared.sweep.Stage.TheVariants as stage
use Rattle.flurry_steps_sweep.specs.declared.sweep.Sweep.TheInside.{Inside}

abbrev pub kind_of : SweepKind → abstract.SweepKind
kind_of kind.Read = abstract.Reads
kind_of (kind.Wipe n) = abstract.Wipes n

module _ {K V A : Type 0} where
  abbrev pub stage_of : Stage K V A → abstract.SweepStage K V
  stage_of stage.Start = abstract.AtSweepStart
  stage_of (stage.Bins c) = abstract.OverBins c
  stage_of stage.Total = abstract.AtTotal
  stage_of (stage.End r c) = abstract.AtEnd (outcome_of r)
  stage_of stage.Taken = abstract.AfterEnd

  abbrev pub sweep_state_of : Inside K V A → SweepState K V
  sweep_state_of s = record { kind = kind_of s.kind; stage = stage_of s.stage; last = s.last }

  -- a walk goes on there, or has ended with that reply
  abbrev pub walked_to : CursorState K → Option (Reply K V A) → abstract.SweepStage K V
  walked_to c None = abstract.OverBins c
  walked_to c (Some r) = abstract.AtEnd (outcome_of r)

module _ {K V : Type 0} where
  -- a clear goes on there, or is to count
  abbrev pub cleared_to : CursorState K → Bool → abstract.SweepStage K V
  cleared_to c true = abstract.OverBins c
  cleared_to c false = abstract.AtTotal
