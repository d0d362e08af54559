-- What contracts see of where a call of a shared map stands.
use Rattle.std.specs.Prelude.{true, false}
use Rattle.flurry_base.specs.Given.{given_of}
use Rattle.flurry_steps_sweep.specs.OutcomeView.{outcome_of}
use Rattle.flurry_steps_stages.specs.declared.call.AnswerForm.{AnswerForm}
use Rattle.flurry_steps_stages.specs.declared.call.Task.{Task}
use Rattle.flurry_steps_stages.specs.declared.stage.Help.{Help}
use Rattle.flurry_steps_stages.specs.declared.stage.GrowFor.{GrowFor}
use Rattle.flurry_steps_stages.specs.declared.stage.Resume.{Resume}
use Rattle.flurry_steps_stages.specs.declared.stage.Stage.{Stage}
use Rattle.flurry_steps_stages.specs.CallView.{plain_key}
use Rattle.flurry_steps_stages.specs.Help as helping
use Rattle.flurry_steps_stages.specs.Stage as abstract
use Rattle.flurry_steps_stages.specs.declared.call.AnswerForm.TheVariants as form
use Rattle.flurry_steps_stages.specs.declared.call.Task.TheVariants as task
use Rattle.flurry_steps_stages.specs.declared.stage.Help.TheVariants as help
use Rattle.flurry_steps_stages.specs.declared.stage.GrowFor.TheVariants as growing
use Rattle.flurry_steps_stages.specs.declared.stage.Resume.TheVariants as after
use Rattle.flurry_steps_stages.specs.declared.stage.Stage.TheVariants as stage

abbrev pub form_of : AnswerForm → abstract.AnswerForm
form_of form.Value = abstract.TheValue
form_of form.Pair = abstract.ThePair
form_of form.Presence = abstract.Presence

module _ {Q K V F A : Type 0} (stands_for : Q → K) where
  abbrev pub task_of : Task Q K V F A → abstract.Task K V F
  task_of (task.Find w k) = abstract.Finds (form_of w) (plain_key stands_for k)
  task_of (task.Remove w k) = abstract.Removes (form_of w) (plain_key stands_for k)
  task_of (task.RemoveSeen z) = abstract.RemovesSeen z
  task_of (task.Insert k v) = abstract.Inserts k (given_of v)
  task_of (task.Add k v) = abstract.Adds k v
  task_of (task.Compute k f) = abstract.Computes (plain_key stands_for k) f
  task_of (task.Alter k f) = abstract.Alters k true f
  task_of (task.AlterPresent k f) = abstract.Alters (plain_key stands_for k) false f

abbrev pub help_of : Help → helping.Help
help_of (help.Seat e) = helping.WantsSeat e
help_of (help.Board e) = helping.AtBoard e
help_of (help.Move c) = helping.Moving c
help_of (help.Publish e) = helping.Publishing e
help_of (help.Give e) = helping.GivesBack e

module _ {K V A : Type 0} where
  abbrev pub grow_for_of : GrowFor K V A → abstract.GrowFor K V
  grow_for_of (growing.Insert r) = abstract.ForInsert (outcome_of r)
  grow_for_of growing.Reserve = abstract.ForReserve

module _ {Q K V F A : Type 0} (stands_for : Q → K) where
  abbrev pub resume_of : Resume Q K V F A → abstract.Resume K V F
  resume_of (after.Bin t e) = abstract.ThenBin (task_of stands_for t) e
  resume_of (after.Recount r) = abstract.ThenRecount (outcome_of r)
  resume_of (after.Grow w g) = abstract.ThenGrow w (grow_for_of g)

  abbrev pub stage_of : Stage Q K V F A → abstract.Stage K V F
  stage_of (stage.Locate t) = abstract.AtLocate (task_of stands_for t)
  stage_of (stage.Bin t e) = abstract.AtBin (task_of stands_for t) e
  stage_of (stage.Help h a) = abstract.AtHelp (help_of h) (resume_of a)
  stage_of (stage.Uncount r) = abstract.AtUncount (outcome_of r)
  stage_of (stage.Count r) = abstract.AtCount (outcome_of r)
  stage_of (stage.Recount r) = abstract.AtRecount (outcome_of r)
  stage_of (stage.Begin e r) = abstract.AtBegin e (outcome_of r)
  stage_of (stage.Grow w g) = abstract.AtGrow w (grow_for_of g)
  stage_of (stage.Reserve a) = abstract.AtReserve a
  stage_of (stage.Done r) = abstract.AtDone (outcome_of r)
  stage_of stage.Taken = abstract.AtTaken
