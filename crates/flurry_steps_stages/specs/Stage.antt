-- Where a call of a shared map stands between its steps, as plain data.
use Rattle.std.specs.Prelude.{ℕ, ◌+◌, ◌-◌, ◌%◌, ◌^◌, ◌≤◌, Bool, true, false, Option, Some, None, is_some, ⊤}
use Rattle.std.specs.Option.{option_map}
use Rattle.flurry_bins_slots.specs.Slot.{PlainEntry}
use Rattle.flurry_steps_sweep.specs.Outcome.{Outcome, OutcomeReply, OutcomeEnded}
use Rattle.flurry_steps_sweep.specs.Cursor.{at_base}
use Rattle.flurry_base.specs.declared.call.Call.{Call}
use Rattle.flurry_base.specs.declared.call.Seen.{Seen}
use Rattle.flurry_steps_sweep.specs.Sweep.{SweepState, Reads, Wipes, fresh_sweep, OverBins, AfterEnd, IsAfterEnd, swept_part, swept_outcome, is_at_start}
use Rattle.flurry_steps_sweep.specs.Part.{Part, ControlPart, LookPart, BinPart, NoPart}
use Rattle.flurry_base.specs.declared.reply.KeptReply.{KeptReply}
use Rattle.flurry_base.specs.declared.reply.KeptReply.TheVariants.{Value, Pair, Contains}
use Rattle.flurry_base.specs.declared.sizes.TheConstants.{MAX_TABLE}
use Rattle.flurry_steps_stages.specs.Help.{Help, help_part, HelpIsReady, IsPublishing}
use Rattle.flurry_base.specs.declared.call.Call.TheVariants as call
use Rattle.flurry_steps_sweep.specs.Sweep as sweep

-- what of the entry of a key a call answers: its value, the stored key and the value, or whether there is one
pub data AnswerForm : Type 0 where
  TheValue : AnswerForm
  ThePair : AnswerForm
  Presence : AnswerForm

-- a call of one key that did not decide yet
pub data Task (K V F : Type 0) : Type 0 where
  Finds : AnswerForm → K → Task K V F
  Removes : AnswerForm → K → Task K V F
  RemovesSeen : Seen K V → Task K V F
  Inserts : K → V → Task K V F
  Adds : K → V → Task K V F
  Computes : K → F → Task K V F
  -- whether a pair may be added
  Alters : K → Bool → F → Task K V F

-- what a table is made larger for: an insertion that has its reply, or a reserve
pub data GrowFor (K V : Type 0) : Type 0 where
  ForInsert : Outcome K V → GrowFor K V
  ForReserve : GrowFor K V

-- what a call goes on with when it stops helping: its bin in that table, another look at the count, or growing to that table
pub data Resume (K V F : Type 0) : Type 0 where
  ThenBin : Task K V F → ℕ → Resume K V F
  ThenRecount : Outcome K V → Resume K V F
  ThenGrow : ℕ → GrowFor K V → Resume K V F

-- where a call stands
pub data Stage (K V F : Type 0) : Type 0 where
  -- it asks for the published table
  AtLocate : Task K V F → Stage K V F
  -- it goes to its bin in that table
  AtBin : Task K V F → ℕ → Stage K V F
  -- it helps a growth
  AtHelp : Help → Resume K V F → Stage K V F
  -- it counts the pair that it removed
  AtUncount : Outcome K V → Stage K V F
  -- it counts the pair that it put
  AtCount : Outcome K V → Stage K V F
  -- it counts nothing, and hears what is to be done
  AtRecount : Outcome K V → Stage K V F
  -- it begins a growth from that table
  AtBegin : ℕ → Outcome K V → Stage K V F
  -- it begins a growth on the way to that table
  AtGrow : ℕ → GrowFor K V → Stage K V F
  -- it makes room for so many pairs more
  AtReserve : ℕ → Stage K V F
  -- it goes over all bins
  AtSweep : SweepState K V → Stage K V F
  -- it has ended, and its reply was not taken yet
  AtDone : Outcome K V → Stage K V F
  -- its reply was taken
  AtTaken : Stage K V F

-- ---- a call before its first step

module _ {K V F : Type 0} where
  -- where it stands
  abbrev pub stage_of_call : Call K V F → Stage K V F
  stage_of_call (call.Get k) = AtLocate (Finds TheValue k)
  stage_of_call (call.GetKeyValue k) = AtLocate (Finds ThePair k)
  stage_of_call (call.ContainsKey k) = AtLocate (Finds Presence k)
  stage_of_call (call.Insert k v) = AtLocate (Inserts k v)
  stage_of_call (call.TryInsert k v) = AtLocate (Adds k v)
  stage_of_call (call.Compute k f) = AtLocate (Computes k f)
  stage_of_call (call.Alter k may_add f) = AtLocate (Alters k may_add f)
  stage_of_call (call.Remove k) = AtLocate (Removes TheValue k)
  stage_of_call (call.RemoveEntry k) = AtLocate (Removes ThePair k)
  stage_of_call (call.RemoveSeen z) = AtLocate (RemovesSeen z)
  stage_of_call (call.Reserve n) = AtReserve n
  stage_of_call call.Clear = AtSweep (fresh_sweep (Wipes 0))
  stage_of_call call.Walk = AtSweep (fresh_sweep Reads)

  abbrev pub located_task : Stage K V F → Option (Task K V F)
  located_task (AtLocate t) = Some t
  located_task _ = None

  -- what a one-key call has to do at its bin
  abbrev pub task_of_call : Call K V F → Option (Task K V F)
  task_of_call c = located_task (stage_of_call c)

-- ---- what a call wants

abbrev pub bin_part : {K V F : Type 0} → Task K V F → ℕ → ℕ → Part
bin_part (Finds w k) e i = LookPart e i
bin_part _ e i = BinPart e i

abbrev pub part_of : {K V F : Type 0} → ℕ → Stage K V F → Part
part_of h (AtBin t e) = bin_part t e (h % 2 ^ e)
part_of h (AtHelp k a) = help_part k
part_of h (AtSweep w) = swept_part w
part_of h (AtDone r) = NoPart
part_of h AtTaken = NoPart
part_of h _ = ControlPart

-- ---- what each call in progress keeps: tables up to the greatest, a function that may be called, and the reply of its decision

-- the reply of a call of one key, which decided
abbrev pub IsDecided : {K V : Type 0} → Outcome K V → Type 0
IsDecided (OutcomeReply r) = ⊤
IsDecided _ = ⊥

abbrev pub GrowForIsReady : {K V : Type 0} → GrowFor K V → Type 0
GrowForIsReady (ForInsert r) = IsDecided r
GrowForIsReady ForReserve = ⊤

module _ {K V F : Type 0} (can_change never_keeps : F → Type 0) where
  abbrev pub TaskIsReady : Task K V F → Type 0
  TaskIsReady (Computes k f) = can_change f × never_keeps f
  TaskIsReady (Alters k may_add f) = can_change f
  TaskIsReady _ = ⊤

  abbrev pub ResumeIsReady : Resume K V F → Type 0
  ResumeIsReady (ThenBin t e) = TaskIsReady t × (e ≤ MAX_TABLE)
  ResumeIsReady (ThenRecount r) = IsDecided r
  ResumeIsReady (ThenGrow w g) = (w ≤ MAX_TABLE) × GrowForIsReady g

  abbrev pub StageIsReady : Stage K V F → Type 0
  StageIsReady (AtLocate t) = TaskIsReady t
  StageIsReady (AtBin t e) = TaskIsReady t × (e ≤ MAX_TABLE)
  StageIsReady (AtHelp h a) = HelpIsReady h × ResumeIsReady a
  StageIsReady (AtUncount r) = IsDecided r
  StageIsReady (AtCount r) = IsDecided r
  StageIsReady (AtRecount r) = IsDecided r
  StageIsReady (AtBegin e r) = (e ≤ MAX_TABLE) × IsDecided r
  StageIsReady (AtGrow w g) = (w ≤ MAX_TABLE) × GrowForIsReady g
  StageIsReady _ = ⊤

-- ---- replies

module _ {K V : Type 0} where
  -- what a call of this form answers of an entry, or of an absent key
  abbrev pub reply_for : AnswerForm → Option (PlainEntry K V) → KeptReply K V
  reply_for TheValue e = Value (option_map (λ (x : PlainEntry K V). x.1.0) e)
  reply_for ThePair e = Pair (option_map (λ (x : PlainEntry K V). (x.0.1, x.1.0)) e)
  reply_for Presence e = Contains (is_some e)

  abbrev pub outcome_of_growth : GrowFor K V → Option (Outcome K V)
  outcome_of_growth (ForInsert r) = Some r
  outcome_of_growth ForReserve = None

module _ {K V F : Type 0} where
  abbrev pub outcome_after : Resume K V F → Option (Outcome K V)
  outcome_after (ThenBin t e) = None
  outcome_after (ThenRecount r) = Some r
  outcome_after (ThenGrow w g) = outcome_of_growth g

  -- the reply, from the decision or the end on until it is taken
  abbrev pub outcome_in : Stage K V F → Option (Outcome K V)
  outcome_in (AtHelp h a) = outcome_after a
  outcome_in (AtUncount r) = Some r
  outcome_in (AtCount r) = Some r
  outcome_in (AtRecount r) = Some r
  outcome_in (AtBegin e r) = Some r
  outcome_in (AtGrow w g) = outcome_of_growth g
  outcome_in (AtSweep w) = swept_outcome w.stage
  outcome_in (AtDone r) = Some r
  outcome_in _ = None

  -- the reply of a call that is done, until it is taken
  abbrev pub final_outcome : Stage K V F → Option (Outcome K V)
  final_outcome (AtSweep w) = swept_outcome w.stage
  final_outcome (AtDone r) = Some r
  final_outcome _ = None

  -- what a walk has read last
  abbrev pub last_seen : Stage K V F → Option (Seen K V)
  last_seen (AtSweep w) = w.last
  last_seen _ = None

  -- its reply was taken
  abbrev pub IsTaken : Stage K V F → Type 0
  IsTaken (AtSweep w) = IsAfterEnd w.stage
  IsTaken AtTaken = ⊤
  IsTaken _ = ⊥

  -- it does not go over all bins
  abbrev pub IsSingle : Stage K V F → Type 0
  IsSingle (AtSweep w) = ⊥
  IsSingle _ = ⊤

  -- once its reply is taken
  abbrev pub taken_stage : Stage K V F → Stage K V F
  taken_stage (AtSweep w) = AtSweep (sweep.with_stage w AfterEnd)
  taken_stage s = AtTaken

  -- growing ends
  abbrev pub stage_grown : GrowFor K V → Stage K V F
  stage_grown (ForInsert r) = AtCount r
  stage_grown ForReserve = AtDone OutcomeEnded

  -- a call that stops helping goes on there
  abbrev pub resumed_stage : Resume K V F → Stage K V F
  resumed_stage (ThenBin t e) = AtBin t e
  resumed_stage (ThenRecount r) = AtRecount r
  resumed_stage (ThenGrow w g) = AtGrow w g

-- how many steps a look-up has left at most, where no bin that it meets is unborn: one at the control, and one in each of 31 tables
abbrev pub steps_left : {K V F : Type 0} → Stage K V F → ℕ
steps_left (AtLocate t) = MAX_TABLE + 2
steps_left (AtBin t e) = MAX_TABLE + 1 - e
steps_left _ = 0

-- a call of one key that only looks for it
abbrev pub IsLookUp : {K V F : Type 0} → Task K V F → Type 0
IsLookUp (Finds w k) = ⊤
IsLookUp _ = ⊥

-- a look-up that did not decide yet
abbrev pub LooksUp : {K V F : Type 0} → Stage K V F → Type 0
LooksUp (AtLocate t) = IsLookUp t
LooksUp (AtBin t e) = IsLookUp t
LooksUp _ = ⊥

-- a call that may change its bin
abbrev pub IsWriter : {K V F : Type 0} → Task K V F → Type 0
IsWriter (Finds w k) = ⊥
IsWriter _ = ⊤

-- a call of one key that may change its bin, and did no step yet
abbrev pub BeginsToWrite : {K V F : Type 0} → Stage K V F → Type 0
BeginsToWrite (AtLocate t) = IsWriter t
BeginsToWrite _ = ⊥

-- ---- steps at the control

-- the next step is at the control
abbrev pub IsAtControl : {K V F : Type 0} → Stage K V F → Type 0
IsAtControl (AtBin t e) = ⊥
IsAtControl (AtHelp h a) = IsPublishing h
IsAtControl (AtSweep w) = ⊥
IsAtControl (AtDone r) = ⊥
IsAtControl AtTaken = ⊥
IsAtControl _ = ⊤

-- the next step only asks the control for the published table
abbrev pub is_locating : {K V F : Type 0} → Stage K V F → Bool
is_locating (AtLocate t) = true
is_locating (AtSweep w) = is_at_start w.stage
is_locating _ = false

-- that step, at a table that is published
abbrev pub published_stage : {K V F : Type 0} → ℕ → Stage K V F → Stage K V F
published_stage d (AtLocate t) = AtBin t d
published_stage d (AtSweep w) = AtSweep (sweep.with_stage w (OverBins (at_base d 0)))
published_stage d s = s
