-- What a step of a call is at a bin, and at a bin that moves with its two halves.
use Rattle.std.specs.Prelude.{◌≡◌, ℕ, ◌+◌, ◌^◌, Bool, true, false, Option, Some, None, ⊤, ◌*◌, IsSome, Result, Ok, Err}
use Rattle.flurry_bins_slots.specs.Slot.{PlainEntry, Live, Content, IsLive, HasMoved, IsUnborn, SlotState, ComputeOutcome, WasAbsent, WasRemoved, WasChanged, entry_of_live, after_write, write_reply, after_add, add_reply, after_take, after_take_if, take_if_reply, ComputesInVain, AlterOutcome, StayedAbsent, WasAdded, WasKept, WasTaken, WasSet, JudgesAt, pair_of_entry}
use Rattle.flurry_steps_sweep.specs.Outcome.{Outcome, OutcomeReply, OutcomeRefused}
use Rattle.flurry_steps_sweep.specs.Sweep.{SweepState, SweepGives}
use Rattle.flurry_base.specs.declared.reply.KeptReply.TheVariants.{Value, Pair, Contains, New, Changed, Exists}
use Rattle.flurry_steps_sweep.specs.declared.step.Event.{Event}
use Rattle.flurry_steps_sweep.specs.declared.step.Event.TheVariants.{Silent, Decide, Refused}
use Rattle.std.specs.declared.cmp.Ordering.{Ordering}
use Rattle.flurry_base.specs.declared.verdict.Verdict.TheVariants.{Set}
use Rattle.flurry_base.specs.declared.verdict.Verdict.{Verdict}
use Rattle.flurry_steps_stages.specs.Help.{WantsSeat, moved_help, MovesOn}
use Rattle.flurry_steps_stages.specs.Stage.{AnswerForm, Task, Stage, TheValue, Presence, Finds, Removes, RemovesSeen, Inserts, Adds, Computes, Alters, ForInsert, ThenBin, AtLocate, AtBin, AtHelp, AtUncount, AtCount, AtGrow, AtSweep, AtDone, reply_for}
use Rattle.flurry_steps.specs.Party.{PartyState, IsTableFor, with_stage}
use Rattle.flurry_bins_slots.specs.Slot as slot

module _ {K V F : Type 0} where
  -- a call that put a new key, and has this reply: where the bin asks for growth, a table is made larger for twice the bins of its
  -- table e before the key is counted
  abbrev pub GoesOnNew : ℕ → Outcome K V → Bool → Stage K V F → Type 0
  GoesOnNew e r true s = (w : ℕ) × IsTableFor (2 * 2 ^ e) w × (s ≡ AtGrow w (ForInsert r))
  GoesOnNew e r false s = s ≡ AtCount r

  -- a call that wrote a value, by the value before it, and whether the bin asks for growth
  abbrev pub GoesOnWritten : ℕ → Option V × Bool → Stage K V F → Type 0
  GoesOnWritten e (None, asked) s = GoesOnNew e (OutcomeReply (Value None)) asked s
  GoesOnWritten e (Some v, asked) s = s ≡ AtDone (OutcomeReply (Value (Some v)))

  -- a call that put a value where the key is absent, or found the key
  abbrev pub GoesOnAdded : ℕ → Result (V × Bool) (V × V) → Stage K V F → Type 0
  GoesOnAdded e (Ok (v, asked)) s = GoesOnNew e (OutcomeReply (New v)) asked s
  GoesOnAdded e (Err (current, v)) s = s ≡ AtDone (OutcomeReply (Exists current v))

  -- a call that took an entry out, or found none
  abbrev pub stage_taken : AnswerForm → Option (PlainEntry K V) → Stage K V F
  stage_taken w None = AtDone (OutcomeReply (reply_for w None))
  stage_taken w (Some x) = AtUncount (OutcomeReply (reply_for w (Some x)))

  -- a call that computed
  abbrev pub stage_computed : ComputeOutcome V → Stage K V F
  stage_computed WasAbsent = AtDone (OutcomeReply (Value None))
  stage_computed WasRemoved = AtUncount (OutcomeReply (Value None))
  stage_computed (WasChanged v) = AtDone (OutcomeReply (Value (Some v)))

  -- a call that altered
  abbrev pub GoesOnAltered : ℕ → AlterOutcome K V → Stage K V F → Type 0
  GoesOnAltered e StayedAbsent s = s ≡ AtDone (OutcomeReply (Contains false))
  GoesOnAltered e (WasAdded v asked) s = GoesOnNew e (OutcomeReply (New v)) asked s
  GoesOnAltered e WasKept s = s ≡ AtDone (OutcomeReply (Contains true))
  GoesOnAltered e (WasTaken x) s = s ≡ AtUncount (OutcomeReply (Pair (Some (pair_of_entry x))))
  GoesOnAltered e (WasSet w v) s = s ≡ AtDone (OutcomeReply (Changed w v))

  -- a call whose bin of table e has moved: a look-up goes on to the next table, and another call helps the growth from e first
  abbrev pub stage_moved : Task K V F → ℕ → Stage K V F
  stage_moved (Finds w k) e = AtBin (Finds w k) (e + 1)
  stage_moved t e = AtHelp (WantsSeat e) (ThenBin t (e + 1))

-- a look-up that answers what an entry owns is refused only where the key is present
abbrev pub FindCanBeRefused : {K V : Type 0} → AnswerForm → Option (PlainEntry K V) → Type 0
FindCanBeRefused Presence x = ⊥
FindCanBeRefused _ x = IsSome x

module _ {K V F : Type 0} (cmp : K → K → Ordering) (changes : F → K → Option V → Verdict V → Type 0) (h : ℕ) where
  -- the call decides at a live bin of table e, which it leaves as the second one
  abbrev pub DecidesAt : Task K V F → ℕ → Live K V → Stage K V F → Live K V → Type 0
  DecidesAt (Finds w k) e b s c = (s ≡ AtDone (OutcomeReply (reply_for w (entry_of_live cmp b h k)))) × (c ≡ b)
  DecidesAt (Removes w k) e b s c = (s ≡ stage_taken w (entry_of_live cmp b h k)) × (c ≡ after_take cmp b h k)
  DecidesAt (RemovesSeen z) e b s c = (s ≡ stage_taken TheValue (take_if_reply cmp z.number b h z.key)) × (c ≡ after_take_if cmp z.number b h z.key)
  DecidesAt (Inserts k v) e b s c = GoesOnWritten e (write_reply cmp (2 ^ e) b h k) s × (c ≡ after_write cmp (2 ^ e) b h k v)
  DecidesAt (Adds k v) e b s c = GoesOnAdded e (add_reply cmp (2 ^ e) b h k v) s × (c ≡ after_add cmp (2 ^ e) b h k v)
  DecidesAt (Computes k f) e b s c = (o : ComputeOutcome V) × slot.Computes cmp (changes f) (2 ^ e) b h k o c × (s ≡ stage_computed o)
  DecidesAt (Alters k may_add f) e b s c = (o : AlterOutcome K V) × slot.Alters cmp changes f may_add (2 ^ e) b h k o c × GoesOnAltered e o s

  -- memory can be wanting for the call at this bin: an insertion takes some, a removal none, and a computation or an
  -- alteration only where its function was called and answered a value
  abbrev pub CanBeRefused : Task K V F → Live K V → Type 0
  CanBeRefused (Finds w k) b = FindCanBeRefused w (entry_of_live cmp b h k)
  CanBeRefused (Removes w k) b = ⊥
  CanBeRefused (RemovesSeen z) b = ⊥
  CanBeRefused (Inserts k v) b = ⊤
  CanBeRefused (Adds k v) b = ⊤
  CanBeRefused (Computes k f) b = (w : V) × ComputesInVain cmp (changes f) b h k w
  CanBeRefused (Alters k may_add f) b = (w : V) × JudgesAt cmp changes f may_add b h k (Set w)

  -- at a live bin the call decides, or it is refused and changes nothing
  abbrev pub LiveGives : Task K V F → ℕ → Live K V → Event → Stage K V F → Content K V → Type 0
  LiveGives t e b Decide s c = (d : Live K V) × DecidesAt t e b s d × (c ≡ IsLive d)
  LiveGives t e b Refused s c = (s ≡ AtDone OutcomeRefused) × (c ≡ IsLive b) × CanBeRefused t b
  LiveGives t e b _ s c = ⊥

  -- the step of a call at a bin of table e
  abbrev pub ContentGives : Task K V F → ℕ → Content K V → Event → Stage K V F → Content K V → Type 0
  ContentGives t e (IsLive b) ev s c = LiveGives t e b ev s c
  ContentGives t e HasMoved ev s c = (ev ≡ Silent) × (s ≡ stage_moved t e) × (c ≡ HasMoved)
  ContentGives t e IsUnborn ev s c = (ev ≡ Silent) × (s ≡ AtLocate t) × (c ≡ IsUnborn)

  abbrev pub StageAtSlot : Stage K V F → Content K V → Event → Stage K V F → Content K V → Type 0
  StageAtSlot (AtBin t e) c ev s' c' = ContentGives t e c ev s' c'
  StageAtSlot (AtSweep w) c ev s' c' = (w' : SweepState K V) × (s' ≡ AtSweep w') × SweepGives cmp w c ev w' c'
  StageAtSlot _ c ev s' c' = ⊥

-- the step of p at the slot q answers ev, and leaves p' and q'
pub record SlotStep {K V F : Type 0} (cmp : K → K → Ordering) (changes : F → K → Option V → Verdict V → Type 0) (p : PartyState K V F) (q : SlotState K V) (ev : Event) (p' : PartyState K V F) (q' : SlotState K V) : Type 0 where
  pub hash : p'.hash ≡ p.hash
  pub processors : p'.processors ≡ p.processors
  pub helped : p'.helped ≡ p.helped
  pub table : q'.table ≡ q.table
  pub index : q'.index ≡ q.index
  pub step : StageAtSlot cmp changes p.hash p.stage q.content ev p'.stage q'.content

abbrev pub moved_stage : {K V F : Type 0} → Stage K V F → Stage K V F
moved_stage (AtHelp h a) = AtHelp (moved_help h) a
moved_stage s = s

abbrev pub MoveGives : {K V F : Type 0} → PartyState K V F → SlotState K V → SlotState K V → SlotState K V → Event → PartyState K V F → SlotState K V → SlotState K V → SlotState K V → Type 0
MoveGives p q low high ev p' q' low' high' = MovesOn (λ c. with_stage c (moved_stage c.stage)) p q low high ev p' q' low' high'

pub record MoveStep {K V F : Type 0} (p : PartyState K V F) (q low high : SlotState K V) (ev : Event) (p' : PartyState K V F) (q' low' high' : SlotState K V) : Type 0 where
  pub step : MoveGives p q low high ev p' q' low' high'
