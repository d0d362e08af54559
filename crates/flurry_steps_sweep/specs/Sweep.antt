-- A call in progress that goes over all bins, as plain data, and what each of its steps is.
use Rattle.std.specs.Prelude.{◌≡◌, ℕ, pos, neg_ℤ, ◌+◌, ◌-◌, ◌^◌, min, length, Bool, true, false, Option, Some, None, IsSome, MatchOption, ⊤}
use Rattle.std.specs.declared.cmp.Ordering.{Ordering}
use Rattle.std.specs.List.{AllByRecursion}
use Rattle.flurry_base.specs.declared.call.Seen.{Seen}
use Rattle.flurry_steps_control.specs.Control.{ControlState, after_count}
use Rattle.flurry_bins_slots.specs.Slot.{PlainEntry, Content, IsLive, HasMoved, IsUnborn, SlotState, next_of_live, after_wipe}
use Rattle.flurry_steps_sweep.specs.Outcome.{Outcome, OutcomeEnded, OutcomeRefused}
use Rattle.flurry_steps_sweep.specs.Part.{Part, ControlPart, LookPart, BinPart, NoPart}
use Rattle.flurry_steps_sweep.specs.declared.step.Event.{Event}
use Rattle.flurry_steps_sweep.specs.declared.step.Event.TheVariants.{Read, Wipe, Refused, Silent}
use Rattle.flurry_steps_sweep.specs.Cursor.{Frame, CursorState, at_base, with_top, with_bound, after_split, after_top}

-- what it does at each bin: it reads the pairs, or wipes them, and has wiped so many
pub data SweepKind : Type 0 where
  Reads : SweepKind
  Wipes : ℕ → SweepKind

-- where it stands
pub data SweepStage (K V : Type 0) : Type 0 where
  -- it asks for the published table
  AtSweepStart : SweepStage K V
  -- it goes over the bins, and is to stand there
  OverBins : CursorState K → SweepStage K V
  -- a clear counts the pairs that it wiped
  AtTotal : SweepStage K V
  -- it has ended, and its reply was not taken yet
  AtEnd : Outcome K V → SweepStage K V
  -- its reply was taken
  AfterEnd : SweepStage K V

-- such a call: what it does, where it stands, and as a walk what it read last
pub record SweepState (K V : Type 0) : Type 0 where
  pub kind : SweepKind
  pub stage : SweepStage K V
  pub last : Option (Seen K V)

-- before its first step
abbrev pub fresh_sweep : {K V : Type 0} → SweepKind → SweepState K V
fresh_sweep w = record { kind = w; stage = AtSweepStart; last = None }

abbrev pub with_stage : {K V : Type 0} → SweepState K V → SweepStage K V → SweepState K V
with_stage p s = record { kind = p.kind; stage = s; last = p.last }

-- the key and the value that were seen
abbrev pub pair_seen : {K V : Type 0} → Seen K V → K × V
pair_seen s = (s.key, s.value)

-- what a walk's read knows of an entry
abbrev pub seen_at : {K V : Type 0} → PlainEntry K V → Seen K V
seen_at x = record { key = x.0.1; value = x.1.0; number = x.1.1 }

-- ---- what a call wants

abbrev pub bin_part : {K : Type 0} → SweepKind → Frame K → Part
bin_part Reads f = LookPart f.table f.index
bin_part (Wipes n) f = BinPart f.table f.index

module _ {K V : Type 0} where
  abbrev pub part_at : SweepKind → SweepStage K V → Part
  part_at w (OverBins c) = bin_part w c.top
  part_at w (AtEnd r) = NoPart
  part_at w AfterEnd = NoPart
  part_at w _ = ControlPart

  abbrev pub swept_part : SweepState K V → Part
  swept_part p = part_at p.kind p.stage

  -- the reply, from the end on until it is taken
  abbrev pub swept_outcome : SweepStage K V → Option (Outcome K V)
  swept_outcome (AtEnd r) = Some r
  swept_outcome _ = None

  -- the call has not ended
  abbrev pub IsUnderWay : SweepStage K V → Type 0
  IsUnderWay (AtEnd r) = ⊥
  IsUnderWay AfterEnd = ⊥
  IsUnderWay _ = ⊤

  -- its reply was taken
  abbrev pub IsAfterEnd : SweepStage K V → Type 0
  IsAfterEnd AfterEnd = ⊤
  IsAfterEnd _ = ⊥

  -- the next step only asks for the published table
  abbrev pub is_at_start : SweepStage K V → Bool
  is_at_start AtSweepStart = true
  is_at_start _ = false

-- ---- what each such call keeps

-- no frame has a bound
pub record HasNoBound {K : Type 0} (c : CursorState K) : Type 0 where
  pub top : c.top.bound ≡ None
  pub below : AllByRecursion (λ (f : Frame K). f.bound ≡ None) c.below

-- a clear goes over each bin as a whole, and it alone counts
abbrev pub SweepIsReady : {K V : Type 0} → SweepKind → SweepStage K V → Type 0
SweepIsReady (Wipes n) (OverBins c) = HasNoBound c
SweepIsReady Reads AtTotal = ⊥
SweepIsReady _ _ = ⊤

-- ---- steps at the control

module _ {K V : Type 0} where
  -- the call begins at the first bin of the published table, and ends where there is none
  abbrev pub start_stage_at : Option ℕ → SweepStage K V
  start_stage_at None = AtEnd OutcomeEnded
  start_stage_at (Some e) = OverBins (at_base e 0)

  abbrev pub StageAtControl : SweepKind → SweepStage K V → ControlState → SweepStage K V → ControlState → Type 0
  StageAtControl w AtSweepStart b s' b' = (s' ≡ start_stage_at b.published) × (b' ≡ b)
  StageAtControl (Wipes n) AtTotal b s' b' = (s' ≡ AtEnd OutcomeEnded) × (b' ≡ after_count (neg_ℤ (pos (min n (2 ^ 63 - 1)))) b)
  StageAtControl w _ b s' b' = ⊥

-- the step of p at the control b answers ev, and leaves p' and b'
pub record SweepControl {K V : Type 0} (p : SweepState K V) (b : ControlState) (ev : Event) (p' : SweepState K V) (b' : ControlState) : Type 0 where
  pub kind : p'.kind ≡ p.kind
  pub last : p'.last ≡ p.last
  pub silent : ev ≡ Silent
  pub step : StageAtControl p.kind p.stage b p'.stage b'

-- ---- a walk's step at a bin

module _ {K V : Type 0} where
  -- the bin on top is done: the way goes on, or was the last
  abbrev pub stage_walked : Option (CursorState K) → SweepStage K V
  stage_walked (Some f) = OverBins f
  stage_walked None = AtEnd OutcomeEnded

  -- the next entry is x: it is read, and is the bound then; or a further owner is refused
  abbrev pub ReadGives : CursorState K → PlainEntry K V → Option (Seen K V) → Event → SweepStage K V → Option (Seen K V) → Type 0
  ReadGives f x l Read s l' = (s ≡ OverBins (with_top f (with_bound f.top x.0))) × (l' ≡ Some (seen_at x))
  ReadGives f x l Refused s l' = (s ≡ AtEnd OutcomeRefused) × (l' ≡ l)
  ReadGives f x l _ s l' = ⊥

  -- a bin that has moved is left for its halves; a further owner of a bound that both need may be refused
  abbrev pub SplitGives : CursorState K → Event → SweepStage K V → Type 0
  SplitGives f Silent s = s ≡ OverBins (after_split f)
  SplitGives f Refused s = (s ≡ AtEnd OutcomeRefused) × IsSome f.top.bound
  SplitGives f _ s = ⊥

  module _ (cmp : K → K → Ordering) where
    -- of a live bin the entry past the bound is read, one that has moved is followed, and one that is not there yet is met again
    abbrev pub WalkGives : CursorState K → Content K V → Option (Seen K V) → Event → SweepStage K V → Option (Seen K V) → Type 0
    WalkGives f (IsLive b) l ev s l' =
        MatchOption (next_of_live cmp f.top.bound b) ((ev ≡ Silent) × (s ≡ stage_walked (after_top f)) × (l' ≡ l)) (λ x. ReadGives f x l ev s l')
    WalkGives f HasMoved l ev s l' = SplitGives f ev s × (l' ≡ l)
    WalkGives f IsUnborn l ev s l' = (ev ≡ Silent) × (s ≡ OverBins f) × (l' ≡ l)

-- ---- a clear's step at a bin

-- so many pairs, and more, up to the greatest number
abbrev pub more_wiped : ℕ → ℕ → ℕ
more_wiped n m = min (n + m) (2 ^ 64 - 1)

module _ {K V : Type 0} where
  -- the bin on top is done: the way goes on, or was the last
  abbrev pub stage_cleared : Option (CursorState K) → SweepStage K V
  stage_cleared (Some f) = OverBins f
  stage_cleared None = AtTotal

  -- a live bin is wiped, one that has moved is followed, and one that is not there yet is met again
  abbrev pub ClearGives : ℕ → CursorState K → Content K V → Event → SweepKind → SweepStage K V → Content K V → Type 0
  ClearGives n f (IsLive b) ev w s c =
      (ev ≡ Wipe f.top.table f.top.index) × (w ≡ Wipes (more_wiped n (length b.plain_entries))) × (s ≡ stage_cleared (after_top f)) × (c ≡ IsLive (after_wipe b))
  ClearGives n f HasMoved ev w s c = (ev ≡ Silent) × (w ≡ Wipes n) × (s ≡ OverBins (after_split f)) × (c ≡ HasMoved)
  ClearGives n f IsUnborn ev w s c = (ev ≡ Silent) × (w ≡ Wipes n) × (s ≡ OverBins f) × (c ≡ IsUnborn)

-- ---- a step at a bin

module _ {K V : Type 0} (cmp : K → K → Ordering) where
  -- by what it does, where it stands, and what was read last
  abbrev pub BinGives : SweepKind → SweepStage K V → Option (Seen K V) → Content K V → Event → SweepState K V → Content K V → Type 0
  BinGives Reads (OverBins f) l c ev p' c' = (p'.kind ≡ Reads) × WalkGives cmp f c l ev p'.stage p'.last × (c' ≡ c)
  BinGives (Wipes n) (OverBins f) l c ev p' c' = (p'.last ≡ l) × ClearGives n f c ev p'.kind p'.stage c'
  BinGives _ _ l c ev p' c' = ⊥

  abbrev pub SweepGives : SweepState K V → Content K V → Event → SweepState K V → Content K V → Type 0
  SweepGives p c ev p' c' = BinGives p.kind p.stage p.last c ev p' c'

-- the step of p at the slot q answers ev, and leaves p' and q'
pub record SweepStep {K V : Type 0} (cmp : K → K → Ordering) (p : SweepState K V) (q : SlotState K V) (ev : Event) (p' : SweepState K V) (q' : SlotState K V) : Type 0 where
  pub table : q'.table ≡ q.table
  pub index : q'.index ≡ q.index
  pub step : SweepGives cmp p q.content ev p' q'.content
