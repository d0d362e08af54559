-- What a world shows, and the state of the machine that it is.
use Rattle.std.specs.Prelude.{◌≡◌, ℕ, ℤ, pos, neg_ℤ, ◌≤ℤ◌, suc, ◌≤◌, false, List, [], ◌∷◌, length, reverse, map, slice_get, Option, Some, None, option_map, unwrap_or, IsSome, ⊤}
use Rattle.std.specs.declared.cmp.Ordering.{Ordering}
use Rattle.std.specs.List.{AllByRecursion}
use Rattle.flurry_base.specs.declared.reply.KeptReply.{KeptReply}
use Rattle.flurry_bins_slots.specs.Slot.{Live, IsLive}
use Rattle.flurry_steps_claims.specs.PlainBoard.{PlainBoardState, unclaimed_of}
use Rattle.flurry_steps_control.specs.Claim.{ClaimState}
use Rattle.flurry_steps_control.specs.Control.{ControlState, IsControl}
use Rattle.flurry_steps_sweep.specs.Outcome.{Outcome, OutcomeReply, OutcomeEnded, OutcomeRefused}
use Rattle.flurry_steps_sweep.specs.Cursor as cursor
use Rattle.flurry_steps_sweep.specs.Cursor.{CursorState}
use Rattle.flurry_steps_sweep.specs.Sweep.{SweepKind, Reads, Wipes, SweepStage, AtSweepStart, OverBins, AtTotal, AtEnd, AfterEnd}
use Rattle.flurry_steps_stages.specs.Help.{Help, Moving, Publishing}
use Rattle.flurry_steps_stages.specs.Stage.{GrowFor, ForInsert, ForReserve, Resume, ThenBin, ThenRecount, ThenGrow, Stage, AtLocate, AtBin, AtHelp, AtUncount, AtCount, AtRecount, AtBegin, AtGrow, AtReserve, AtSweep, AtDone, AtTaken, last_seen, task_of_call}
use Rattle.flurry_steps.specs.Party.{PartyState}
use Rattle.flurry_steps_theory.specs.Machine as machine
use Rattle.flurry_steps_theory.specs.Machine.{State, Mode, Locating, Looking, Walking, Clearing, Done, Finished}
use Rattle.flurry_base.specs.OneKey.{key_of}
use Rattle.flurry_steps_theory.specs.Trace.{Trace, is_lookup}
use Rattle.flurry_steps_theory.specs.Invariant.{Inv}
use Rattle.flurry_base.specs.declared.call.Call.{Call}
use Rattle.flurry_base.specs.declared.call.Seen.{Seen}
use Rattle.flurry_base.specs.declared.call.Call.TheVariants as call
use Rattle.flurry_steps_theory.specs.declared.Label.{Label}
use Rattle.flurry_steps_theory.specs.declared.Label.TheVariants as label
use Rattle.flurry_steps_world.specs.Entries.{slot_of, IsHashed}
use Rattle.flurry_steps_world.specs.Tables.{Tables, AreTables, slots_of, content_at, board_at}
use Rattle.flurry_base.specs.declared.sizes.TheConstants.{MAX_LABELS}
use Rattle.flurry_base.specs.declared.verdict.Verdict.{Verdict}

-- a call that began, the walk with whose last read it began, if it is a removal of that pair, where it stands, and how many steps it has
-- done
pub record PartyRecord (K V F : Type 0) : Type 0 where
  pub call : Call K V F
  pub began_from : Option ℕ
  pub party_state : PartyState K V F
  pub steps : ℕ

-- the hasher, the processors that share the work of a growth, the table that the world began with, the control, the tables,
-- the calls in the order of their beginning, and the labels, the oldest first
pub record WorldState (K V F S : Type 0) : Type 0 where
  pub hasher : S
  pub processors : ℕ
  pub first : Option ℕ
  pub control_state : ControlState
  pub tables : Tables K V
  pub party_records : List (PartyRecord K V F)
  pub trace : List (Label K V F)

-- ---- the machine's view of a call in progress

module _ {K : Type 0} where
  -- the part of a bin that is left to a walk or a clear: the machine's bound is a key alone
  abbrev pub frame_of : cursor.Frame K → machine.Frame K
  frame_of f = record { table = f.table; index = f.index; bound = option_map (λ b. b.1) f.bound }

  abbrev pub frames_of : CursorState K → List (machine.Frame K)
  frames_of c = frame_of c.top ∷ map frame_of c.below

module _ {K V : Type 0} where
  -- the reply of a decision
  abbrev pub reply_in : Outcome K V → Option (KeptReply K V)
  reply_in (OutcomeReply r) = Some r
  reply_in OutcomeEnded = None
  reply_in OutcomeRefused = None

  -- an insertion that makes the table larger has yet to count its pair
  abbrev pub mode_of_grow_for : GrowFor K V → Mode K V
  mode_of_grow_for (ForInsert r) = Done (reply_in r) 1 0
  mode_of_grow_for ForReserve = Done None 0 0

  abbrev pub mode_of_end : Outcome K V → Mode K V
  mode_of_end (OutcomeReply r) = Done (Some r) 0 0
  mode_of_end OutcomeEnded = Done None 0 0
  mode_of_end OutcomeRefused = Finished

  abbrev pub mode_over : SweepKind → CursorState K → Mode K V
  mode_over Reads c = Walking c.base c.index (frames_of c)
  mode_over (Wipes n) c = Clearing n c.base c.index (frames_of c)

  -- a walk has nothing to count
  abbrev pub mode_at_total : SweepKind → Mode K V
  mode_at_total Reads = Finished
  mode_at_total (Wipes n) = Done None 0 n

  abbrev pub mode_of_sweep : SweepStage K V → SweepKind → Mode K V
  mode_of_sweep AtSweepStart w = Locating
  mode_of_sweep (OverBins c) w = mode_over w c
  mode_of_sweep AtTotal w = mode_at_total w
  mode_of_sweep (AtEnd r) w = mode_of_end r
  mode_of_sweep AfterEnd w = Finished

abbrev pub machine_claim : ClaimState → machine.Claim
machine_claim c = record { table = c.range.table; low = c.range.low; left = c.left; high = c.range.high }

abbrev pub claim_of_help : Help → Option machine.Claim
claim_of_help (Moving c) = Some (machine_claim c)
claim_of_help h = None

abbrev pub told_of_help : Help → Option ℕ
told_of_help (Publishing e) = Some e
told_of_help h = None

module _ {K V F : Type 0} where
  abbrev pub mode_of_resume : Resume K V F → Mode K V
  mode_of_resume (ThenBin t e) = Looking e
  mode_of_resume (ThenRecount r) = Done (reply_in r) 0 0
  mode_of_resume (ThenGrow w g) = mode_of_grow_for g

  abbrev pub mode_of_stage : Stage K V F → Mode K V
  mode_of_stage (AtLocate t) = Locating
  mode_of_stage (AtBin t e) = Looking e
  mode_of_stage (AtHelp h a) = mode_of_resume a
  mode_of_stage (AtUncount r) = Done (reply_in r) 0 1
  mode_of_stage (AtCount r) = Done (reply_in r) 1 0
  mode_of_stage (AtRecount r) = Done (reply_in r) 0 0
  mode_of_stage (AtBegin e r) = Done (reply_in r) 0 0
  mode_of_stage (AtGrow w g) = mode_of_grow_for g
  mode_of_stage (AtReserve a) = Locating
  mode_of_stage (AtSweep w) = mode_of_sweep w.stage w.kind
  mode_of_stage (AtDone r) = mode_of_end r
  mode_of_stage AtTaken = Finished

  -- the bins that it holds to move them
  abbrev pub claim_of_stage : Stage K V F → Option machine.Claim
  claim_of_stage (AtHelp h a) = claim_of_help h
  claim_of_stage s = None

  -- the table whose growth it was told to publish
  abbrev pub told_of_stage : Stage K V F → Option ℕ
  told_of_stage (AtHelp h a) = told_of_help h
  told_of_stage s = None

-- ---- what a walk and a clear keep

-- nothing is wiped before the first bin, and a clear alone counts
abbrev pub IsFreshKind : SweepKind → Type 0
IsFreshKind Reads = ⊤
IsFreshKind (Wipes n) = n ≡ 0

abbrev pub IsOfClear : SweepKind → Type 0
IsOfClear Reads = ⊥
IsOfClear (Wipes n) = ⊤

module _ {K : Type 0} (hash : K → ℕ) where
  -- the bound has its key's hash
  abbrev pub IsOwnHash : Option (ℕ × K) → Type 0
  IsOwnHash None = ⊤
  IsOwnHash (Some b) = b.0 ≡ hash b.1

  abbrev pub AreHashed : List (cursor.Frame K) → Type 0
  AreHashed fs = AllByRecursion (λ (f : cursor.Frame K). IsOwnHash f.bound) fs

module _ {K V : Type 0} where
  -- a call without a key has no reply of a call of one key
  abbrev pub HasNoReply : Outcome K V → Type 0
  HasNoReply (OutcomeReply r) = ⊥
  HasNoReply OutcomeEnded = ⊤
  HasNoReply OutcomeRefused = ⊤

  abbrev pub FollowsSweep : (K → ℕ) → SweepStage K V → SweepKind → Type 0
  FollowsSweep hash AtSweepStart w = IsFreshKind w
  FollowsSweep hash (OverBins c) w = AreHashed hash (c.top ∷ c.below)
  FollowsSweep hash AtTotal w = IsOfClear w
  FollowsSweep hash (AtEnd r) w = HasNoReply r
  FollowsSweep hash AfterEnd w = ⊤

-- ---- the machine's state

-- a count of pairs that is at most so far from 0
pub record Near (n : ℕ) (count : ℤ) : Type 0 where
  pub most : count ≤ℤ pos n
  pub least : neg_ℤ (pos n) ≤ℤ count

-- the growth that a board shows
abbrev pub growth_at : PlainBoardState → machine.Growth
growth_at d = record { unclaimed = unclaimed_of d; reported = d.reported }

-- the growth that runs, by its board
abbrev pub growth_of : {K V : Type 0} → Option ℕ → Tables K V → Option machine.Growth
growth_of None t = None
growth_of (Some e) t = option_map growth_at (board_at t e)

module _ {K V F : Type 0} where
  -- the exponent of the table that was opened first
  abbrev pub opened_in : List (Label K V F) → ℕ
  opened_in [] = 0
  opened_in (label.Opened e ∷ t) = e
  opened_in (l ∷ t) = opened_in t

  -- the exponent of the first table
  abbrev pub start_of : Option ℕ → List (Label K V F) → ℕ
  start_of first t = unwrap_or first (opened_in t)

  abbrev pub mode_in : Option (PartyRecord K V F) → Mode K V
  mode_in None = Finished
  mode_in (Some x) = mode_of_stage x.party_state.stage

  abbrev pub claim_in : Option (PartyRecord K V F) → Option machine.Claim
  claim_in None = None
  claim_in (Some x) = claim_of_stage x.party_state.stage

  abbrev pub told_in : Option (PartyRecord K V F) → Option ℕ
  told_in None = None
  told_in (Some x) = told_of_stage x.party_state.stage

  -- what a walk has read last
  abbrev pub seen_in : Option (PartyRecord K V F) → Option (Seen K V)
  seen_in None = None
  seen_in (Some x) = last_seen x.party_state.stage

  -- the walk with whose last read it began
  abbrev pub began_from_in : Option (PartyRecord K V F) → Option ℕ
  began_from_in None = None
  began_from_in (Some x) = x.began_from

  abbrev pub steps_in : Option (PartyRecord K V F) → ℕ
  steps_in None = 0
  steps_in (Some x) = x.steps

  -- the labels of a world in the order in which the laws of a trace have them, the newest first
  abbrev pub history : {S : Type 0} → WorldState K V F S → Trace K V F
  history w = reverse w.trace

  abbrev pub state_of : {S : Type 0} → WorldState K V F S → State K V F
  state_of w = record {
    start = start_of w.first (history w);
    published = w.control_state.published;
    growth = growth_of w.control_state.growth w.tables;
    slot = λ d j. slot_of (content_at w.tables d j);
    parties = length w.party_records;
    call = λ p. option_map (λ (x : PartyRecord K V F). x.call) (slice_get w.party_records p);
    mode = λ p. mode_in (slice_get w.party_records p);
    claim = λ p. claim_in (slice_get w.party_records p);
    told = λ p. told_in (slice_get w.party_records p);
    count = w.control_state.count;
    seen = λ p. seen_in (slice_get w.party_records p);
    began_from = λ p. began_from_in (slice_get w.party_records p);
    steps = λ p. steps_in (slice_get w.party_records p);
    trace = history w;
  }

  -- ---- what a world keeps

  -- a call of one key that may change the map, and has this reply
  pub record HasDecided (c : Call K V F) (r : Outcome K V) : Type 0 where
    pub one_key : IsSome (key_of c)
    pub writes : is_lookup (Some c) ≡ false
    pub reply : IsSome (reply_in r)

  abbrev pub FollowsGrowFor : Call K V F → GrowFor K V → Type 0
  FollowsGrowFor c (ForInsert r) = HasDecided c r
  FollowsGrowFor c ForReserve = (n : ℕ) × (c ≡ call.Reserve n)

  abbrev pub FollowsResume : Call K V F → Resume K V F → Type 0
  FollowsResume c (ThenBin t e) = (task_of_call c ≡ Some t) × (is_lookup (Some c) ≡ false)
  FollowsResume c (ThenRecount r) = HasDecided c r
  FollowsResume c (ThenGrow w g) = FollowsGrowFor c g

  abbrev pub FollowsEnd : Call K V F → Outcome K V → Type 0
  FollowsEnd c (OutcomeReply r) = IsSome (key_of c)
  FollowsEnd c OutcomeEnded = (n : ℕ) × (c ≡ call.Reserve n)
  FollowsEnd c OutcomeRefused = ⊤

  -- what it does at each bin is what the call asks for
  abbrev pub FollowsKind : Call K V F → SweepKind → Option (Seen K V) → Type 0
  FollowsKind c Reads z = c ≡ call.Walk
  FollowsKind c (Wipes n) z = (c ≡ call.Clear) × (z ≡ None)

  module _ (hash : K → ℕ) where
    -- the stage is one of this call
    abbrev pub FollowsStage : Call K V F → Stage K V F → Type 0
    FollowsStage c (AtLocate t) = task_of_call c ≡ Some t
    FollowsStage c (AtBin t e) = task_of_call c ≡ Some t
    FollowsStage c (AtHelp h a) = FollowsResume c a
    FollowsStage c (AtUncount r) = HasDecided c r
    FollowsStage c (AtCount r) = HasDecided c r
    FollowsStage c (AtRecount r) = HasDecided c r
    FollowsStage c (AtBegin e r) = HasDecided c r
    FollowsStage c (AtGrow w g) = FollowsGrowFor c g
    FollowsStage c (AtReserve a) = c ≡ call.Reserve a
    FollowsStage c (AtSweep w) = FollowsKind c w.kind w.last × FollowsSweep hash w.stage w.kind
    FollowsStage c (AtDone r) = FollowsEnd c r
    FollowsStage c AtTaken = ⊤

  -- a call in progress goes by the hash of its key, and its stage is one of its call
  pub record Follows (hash : K → ℕ) (x : PartyRecord K V F) : Type 0 where
    pub own_hash : (k : K) → key_of x.call ≡ Some k → x.party_state.hash ≡ hash k
    pub stage : FollowsStage hash x.call x.party_state.stage

  module _ {S : Type 0} (cmp : K → K → Ordering) (hash : K → ℕ) (gives : F → K → Option V → Verdict V → Type 0) where
    -- The machine's invariant holds of it; its calls stand where calls of their kind can stand; each entry has its key's hash; there is no
    -- table before one is published, and the next one, with its board, while the published one is moved; and no other board has bins that
    -- are left to claim.
    pub record IsWorld (w : WorldState K V F S) : Type 0 where
      pub state : (home : ℕ → ℕ) × Inv cmp hash gives w.first home (state_of w)
      pub party_records : (p : ℕ) (x : PartyRecord K V F) → slice_get w.party_records p ≡ Some x → Follows hash x
      pub hashed : (e i : ℕ) (b : Live K V) → content_at w.tables e i ≡ IsLive b → IsHashed hash b.plain_entries
      pub control_state : IsControl w.control_state
      pub tables : AreTables w.tables
      pub no_table : w.control_state.published ≡ None → (e : ℕ) → slots_of w.tables e ≡ []
      pub next : (e : ℕ) → w.control_state.growth ≡ Some e → (slots_of w.tables (suc e) ≡ [] → ⊥)
      pub running : (e : ℕ) → w.control_state.growth ≡ Some e → IsSome (board_at w.tables e)
      pub over : (e : ℕ) (d : PlainBoardState) → board_at w.tables e ≡ Some d → (w.control_state.growth ≡ Some e → ⊥) → unclaimed_of d ≡ 0

    -- and there are so few labels that no number which counts them, or pairs, is cut off
    pub record IsBounded (w : WorldState K V F S) : Type 0 where
      pub world : IsWorld w
      pub few : length w.trace ≤ MAX_LABELS

    -- party p takes the world w to w' by one transition of the machine
    abbrev pub DoesTransition : WorldState K V F S → ℕ → WorldState K V F S → Type 0
    DoesTransition w p w' = (transition : machine.Transition K V F) × machine.Enabled cmp hash gives (state_of w) p transition × (state_of w' ≡ machine.next_state cmp hash gives (state_of w) p transition)
