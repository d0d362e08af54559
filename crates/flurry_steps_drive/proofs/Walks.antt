-- A walk that is driven leaves the parts as they are.
use Rattle.std.specs.Prelude.{◌≡◌, ℕ, ◌+◌, Option, Some, None, MatchOption, ⊤}
use Rattle.std.specs.declared.cmp.Ordering.{Ordering}
use Rattle.std.proofs.Common.{arith, refl, sym, ◌∙◌, ap, subst, subst₂, inl, inr}
use Rattle.std.proofs.lemmas.Int.{ints}
use Rattle.flurry_bins_slots.specs.Slot.{PlainEntry, Content, IsLive, HasMoved, IsUnborn, next_of_live}
use Rattle.flurry_steps_sweep.specs.Cursor.{CursorState, at_base, after_top}
use Rattle.flurry_steps_sweep.specs.Outcome.{Outcome, OutcomeReply, OutcomeEnded, OutcomeRefused}
use Rattle.flurry_steps_sweep.specs.Sweep as sweep
use Rattle.flurry_steps_sweep.specs.Sweep.{Reads, SweepStage, AtSweepStart, OverBins, AtTotal, AtEnd, AfterEnd, SweepState, WalkGives, SplitGives, ReadGives, BinGives, part_at, start_stage_at, stage_walked, swept_outcome}
use Rattle.flurry_steps_sweep.specs.declared.step.Event.{Event}
use Rattle.flurry_steps_sweep.specs.declared.step.Event.TheVariants as event
use Rattle.flurry_base.specs.declared.call.Call.TheVariants as call
use Rattle.flurry_base.specs.declared.call.Seen.{Seen}
use Rattle.flurry_base.specs.declared.verdict.Verdict.{Verdict}
use Rattle.flurry_steps_stages.specs.Stage.{AtSweep, part_of, published_stage, final_outcome}
use Rattle.flurry_steps.specs.Party.{PartyState}
use Rattle.flurry_steps.specs.PartyControl.{StageAtControl}
use Rattle.flurry_steps.specs.PartySlots.{StageAtSlot}
use Rattle.flurry_steps_theory.specs.Map.{Pairs}
use Rattle.flurry_steps_world.specs.Parts.{Parts, PartStep}
use Rattle.flurry_steps_world.specs.Tables.{PlaceGives}
use Rattle.flurry_steps_world.specs.World.{HasNoReply}
use Rattle.flurry_steps_drive.specs.Exact.{Holds, OutcomeAnswers, IsFresh}
use Rattle.flurry_steps_drive.specs.IsExclusive.{PublishedTableStep, StepsIn}

module _ {K V : Type 0} where
  -- a walk that has ended has no reply of a call of one key
  abbrev pub EndsBare : SweepStage K V → Type 0
  EndsBare (AtEnd r) = HasNoReply r
  EndsBare s = ⊤

  set_out_bare : (o : Option ℕ) (s : SweepStage K V) → s ≡ start_stage_at o → EndsBare s
  set_out_bare None s h = subst EndsBare (sym h) tt
  set_out_bare (Some e) s h = subst EndsBare (sym h) tt

  walked_bare : (o : Option (CursorState K)) (s : SweepStage K V) → s ≡ stage_walked o → EndsBare s
  walked_bare None s h = subst EndsBare (sym h) tt
  walked_bare (Some f) s h = subst EndsBare (sym h) tt

  read_bare : (f : CursorState K) (x : PlainEntry K V) (l : Option (Seen K V)) (ev : Event) (s : SweepStage K V) (l' : Option (Seen K V)) → ReadGives f x l ev s l' → EndsBare s
  read_bare f x l event.Decide s l' h = absurd h
  read_bare f x l event.Read s l' h = subst EndsBare (sym h.0) tt
  read_bare f x l event.Refused s l' h = subst EndsBare (sym h.0) tt
  read_bare f x l ev s l' h = absurd h

  split_bare : (f : CursorState K) (ev : Event) (s : SweepStage K V) → SplitGives f ev s → EndsBare s
  split_bare f event.Decide s h = absurd h
  split_bare f event.Silent s h = subst EndsBare (sym h) tt
  split_bare f event.Refused s h = subst EndsBare (sym h.0) tt
  split_bare f ev s h = absurd h

  entry_bare : (f : CursorState K) (o : Option (PlainEntry K V)) (l : Option (Seen K V)) (ev : Event) (s : SweepStage K V) (l' : Option (Seen K V)) → MatchOption o ((ev ≡ event.Silent) × (s ≡ stage_walked (after_top f)) × (l' ≡ l)) (λ x. ReadGives f x l ev s l') → EndsBare s
  entry_bare f None l ev s l' h = walked_bare (after_top f) s h.1
  entry_bare f (Some x) l ev s l' h = read_bare f x l ev s l' h

  walk_bare : (cmp : K → K → Ordering) (f : CursorState K) (c : Content K V) (l : Option (Seen K V)) (ev : Event) (s : SweepStage K V) (l' : Option (Seen K V)) → WalkGives cmp f c l ev s l' → EndsBare s
  walk_bare cmp f (IsLive b) l ev s l' h = entry_bare f (next_of_live cmp f.top.bound b) l ev s l' h
  walk_bare cmp f HasMoved l ev s l' h = split_bare f ev s h.0
  walk_bare cmp f IsUnborn l ev s l' h = subst EndsBare (sym h.1) tt

module _ {K V F : Type 0} where
  -- c is a walk, and the parts s are those that it began over
  pub record IsWalking (began : Parts K V) (s : Parts K V) (c : PartyState K V F) : Type 0 where
    pub sweep_state : SweepState K V
    pub stage : c.stage ≡ AtSweep sweep_state
    pub reads : sweep_state.kind ≡ Reads
    pub bare : EndsBare sweep_state.stage
    pub parts : s ≡ began

module _ {K V F : Type 0} (cmp : K → K → Ordering) (changes : F → K → Option V → Verdict V → Type 0) (began s s' : Parts K V) (c c' : PartyState K V F) (ev : Event) where
  module _ (u : SweepState K V) (e : c.stage ≡ AtSweep u) (reads : u.kind ≡ Reads) where
    at_part : (a : SweepStage K V) → u.stage ≡ a → PartStep cmp changes (part_at Reads a) c s.control_state s.tables ev c' s'.control_state s'.tables → IsWalking s s' c'
    at_part AtSweepStart f h =
        let (u', g, did, same_tables) = subst (λ z. StageAtControl PlaceGives c.processors c.helped z s.control_state s.tables ev c'.stage s'.control_state s'.tables) e h.step in
        let (at, same_control) = subst (λ z. sweep.StageAtControl u.kind z s.control_state u'.stage s'.control_state) f did.step in
        record { sweep_state = u'; stage = g; reads = did.kind ∙ reads; bare = set_out_bare s.control_state.published u'.stage at; parts = λ i. record { control_state = same_control i; tables = same_tables i } }
    at_part (OverBins f) over (q, there, inside, h, same_control, same_tables) =
        let (u', g, gives) = subst (λ z. StageAtSlot cmp changes c.hash z q.content ev c'.stage q.content) e h.step in
        let (kind, walk, same) = subst₂ (λ w a. BinGives cmp w a u.last q.content ev u' q.content) reads over gives in
        record { sweep_state = u'; stage = g; reads = kind; bare = walk_bare cmp f q.content u.last ev u'.stage u'.last walk; parts = λ i. record { control_state = same_control i; tables = same_tables i } }
    at_part AtTotal f h =
        let (u', g, did, same_tables) = subst (λ z. StageAtControl PlaceGives c.processors c.helped z s.control_state s.tables ev c'.stage s'.control_state s'.tables) e h.step in
        absurd (subst₂ (λ w a. sweep.StageAtControl w a s.control_state u'.stage s'.control_state) reads f did.step)
    at_part (AtEnd r) f h = absurd h
    at_part AfterEnd f h = absurd h

  started : IsWalking began s c → PublishedTableStep cmp changes c s ev c' s' → IsWalking s s' c'
  started is h = record {
    sweep_state = sweep.with_stage is.sweep_state (OverBins (at_base h.table 0));
    stage = ap (λ z. z.stage) h.party_state ∙ ap (published_stage h.table) is.stage;
    reads = is.reads;
    bare = tt;
    parts = h.parts;
  }

  -- a step of a walk
  pub walk_step : StepsIn cmp changes c s ev c' s' → IsWalking began s c → IsWalking began s' c'
  walk_step does is = since (by_kind does)
    where
      since : IsWalking s s' c' → IsWalking began s' c'
      since more = record { sweep_state = more.sweep_state; stage = more.stage; reads = more.reads; bare = more.bare; parts = more.parts ∙ is.parts }

      by_kind : StepsIn cmp changes c s ev c' s' → IsWalking s s' c'
      by_kind (inl h) = at_part is.sweep_state is.stage is.reads is.sweep_state.stage refl (subst (λ w. PartStep cmp changes (part_at w is.sweep_state.stage) c s.control_state s.tables ev c' s'.control_state s'.tables) is.reads (subst (λ z. PartStep cmp changes (part_of c.hash z) c s.control_state s.tables ev c' s'.control_state s'.tables) is.stage h))
      by_kind (inr h) = started is h

module _ {K V F : Type 0} (cmp : K → K → Ordering) (hash : K → ℕ) (changes : F → K → Option V → Verdict V → Type 0) where
  -- a walk before its first step
  pub walk_begins : (s : Parts K V) (c : PartyState K V F) → IsFresh cmp hash changes call.Walk c → IsWalking s s c
  walk_begins s c fresh = record { sweep_state = sweep.fresh_sweep Reads; stage = fresh.stage; reads = refl; bare = tt; parts = refl }

  module _ (n : ℕ) (m : Pairs K V) (began s : Parts K V) (h : Holds cmp hash changes n began m) where
    -- and once it is done
    pub walk_ends : (c : PartyState K V F) (r : Outcome K V) → final_outcome c.stage ≡ Some r → IsWalking began s c → (m' : Pairs K V) × OutcomeAnswers cmp hash changes call.Walk m r m' × Holds cmp hash changes (n + 0) s m'
    walk_ends c r done is = (m, answers is.sweep_state.stage (sym (ap final_outcome is.stage) ∙ done) is.bare, subst (λ z. Holds cmp hash changes (n + 0) z m) (sym is.parts) (record { world = h.world; is_world = h.is_world; control_state = h.control_state; tables = h.tables; map = h.map; near = record { most = omega (arith, ints, h.near.most); least = omega (arith, ints, h.near.least) } }))
      where
        by_reply : (q : Outcome K V) → HasNoReply q → OutcomeAnswers cmp hash changes call.Walk m q m
        by_reply (OutcomeReply q) bare = absurd bare
        by_reply OutcomeEnded bare = refl
        by_reply OutcomeRefused bare = (tt, refl)

        answers : (a : SweepStage K V) → swept_outcome a ≡ Some r → EndsBare a → OutcomeAnswers cmp hash changes call.Walk m r m
        answers (AtEnd q) g bare = let one : q ≡ r = cc in subst (λ z. OutcomeAnswers cmp hash changes call.Walk m z m) one (by_reply q bare)
        answers AtSweepStart g bare = cc
        answers (OverBins f) g bare = cc
        answers AtTotal g bare = cc
        answers AfterEnd g bare = cc
