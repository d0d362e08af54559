-- Each step of a walk or a clear at the part that it wants is a transition of the machine.
use Rattle.std.specs.Prelude.{◌≡◌, ◌⊎◌, ℕ, pos, neg_ℤ, ◌+ℤ◌, ◌-ℤ◌, ◌≤ℤ◌, suc, ◌+◌, ◌-◌, ◌^◌, ◌≤◌, ◌==◌, ◌&&◌, min, Bool, true, false, [], ◌∷◌, find, length, map, slice_get, Option, Some, None, IsSome, MatchOption, option_map, if◌then◌else◌}
use Rattle.std.specs.declared.cmp.Ordering.{Ordering}
use Rattle.std.specs.Cmp.{IsTotalOrder}
use Rattle.std.specs.Int.{saturate_signed, w64}
use Rattle.std.proofs.Common.{arith, refl, sym, ◌∙◌, ap, subst, subst₂, inl, inr}
use Rattle.std.proofs.lemmas.Int.{ints}
use Rattle.std.proofs.lemmas.List.{length-reverse}
use Rattle.std.proofs.lemmas.Option.{slice_get_within}
use Rattle.flurry_base.specs.HashOrder.{is_pair_past}
use Rattle.flurry_base.specs.declared.call.Call.TheVariants as call
use Rattle.flurry_base.specs.declared.call.Seen.{Seen}
use Rattle.flurry_base.specs.declared.sizes.TheConstants.{MAX_LABELS}
use Rattle.flurry_base.specs.declared.verdict.Verdict.{Verdict}
use Rattle.flurry_bins_slots.specs.Slot as slots
use Rattle.flurry_bins_slots.specs.Slot.{PlainEntry, Content, IsLive, HasMoved, IsUnborn, after_wipe}
use Rattle.flurry_steps_control.specs.Control as control
use Rattle.flurry_steps_control.specs.Control.{ControlState}
use Rattle.flurry_steps_sweep.specs.Outcome.{OutcomeEnded, OutcomeRefused}
use Rattle.flurry_steps_sweep.specs.Cursor.{CursorState, at_base, after_split, after_top}
use Rattle.flurry_steps_sweep.specs.Sweep as sweep
use Rattle.flurry_steps_sweep.specs.Sweep.{SweepKind, Reads, Wipes, SweepStage, AtSweepStart, OverBins, AtTotal, AtEnd, AfterEnd, SweepState, WalkGives, ClearGives, SplitGives, ReadGives, BinGives, part_at, bin_part, start_stage_at, more_wiped, stage_walked, stage_cleared}
use Rattle.flurry_steps_sweep.specs.declared.step.Event.{Event}
use Rattle.flurry_steps_sweep.specs.declared.step.Event.TheVariants as event
use Rattle.flurry_steps_stages.specs.Stage.{AtSweep, part_of, last_seen}
use Rattle.flurry_steps.specs.Party.{PartyState}
use Rattle.flurry_steps.specs.PartyControl.{StageAtControl, ControlStep}
use Rattle.flurry_steps.specs.PartySlots.{StageAtSlot}
use Rattle.flurry_steps_theory.specs.Map.{same}
use Rattle.flurry_steps_theory.specs.Bin.{first_past}
use Rattle.flurry_steps_theory.specs.Trace.{is_lookup}
use Rattle.flurry_steps_theory.specs.Legal.{IsWalk, IsClear}
use Rattle.flurry_steps_theory.specs.Machine as machine
use Rattle.flurry_steps_theory.specs.Machine.{Transition, Enabled, effect, goes, next_state, Mode, Walking, Clearing, Done, Live, update2, total as sum, owes_removed, RefusedAt, Quiet, Counts, Finds, FindsNothing, IsRefused, Reads as ReadsOne, Leaves, Splits, Wipes as WipesBin, SplitsClear}
use Rattle.flurry_steps_theory.proofs.Ranges.{part-total, place_here}
use Rattle.flurry_steps_theory.proofs.Step.{inv_step}
use Rattle.flurry_steps_theory.specs.declared.Label.{Label}
use Rattle.flurry_steps_theory.specs.declared.Label.TheVariants as label
use Rattle.flurry_steps_world.specs.Entries.{slot_of, entry_of_held, machine_entries, IsHashed}
use Rattle.flurry_steps_world.specs.Tables.{Tables, content_at, PlaceGives}
use Rattle.flurry_steps_world.specs.Parts.{PartStep}
use Rattle.flurry_steps_world.specs.World.{PartyRecord, WorldState, Near, state_of, mode_of_stage, mode_of_sweep, mode_over, frame_of, frames_of, AreHashed, FollowsKind, FollowsSweep, FollowsStage, IsWorld, history}
use Rattle.flurry_steps_world.specs.Steps.{label_of, read_label, with_step}
use Rattle.flurry_steps_world.proofs.StateLaws.{held_of_stage, IsTransition, is_step}
use Rattle.flurry_steps_world.proofs.EntryLaws.{length-machine_entries}
use Rattle.flurry_steps_world.proofs.TableLaws.{content_of_place}
use Rattle.flurry_steps_world.proofs.PlaceLaws.{same_live}
use Rattle.flurry_steps_world.proofs.Frames.{same_growth, same_frame, counted_frame, running_on, over_on, StepOf, step_of, in_range}
use Rattle.flurry_steps_world.proofs.TransitionLaws.{is_goes, is_quiet, is_finds, is_refused, is_counted, is_wiped, does_read}
use Rattle.flurry_steps_world.proofs.SlotCases.{Put, put_nothing}
use Rattle.flurry_steps_world.proofs.PartyCases.{put_other}
use Rattle.flurry_steps_world.proofs.SweepLaws.{looks_not}
use Rattle.flurry_steps_world.proofs.SweepModes.{begins_over, halved_frames, walked, cleared, owes_onward, walked_hashed, cleared_hashed, found_hashed, next_entry}
use Rattle.flurry_steps_world.proofs.Cases.{calls, in_mode, in_claim}

module _ {K V F S : Type 0} (cmp : K → K → Ordering) (total : IsTotalOrder cmp) (hash : K → ℕ) (lawful : (j k : K) → same cmp j k ≡ true → hash j ≡ hash k) (gives : F → K → Option V → Verdict V → Type 0) (w : WorldState K V F S) (k : IsWorld cmp hash gives w) (near : Near (2 ^ 62) w.control_state.count) (few : length w.trace ≤ MAX_LABELS) (p : ℕ) (x : PartyRecord K V F) (at : slice_get w.party_records p ≡ Some x) (c : PartyState K V F) (ev : Event) (b : ControlState) (t' : Tables K V) (u : SweepState K V) (e : x.party_state.stage ≡ AtSweep u) where
  own : FollowsStage hash x.call (AtSweep u)
  own = subst (FollowsStage hash x.call) e (k.party_records p x at).stage

  called : (state_of w).call p ≡ Some x.call
  called = calls cmp total hash lawful gives w k p x at c

  in_stage : (state_of w).mode p ≡ mode_of_sweep u.stage u.kind
  in_stage = in_mode cmp total hash lawful gives w k p x at c (AtSweep u) e

  free : (state_of w).claim p ≡ None
  free = in_claim cmp total hash lawful gives w k p x at c (AtSweep u) e

  -- the sweep after the step
  module _ (u' : SweepState K V) (g : c.stage ≡ AtSweep u') (hashed : c.hash ≡ x.party_state.hash) where
    unclaimed : held_of_stage c.stage ≡ held_of_stage x.party_state.stage
    unclaimed = ap held_of_stage g ∙ sym (ap held_of_stage e)

    unread : u'.last ≡ u.last → last_seen c.stage ≡ last_seen x.party_state.stage
    unread h = ap last_seen g ∙ h ∙ sym (ap last_seen e)

    after_mode : (m : Mode K V) → mode_of_sweep u'.stage u'.kind ≡ m → mode_of_stage c.stage ≡ m
    after_mode m h = ap mode_of_stage g ∙ h

    goes_on : FollowsKind x.call u'.kind u'.last → FollowsSweep hash u'.stage u'.kind → FollowsStage hash x.call c.stage
    goes_on f s = subst (FollowsStage hash x.call) (sym g) (f, s)

    -- a step that leaves the control and the tables
    one : (lab : Label K V F) (transition : Transition K V F) → u'.last ≡ u.last → Enabled cmp hash gives (state_of w) p transition → IsTransition cmp hash gives w p w.control_state w.tables c lab transition → FollowsStage hash x.call c.stage → StepOf cmp hash gives w p x w.control_state w.tables c lab
    one lab transition last can is follows = step_of cmp hash gives w p x w.control_state w.tables c lab at hashed (unread last) (record { transition = transition; can = can; is = is; follows = follows; frame = same_frame cmp hash gives w k })

    -- that changes the mode alone
    moves_on : (transition : Transition K V F) (m : Mode K V) → effect cmp hash gives (state_of w) p transition ≡ goes cmp hash gives (state_of w) p m → label.Silent p ≡ machine.label cmp hash gives p transition → is_step transition ≡ true
        → u'.last ≡ u.last → Enabled cmp hash gives (state_of w) p transition → mode_of_sweep u'.stage u'.kind ≡ m → FollowsStage hash x.call c.stage → StepOf cmp hash gives w p x w.control_state w.tables c (label.Silent p)
    moves_on transition m is named own last can mode follows = one (label.Silent p) transition last can (is_goes cmp hash gives w p x at c (label.Silent p) transition m is named own refl (after_mode m mode) unclaimed) follows

    -- that changes nothing which the machine sees
    rests : is_lookup (Some x.call) ≡ false → u'.last ≡ u.last → mode_of_sweep u'.stage u'.kind ≡ mode_of_sweep u.stage u.kind → FollowsStage hash x.call c.stage → StepOf cmp hash gives w p x w.control_state w.tables c (label.Silent p)
    rests writes last mode follows = one (label.Silent p) Quiet last (λ h. absurd (let no : true ≡ false = sym h ∙ ap is_lookup called ∙ writes in cc)) (is_quiet cmp hash gives w p x at c (after_mode _ mode ∙ sym in_stage) unclaimed) follows

    -- that was refused memory
    is_out : u'.last ≡ u.last → RefusedAt cmp hash gives (state_of w) x.call (mode_of_sweep u.stage u.kind) → u'.stage ≡ AtEnd OutcomeRefused → FollowsKind x.call u'.kind u'.last → StepOf cmp hash gives w p x w.control_state w.tables c (label.Refused p)
    is_out last may s f = one (label.Refused p) IsRefused last (x.call, called, free, subst (RefusedAt cmp hash gives (state_of w) x.call) (sym in_stage) may)
        (is_refused cmp hash gives w p x at c (after_mode _ (ap (λ z. mode_of_sweep z u'.kind) s)) unclaimed) (goes_on f (subst (λ z. FollowsSweep hash z u'.kind) (sym s) tt))

  keeps_errand : (u' : SweepState K V) → u'.kind ≡ u.kind → u'.last ≡ u.last → FollowsKind x.call u'.kind u'.last
  keeps_errand u' q r = subst (λ z. FollowsKind x.call z u'.last) (sym q) (subst (FollowsKind x.call u.kind) (sym r) own.0)

  sweeps_all : (er : SweepKind) (z : Option (Seen K V)) → FollowsKind x.call er z → IsWalk x.call ⊎ IsClear x.call
  sweeps_all Reads z f = inl f
  sweeps_all (Wipes n) z f = inr f.0

  -- ---- at the control

  -- it asks for the published table
  is_at_start : (u' : SweepState K V) → c.stage ≡ AtSweep u' → c.hash ≡ x.party_state.hash → u.stage ≡ AtSweepStart → u'.kind ≡ u.kind → u'.last ≡ u.last → (o : Option ℕ) → w.control_state.published ≡ o → u'.stage ≡ start_stage_at o → StepOf cmp hash gives w p x w.control_state w.tables c (label.Silent p)
  is_at_start u' g hashed s q r None bare h =
      moves_on u' g hashed FindsNothing (Done None 0 0) refl refl refl r (x.call, called, in_stage ∙ ap (λ z. mode_of_sweep z u.kind) s, bare, sweeps_all u.kind u.last own.0) (ap (λ z. mode_of_sweep z u'.kind) h)
      (goes_on u' g hashed (keeps_errand u' q r) (subst (λ z. FollowsSweep hash z u'.kind) (sym h) tt))
  is_at_start u' g hashed s q r (Some a) there h =
      one u' g hashed (label.Silent p) (Finds a) r (x.call, called, in_stage ∙ ap (λ z. mode_of_sweep z u.kind) s, ((k.state.1.tables.from a there).0, a, there, omega arith))
      (is_finds cmp hash gives w p x at c a (after_mode u' g hashed _ (ap (λ z. mode_of_sweep z u'.kind) h ∙ ap (λ z. mode_over z (at_base a 0)) q ∙ begins_over x.call u.kind u.last a own.0 (subst (λ z. FollowsSweep hash z u.kind) s own.1))) (unclaimed u' g hashed))
      (goes_on u' g hashed (keeps_errand u' q r) (subst (λ z. FollowsSweep hash z u'.kind) (sym h) (tt, tt)))

  -- a clear counts what it wiped
  totals : (u' : SweepState K V) → c.stage ≡ AtSweep u' → c.hash ≡ x.party_state.hash → (n : ℕ) → u.stage ≡ AtTotal → u.kind ≡ Wipes n → u'.kind ≡ u.kind → u'.last ≡ u.last → u'.stage ≡ AtEnd OutcomeEnded
      → StepOf cmp hash gives w p x (control.after_count (neg_ℤ (pos (min n (2 ^ 63 - 1)))) w.control_state) w.tables c (label.Silent p)
  totals u' g hashed n s er q r h = step_of cmp hash gives w p x _ w.tables c (label.Silent p) at hashed (unread u' g hashed r) (record {
    transition = Counts (λ q. p == q);
    can = ap is_lookup called ∙ looks_not x.call u.kind u.last own.0;
    is = is_counted cmp hash gives w p x at c None 0 n _ before summed (after_mode u' g hashed _ (ap (λ z. mode_of_sweep z u'.kind) h)) (unclaimed u' g hashed);
    follows = goes_on u' g hashed (keeps_errand u' q r) (subst (λ z. FollowsSweep hash z u'.kind) (sym h) tt);
    frame = counted_frame cmp hash gives w _ k;
  })
    where
      before : (state_of w).mode p ≡ Done None 0 n
      before = in_stage ∙ ap (λ z. mode_of_sweep z u.kind) s ∙ ap (mode_of_sweep AtTotal) er

      owed : n ≤ sum (λ q. owes_removed ((state_of w).mode q)) (length w.party_records)
      owed = subst (λ m. m ≤ sum (λ q. owes_removed ((state_of w).mode q)) (length w.party_records)) (ap owes_removed before) (part-total (λ q. owes_removed ((state_of w).mode q)) p (length w.party_records) (slice_get_within w.party_records p x at))

      long : length (history w) ≡ length w.trace
      long = length-reverse w.trace

      most : n ≤ 2 ^ 62
      most = omega (arith, owed, k.state.1.counted.size_bound, long, few)

      whole : min n (2 ^ 63 - 1) ≡ n
      whole = grind (arith, most)

      above : neg_ℤ (pos (suc (2 ^ 62))) ≤ℤ (w.control_state.count +ℤ neg_ℤ (pos n))
      above = omega (arith, ints, owed, k.state.1.counted.balance, k.state.1.counted.debt_bound, long, few)

      below : (w.control_state.count +ℤ neg_ℤ (pos n)) ≤ℤ pos (suc (2 ^ 62))
      below = omega (arith, ints, near.most)

      summed : saturate_signed w64 (w.control_state.count +ℤ neg_ℤ (pos (min n (2 ^ 63 - 1)))) ≡ w.control_state.count +ℤ pos 0 -ℤ pos n
      summed = ap (λ m. saturate_signed w64 (w.control_state.count +ℤ neg_ℤ (pos m))) whole ∙ in_range (w.control_state.count +ℤ neg_ℤ (pos n)) (2 ^ 62) (omega arith) below above ∙ omega (arith, ints)

  at_control : (u' : SweepState K V) → c.stage ≡ AtSweep u' → c.hash ≡ x.party_state.hash → (s : SweepStage K V) (er : SweepKind) → u.stage ≡ s → u.kind ≡ er → ev ≡ event.Silent → u'.kind ≡ u.kind → u'.last ≡ u.last → sweep.StageAtControl er s w.control_state u'.stage b → t' ≡ w.tables → StepOf cmp hash gives w p x b t' c (label_of p ev c.stage)
  at_control u' g hashed AtSweepStart Reads s er v q r (h, y) z = rw (v, y, z) (is_at_start u' g hashed s q r w.control_state.published refl h)
  at_control u' g hashed AtSweepStart (Wipes n) s er v q r (h, y) z = rw (v, y, z) (is_at_start u' g hashed s q r w.control_state.published refl h)
  at_control u' g hashed (OverBins f) Reads s er v q r h z = absurd h
  at_control u' g hashed (OverBins f) (Wipes n) s er v q r h z = absurd h
  at_control u' g hashed AtTotal Reads s er v q r h z = absurd h
  at_control u' g hashed AtTotal (Wipes n) s er v q r (h, y) z = rw (v, y, z) (totals u' g hashed n s er q r h)
  at_control u' g hashed (AtEnd o) Reads s er v q r h z = absurd h
  at_control u' g hashed (AtEnd o) (Wipes n) s er v q r h z = absurd h
  at_control u' g hashed AfterEnd Reads s er v q r h z = absurd h
  at_control u' g hashed AfterEnd (Wipes n) s er v q r h z = absurd h

  control_step : ControlStep PlaceGives x.party_state w.control_state w.tables ev c b t' → StepOf cmp hash gives w p x b t' c (label_of p ev c.stage)
  control_step h =
      let (u', g, s, z) = subst (λ z. StageAtControl PlaceGives x.party_state.processors x.party_state.helped z w.control_state w.tables ev c.stage b t') e h.step in
      at_control u' g h.hash u.stage u.kind refl refl s.silent s.kind s.last s.step z

  -- ---- at a bin

  module _ (f : CursorState K) (over : u.stage ≡ OverBins f) (u' : SweepState K V) (g : c.stage ≡ AtSweep u') (hashed : c.hash ≡ x.party_state.hash) (content : Content K V) (here : content_at w.tables f.top.table f.top.index ≡ content) where
    bounds : AreHashed hash (f.top ∷ f.below)
    bounds = subst (λ z. FollowsSweep hash z u.kind) over own.1

    -- a walk
    module _ (reads : u.kind ≡ Reads) (kind : u'.kind ≡ Reads) where
      is_walk : x.call ≡ call.Walk
      is_walk = subst (λ z. FollowsKind x.call z u.last) reads own.0

      follows : FollowsKind x.call u'.kind u'.last
      follows = subst (λ z. FollowsKind x.call z u'.last) (sym kind) is_walk

      walking : (state_of w).mode p ≡ Walking f.base f.index (frames_of f)
      walking = in_stage ∙ ap (λ z. mode_of_sweep z u.kind) over ∙ ap (λ z. mode_over z f) reads

      to : (s : SweepStage K V) → u'.stage ≡ s → mode_of_sweep u'.stage u'.kind ≡ mode_of_sweep s Reads
      to s h = ap (λ z. mode_of_sweep z u'.kind) h ∙ ap (mode_of_sweep s) kind

      arrives : (s : SweepStage K V) → u'.stage ≡ s → FollowsSweep hash s Reads → FollowsStage hash x.call c.stage
      arrives s h y = goes_on u' g hashed follows (subst (λ z. FollowsSweep hash z u'.kind) (sym h) (subst (FollowsSweep hash s) (sym kind) y))

      refused : u'.last ≡ u.last → RefusedAt cmp hash gives (state_of w) x.call (Walking f.base f.index (frames_of f)) → u'.stage ≡ AtEnd OutcomeRefused → StepOf cmp hash gives w p x w.control_state w.tables c (label.Refused p)
      refused last may h = is_out u' g hashed last (subst (RefusedAt cmp hash gives (state_of w) x.call) (sym walking ∙ in_stage) may) h follows

      at_entry : (d : slots.Live K V) → content ≡ IsLive d → (y : PlainEntry K V) → find (is_pair_past cmp f.top.bound) d.plain_entries ≡ Some y → (v : Event) → ReadGives f y u.last v u'.stage u'.last → StepOf cmp hash gives w p x w.control_state w.tables c (label_of p v c.stage)
      at_entry d live y next event.Read (h, last) = subst (λ o. StepOf cmp hash gives w p x w.control_state w.tables c (read_label p o)) (sym seen) (record {
        hash_stays = hashed;
        transition = ReadsOne f.base f.index (frame_of f.top) (map frame_of f.below) (machine_entries d.plain_entries) d.writes (entry_of_held y);
        can = (walking, slot_here, first);
        after = does_read cmp hash gives w p x at c f.base f.index (frame_of f.top) (map frame_of f.below) (machine_entries d.plain_entries) d.writes (entry_of_held y) (after_mode u' g hashed _ (to _ h)) (unclaimed u' g hashed) seen;
        follows = arrives _ h (found_hashed hash (is_pair_past cmp f.top.bound) d.plain_entries y hashes next, bounds.1);
        frame = same_frame cmp hash gives w k;
      })
        where
          seen : last_seen c.stage ≡ Some (sweep.seen_at y)
          seen = ap last_seen g ∙ last

          hashes : IsHashed hash d.plain_entries
          hashes = k.hashed f.top.table f.top.index d (here ∙ live)

          slot_here : (state_of w).slot f.top.table f.top.index ≡ Live (machine_entries d.plain_entries) d.writes
          slot_here = ap slot_of (here ∙ live)

          first : first_past cmp hash (option_map (λ b. b.1) f.top.bound) (machine_entries d.plain_entries) ≡ Some (entry_of_held y)
          first = next_entry cmp total hash lawful f.top.bound d.plain_entries bounds.0 hashes ∙ ap (option_map entry_of_held) next
      at_entry d live y next event.Decide h = absurd h
      at_entry d live y next event.Refused (h, last) = refused last (inl (machine_entries d.plain_entries, d.writes, ap slot_of (here ∙ live), subst IsSome (sym (next_entry cmp total hash lawful f.top.bound d.plain_entries bounds.0 (k.hashed f.top.table f.top.index d (here ∙ live)) ∙ ap (option_map entry_of_held) next)) refl)) h
      at_entry d live y next _ h = absurd h

      at_live : (d : slots.Live K V) → content ≡ IsLive d → (o : Option (PlainEntry K V)) → find (is_pair_past cmp f.top.bound) d.plain_entries ≡ o
          → MatchOption o ((ev ≡ event.Silent) × (u'.stage ≡ stage_walked (after_top f)) × (u'.last ≡ u.last)) (λ y. ReadGives f y u.last ev u'.stage u'.last) → StepOf cmp hash gives w p x w.control_state w.tables c (label_of p ev c.stage)
      at_live d live None next (v, h, last) = rw v (moves_on u' g hashed (Leaves f.base f.index (frame_of f.top) (map frame_of f.below) (machine_entries d.plain_entries) d.writes) _ refl refl refl last
          (walking, ap slot_of (here ∙ live), next_entry cmp total hash lawful f.top.bound d.plain_entries bounds.0 (k.hashed f.top.table f.top.index d (here ∙ live)) ∙ ap (option_map entry_of_held) next)
          (to _ h ∙ walked f.base f.index f.below) (arrives _ h (walked_hashed V hash f.base f.index f.below Reads bounds.1)))
      at_live d live (Some y) next h = at_entry d live y next ev h

      at_moved : content ≡ HasMoved → (v : Event) → SplitGives f v u'.stage → u'.last ≡ u.last → StepOf cmp hash gives w p x w.control_state w.tables c (label_of p v c.stage)
      at_moved moved event.Silent h last = moves_on u' g hashed (Splits f.base f.index (frame_of f.top) (map frame_of f.below)) _ refl refl refl last (walking, ap slot_of (here ∙ moved)) (to _ h ∙ ap (Walking f.base f.index) (halved_frames f)) (arrives _ h (bounds.0, (bounds.0, bounds.1)))
      at_moved moved event.Refused (h, bound) last = refused last (inr (ap slot_of (here ∙ moved), has_key f.top.bound bound)) h
        where
          has_key : (o : Option (ℕ × K)) → IsSome o → IsSome (option_map (λ b. b.1) o)
          has_key None y = grind (arith, y)
          has_key (Some z) y = refl
      at_moved moved v h last = absurd h

      walks : (z : Content K V) → content ≡ z → WalkGives cmp f z u.last ev u'.stage u'.last → StepOf cmp hash gives w p x w.control_state w.tables c (label_of p ev c.stage)
      walks (IsLive d) live h = at_live d live (find (is_pair_past cmp f.top.bound) d.plain_entries) refl h
      walks HasMoved moved (h, last) = at_moved moved ev h last
      walks IsUnborn unborn (v, h, last) = rw v (rests u' g hashed (looks_not x.call u.kind u.last own.0) last (to _ h ∙ sym (ap (λ z. mode_of_sweep z u.kind) over ∙ ap (λ z. mode_over z f) reads)) (arrives _ h bounds))

    -- a clear
    module _ (n : ℕ) (wipes : u.kind ≡ Wipes n) (last : u'.last ≡ u.last) where
      is_clear : (x.call ≡ call.Clear) × (u.last ≡ None)
      is_clear = subst (λ z. FollowsKind x.call z u.last) wipes own.0

      clearing : (state_of w).mode p ≡ Clearing n f.base f.index (frames_of f)
      clearing = in_stage ∙ ap (λ z. mode_of_sweep z u.kind) over ∙ ap (λ z. mode_over z f) wipes

      to_clear : (m : ℕ) (s : SweepStage K V) → u'.kind ≡ Wipes m → u'.stage ≡ s → mode_of_sweep u'.stage u'.kind ≡ mode_of_sweep s (Wipes m)
      to_clear m s q h = ap (λ z. mode_of_sweep z u'.kind) h ∙ ap (mode_of_sweep s) q

      reaches : (m : ℕ) (s : SweepStage K V) → u'.kind ≡ Wipes m → u'.stage ≡ s → FollowsSweep hash s (Wipes m) → FollowsStage hash x.call c.stage
      reaches m s q h y = goes_on u' g hashed (subst (λ z. FollowsKind x.call z u'.last) (sym q) (is_clear.0, last ∙ is_clear.1)) (subst (λ z. FollowsSweep hash z u'.kind) (sym h) (subst (FollowsSweep hash s) (sym q) y))

      module _ (d : slots.Live K V) (live : content ≡ IsLive d) where
        abbrev transition : Transition K V F
        transition = WipesBin n f.base f.index (frame_of f.top) (map frame_of f.below) (machine_entries d.plain_entries) d.writes

        can_wipe : Enabled cmp hash gives (state_of w) p transition
        can_wipe = (clearing, ap slot_of (here ∙ live))

        -- what is wiped is so little that no number cuts it off
        all_counted : more_wiped n (length d.plain_entries) ≡ n + length (machine_entries d.plain_entries)
        all_counted =
            let next = inv_step cmp total hash lawful gives w.first k.state.0 (state_of w) p transition can_wipe k.state.1 in
            let one : owes_removed ((next_state cmp hash gives (state_of w) p transition).mode p) ≤ sum (λ q. owes_removed ((next_state cmp hash gives (state_of w) p transition).mode q)) (length w.party_records) = part-total (λ q. owes_removed ((next_state cmp hash gives (state_of w) p transition).mode q)) p (length w.party_records) (slice_get_within w.party_records p x at) in
            let mine : owes_removed ((next_state cmp hash gives (state_of w) p transition).mode p) ≡ n + length (machine_entries d.plain_entries) = ap owes_removed (place_here (state_of w).mode p _) ∙ owes_onward K V (n + length (machine_entries d.plain_entries)) f.base f.index (map frame_of f.below) in
            let plain_entries : sum (λ q. owes_removed ((next_state cmp hash gives (state_of w) p transition).mode q)) (length w.party_records) ≤ suc (length (history w)) = omega (arith, next.counted.size_bound) in
            let long : length (history w) ≡ length w.trace = length-reverse w.trace in
            let same_length : length (machine_entries d.plain_entries) ≡ length d.plain_entries = length-machine_entries d.plain_entries in
            let small : n + length d.plain_entries ≤ 2 ^ 64 - 1 = omega (arith, one, mine, plain_entries, long, few, same_length) in
            grind (arith, small, same_length)

        wiped_bin : (t : Tables K V) → Put w.tables f.top.table f.top.index (IsLive (after_wipe d)) t → (u'.kind ≡ Wipes (more_wiped n (length d.plain_entries))) × (u'.stage ≡ stage_cleared (after_top f)) → StepOf cmp hash gives w p x w.control_state t c (label.Wipe p f.top.table f.top.index)
        wiped_bin t put (q, h) = step_of cmp hash gives w p x w.control_state t c (label.Wipe p f.top.table f.top.index) at hashed (unread u' g hashed last) (record {
          transition = transition;
          can = can_wipe;
          is = is_wiped cmp hash gives w p x at c n f.base f.index (frame_of f.top) (map frame_of f.below) (machine_entries d.plain_entries) d.writes t (same_growth w.control_state.growth w.tables t put.boards) slots_after
              (after_mode u' g hashed _ (to_clear _ _ q h ∙ ap (λ m. mode_of_sweep (stage_cleared (after_top f)) (Wipes m)) all_counted ∙ cleared (n + length (machine_entries d.plain_entries)) f.base f.index f.below)) (unclaimed u' g hashed);
          follows = reaches _ _ q h (cleared_hashed V hash f.base f.index f.below _ bounds.1);
          frame = record {
            hashed = λ a i l h. hashed_in a i l (f.top.table == a && f.top.index == i) (sym (put.contents a i) ∙ h);
            control_state = k.control_state;
            tables = put.tables;
            no_table = λ h a. put.no_table a (k.no_table h a);
            next = λ a h z. k.next a h (put.made (suc a) z);
            running = running_on cmp hash gives w t k put.boards;
            over = over_on cmp hash gives w t k put.boards;
          };
        })
          where
            slots_after : (a i : ℕ) → slot_of (content_at t a i) ≡ update2 (state_of w).slot f.top.table f.top.index (Live [] d.writes) a i
            slots_after a i = ap slot_of (put.contents a i) ∙ through (f.top.table == a && f.top.index == i)
              where
                through : (b : Bool) → slot_of (if b then IsLive (after_wipe d) else content_at w.tables a i) ≡ (if b then Live [] d.writes else slot_of (content_at w.tables a i))
                through true = refl
                through false = refl

            hashed_in : (a i : ℕ) (l : slots.Live K V) (z : Bool) → (if z then IsLive (after_wipe d) else content_at w.tables a i) ≡ IsLive l → IsHashed hash l.plain_entries
            hashed_in a i l true h = subst (λ z. IsHashed hash z.plain_entries) (same_live h) tt
            hashed_in a i l false h = k.hashed a i l h

      clears_moved : content ≡ HasMoved → (u'.kind ≡ Wipes n) × (u'.stage ≡ OverBins (after_split f)) → StepOf cmp hash gives w p x w.control_state w.tables c (label.Silent p)
      clears_moved moved (q, h) = moves_on u' g hashed (SplitsClear n f.base f.index (frame_of f.top) (map frame_of f.below)) _ refl refl refl last (clearing, ap slot_of (here ∙ moved)) (to_clear n _ q h ∙ ap (Clearing n f.base f.index) (halved_frames f)) (reaches n _ q h (bounds.0, (bounds.0, bounds.1)))

      clears_unborn : (u'.kind ≡ Wipes n) × (u'.stage ≡ OverBins f) → StepOf cmp hash gives w p x w.control_state w.tables c (label.Silent p)
      clears_unborn (q, h) = rests u' g hashed (looks_not x.call u.kind u.last own.0) last (to_clear n _ q h ∙ sym (ap (λ z. mode_of_sweep z u.kind) over ∙ ap (λ z. mode_over z f) wipes)) (reaches n _ q h bounds)

  -- a step at the bin, to read or to wipe it
  at_look : (f : CursorState K) → u.stage ≡ OverBins f → u.kind ≡ Reads → PartStep cmp gives (bin_part Reads f.top) x.party_state w.control_state w.tables ev c b t' → StepOf cmp hash gives w p x b t' c (label_of p ev c.stage)
  at_look f over reads (q, there, inside, h, y, z) =
      let (u', g, s) = subst (λ z. StageAtSlot cmp gives x.party_state.hash z q.content ev c.stage q.content) e h.step in
      let (kind, gave, same_content) = subst₂ (λ er st. BinGives cmp er st u.last q.content ev u' q.content) reads over s in
      rw (y, z) (walks f over u' g h.hash q.content (content_of_place w.tables f.top.table f.top.index q there) reads kind q.content refl gave)

  at_wipe : (f : CursorState K) → u.stage ≡ OverBins f → (n : ℕ) → u.kind ≡ Wipes n → PartStep cmp gives (bin_part (Wipes n) f.top) x.party_state w.control_state w.tables ev c b t' → StepOf cmp hash gives w p x b t' c (label_of p ev c.stage)
  at_wipe f over n wipes (q, q', there, inside, h, y, z) =
      let (u', g, s) = subst (λ z. StageAtSlot cmp gives x.party_state.hash z q.content ev c.stage q'.content) e h.step in
      let (last, gave) = subst₂ (λ er st. BinGives cmp er st u.last q.content ev u' q'.content) wipes over s in
      by_content u' g last q.content refl gave
    where
      here : content_at w.tables f.top.table f.top.index ≡ q.content
      here = content_of_place w.tables f.top.table f.top.index q there

      put : Put w.tables f.top.table f.top.index q'.content t'
      put = subst (λ t. Put w.tables f.top.table f.top.index q'.content t) (sym z) (put_other w.tables f.top.table f.top.index q q' k.tables there h.table h.index)

      put_back : {lab : Label K V F} → q'.content ≡ q.content → StepOf cmp hash gives w p x w.control_state w.tables c lab → StepOf cmp hash gives w p x w.control_state t' c lab
      put_back {lab} stays step = record {
        hash_stays = step.hash_stays;
        transition = step.transition;
        can = step.can;
        after = (λ i. record (state_of (with_step w p x w.control_state w.tables c lab)) { growth = same_growth w.control_state.growth w.tables t' put.boards i; slot = λ d j. ap slot_of (as_before d j) i }) ∙ step.after;
        follows = step.follows;
        frame = record {
          hashed = λ d i l h. k.hashed d i l (sym (as_before d i) ∙ h);
          control_state = k.control_state;
          tables = put.tables;
          no_table = λ h a. put.no_table a (k.no_table h a);
          next = λ a h z. k.next a h (put.made (suc a) z);
          running = running_on cmp hash gives w t' k put.boards;
          over = over_on cmp hash gives w t' k put.boards;
        };
      }
        where
          as_before : (d j : ℕ) → content_at t' d j ≡ content_at w.tables d j
          as_before = put_nothing w.tables f.top.table f.top.index q'.content t' put (stays ∙ sym here)

      by_content : (u' : SweepState K V) → c.stage ≡ AtSweep u' → u'.last ≡ u.last → (v : Content K V) → q.content ≡ v → ClearGives n f v ev u'.kind u'.stage q'.content → StepOf cmp hash gives w p x b t' c (label_of p ev c.stage)
      by_content u' g last (IsLive d) live (v, er, st, after) = rw (v, y) (wiped_bin f over u' g h.hash q.content here n wipes last d live t' (subst (λ r. Put w.tables f.top.table f.top.index r t') after put) (er, st))
      by_content u' g last HasMoved moved (v, er, st, after) = rw (v, y) (put_back (after ∙ sym moved) (clears_moved f over u' g h.hash q.content here n wipes last moved (er, st)))
      by_content u' g last IsUnborn unborn (v, er, st, after) = rw (v, y) (put_back (after ∙ sym unborn) (clears_unborn f over u' g h.hash q.content here n wipes last (er, st)))

  by_place : (s : SweepStage K V) (er : SweepKind) → u.stage ≡ s → u.kind ≡ er → PartStep cmp gives (part_at er s) x.party_state w.control_state w.tables ev c b t' → StepOf cmp hash gives w p x b t' c (label_of p ev c.stage)
  by_place AtSweepStart er s q h = control_step h
  by_place (OverBins f) Reads s q h = at_look f s q h
  by_place (OverBins f) (Wipes n) s q h = at_wipe f s n q h
  by_place AtTotal er s q h = control_step h
  by_place (AtEnd r) er s q h = absurd h
  by_place AfterEnd er s q h = absurd h

  pub swept_step : PartStep cmp gives (part_of {F = F} x.party_state.hash (AtSweep u)) x.party_state w.control_state w.tables ev c b t' → StepOf cmp hash gives w p x b t' c (label_of p ev c.stage)
  swept_step h = by_place u.stage u.kind refl refl h
