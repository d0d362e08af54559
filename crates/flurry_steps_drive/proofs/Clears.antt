-- A clear that is driven, as one more caller of a world: it leaves no pair, and counts what it wiped.
use Rattle.std.specs.Prelude.{◌≡◌, ◌⊎◌, ℕ, ℤ, pos, neg_ℤ, ◌-ℤ◌, ◌≤ℤ◌, suc, ◌+◌, ◌-◌, ◌^◌, ◌≤◌, Bool, true, false, cond, min, [], ◌∷◌, ◌++◌, length, reverse, slice_get, Option, Some, None, IsNone, if◌then◌else◌}
use Rattle.std.specs.declared.cmp.Ordering.{Ordering}
use Rattle.std.specs.Cmp.{IsTotalOrder}
use Rattle.std.proofs.Common.{arith, refl, sym, ◌∙◌, ap, subst, subst₂, inl, inr}
use Rattle.std.proofs.lemmas.Int.{ints}
use Rattle.std.proofs.lemmas.List.{reverse-append}
use Rattle.std.proofs.lemmas.Option.{slice_get_within}
use Rattle.flurry_bins_slots.specs.Slot.{Content, IsLive, HasMoved, IsUnborn, Live, after_wipe}
use Rattle.flurry_steps_control.specs.Control.{ControlState, after_count}
use Rattle.flurry_steps_sweep.specs.Cursor.{CursorState, at_base, after_split, after_top}
use Rattle.flurry_steps_sweep.specs.Part.{BinPart}
use Rattle.flurry_steps_sweep.specs.Outcome.{Outcome, OutcomeEnded}
use Rattle.flurry_steps_sweep.specs.Sweep as sweep
use Rattle.flurry_steps_sweep.specs.Sweep.{SweepKind, Reads, Wipes, SweepStage, AtSweepStart, OverBins, AtTotal, AtEnd, AfterEnd, SweepState, ClearGives, BinGives, part_at, start_stage_at, more_wiped, stage_cleared, swept_outcome, is_at_start, fresh_sweep}
use Rattle.flurry_steps_sweep.specs.declared.step.Event.{Event}
use Rattle.flurry_base.specs.declared.call.Call.TheVariants as call
use Rattle.flurry_steps_stages.specs.Stage.{AtSweep, part_of, is_locating, published_stage, final_outcome}
use Rattle.flurry_steps.specs.Party.{PartyState, wanted_part, with_stage}
use Rattle.flurry_steps.specs.PartyControl.{StageAtControl, ControlStep}
use Rattle.flurry_steps.specs.PartySlots.{StageAtSlot}
use Rattle.flurry_steps_theory.specs.Map.{Pairs, same, find}
use Rattle.flurry_steps_theory.specs.Trace.{Trace, in_region, names, pairs}
use Rattle.flurry_steps_theory.specs.Legal.{HasLacked}
use Rattle.flurry_steps_theory.specs.Machine.{Mode, Done, Finished}
use Rattle.flurry_steps_theory.specs.Invariant.{Remains}
use Rattle.flurry_steps_theory.specs.declared.Label.{Label}
use Rattle.flurry_steps_theory.specs.declared.Label.TheVariants as label
use Rattle.flurry_steps_theory.proofs.Bins.{one_class, find-wiped}
use Rattle.flurry_steps_world.specs.Parts.{Parts, PartStep, IsPublishedTable}
use Rattle.flurry_steps_world.specs.Steps.{with_step, with_party_record}
use Rattle.flurry_steps_world.specs.Tables.{Tables, content_at, put_place, PlaceGives}
use Rattle.flurry_steps_world.specs.World.{PartyRecord, WorldState, Near, state_of, mode_of_sweep, IsWorld, history}
use Rattle.flurry_steps_world.proofs.StateLaws.{get_set}
use Rattle.flurry_steps_world.proofs.TableLaws.{content_of_place}
use Rattle.flurry_steps_world.proofs.PartyCases.{put_other}
use Rattle.flurry_steps_world.proofs.SlotCases.{Put}
use Rattle.flurry_steps_world.proofs.Frames.{StepOf, kept}
use Rattle.flurry_steps_world.proofs.Cases.{calls, in_mode}
use Rattle.flurry_steps_drive.specs.Exact.{Holds, OutcomeAnswers, IsFresh}
use Rattle.flurry_steps_drive.proofs.Begins.{was_published, begun}
use Rattle.flurry_steps_drive.proofs.ClearSteps.{put_back, count_less, goes_to_table, finds_nothing, follows_moved, no_unborn, wiped_pairs, wipes_bin, counts_all}
use Rattle.flurry_steps_drive.proofs.Trace.{itself}
use Rattle.flurry_base.specs.declared.sizes.TheConstants.{MAX_LABELS}
use Rattle.flurry_base.specs.declared.verdict.Verdict.{Verdict}

is_gone : {X : Type 0} (o : Option X) → IsNone o → o ≡ None
is_gone None h = refl
is_gone (Some x) h = cc

-- a map that lacks each class has no pair
none_left : {K V : Type 0} (cmp : K → K → Ordering) → IsTotalOrder cmp → (m : Pairs K V) → ((j : K) → find cmp m j ≡ None) → m ≡ []
none_left cmp total [] h = refl
none_left cmp total (x ∷ m) h = absurd (grind (arith, h x.0, (one_class cmp total).refl x.0))

module _ {K V F : Type 0} (cmp : K → K → Ordering) (total : IsTotalOrder cmp) (hash : K → ℕ) (lawful : (j k : K) → same cmp j k ≡ true → hash j ≡ hash k) (gives : F → K → Option V → Verdict V → Type 0) where
  -- what the map lacks after the labels t it lacks after the next one too
  abbrev pub Lessens : Trace K V F → Label K V F → Type 0
  Lessens t l = (j : K) → find cmp (pairs cmp hash t) j ≡ None → find cmp (pairs cmp hash (l ∷ t)) j ≡ None

  -- what party p has seen to be lacking is lacking still
  abbrev pub StaysGone : ℕ → Trace K V F → Type 0
  StaysGone p t = (j : K) → HasLacked cmp hash gives (names p) t p j → find cmp (pairs cmp hash t) j ≡ None

  wipe_lessens : (p e i : ℕ) (t : Trace K V F) → Lessens t (label.Wipe p e i)
  wipe_lessens p e i t j gone = find-wiped cmp total hash lawful e i (pairs cmp hash t) j ∙ by_place (in_region e i (hash j))
    where
      by_place : (b : Bool) → (if b then None else find cmp (pairs cmp hash t) j) ≡ None
      by_place true = refl
      by_place false = gone

  gone_on : (p : ℕ) (t : Trace K V F) (l : Label K V F) → Lessens t l → StaysGone p t → StaysGone p (l ∷ t)
  gone_on p t l less gone j (other, inl (own, lacking)) = is_gone (find cmp (pairs cmp hash (l ∷ t)) j) lacking
  gone_on p t l less gone j (other, inr before) = less j (gone j before)

  module _ (n : ℕ) (m : Pairs K V) (few : n + length m ≤ MAX_LABELS) (p : ℕ) where
    -- the pairs that are left and those that the clear wiped are as many as it began with, and the count is at most n from 0, until
    -- it has counted them
    abbrev pub Tally : Pairs K V → ℤ → SweepKind → SweepStage K V → Type 0
    Tally now count Reads a = ⊥
    Tally now count (Wipes i) (AtEnd r) = (r ≡ OutcomeEnded) × Near (n + length m) count
    Tally now count (Wipes i) AfterEnd = ⊥
    Tally now count (Wipes i) a = (length now + i ≡ length m) × Near n count

    -- the parts s are those of a world, in which party p is a clear that began on the map m, was alone since, and stands at c
    pub record InClear (s : Parts K V) (c : PartyState K V F) : Type 0 where
      pub world : WorldState K V F (Unit {0})
      pub is_world : IsWorld cmp hash gives world
      pub caller : PartyRecord K V F
      pub at : slice_get world.party_records p ≡ Some caller
      pub call : caller.call ≡ call.Clear
      pub party_state : caller.party_state ≡ c
      pub parts : record { control_state = world.control_state; tables = world.tables } ≡ s
      pub sweep_state : SweepState K V
      pub stage : caller.party_state.stage ≡ AtSweep sweep_state
      pub gone : StaysGone p (history world)
      pub tally : Tally (pairs cmp hash (history world)) world.control_state.count sweep_state.kind sweep_state.stage

    module _ (now : Pairs K V) (count : ℤ) where
      tally_of : (a : SweepState K V) (i : ℕ) (b : SweepStage K V) → a.kind ≡ Wipes i → a.stage ≡ b → Tally now count (Wipes i) b → Tally now count a.kind a.stage
      tally_of a i b wipes stands h = subst₂ (λ er st. Tally now count er st) (sym wipes) (sym stands) h

      tally_cleared : (i : ℕ) (o : Option (CursorState K)) → (length now + i ≡ length m) × Near n count → Tally now count (Wipes i) (stage_cleared o)
      tally_cleared i None h = h
      tally_cleared i (Some f) h = h

    module _ (w : WorldState K V F (Unit {0})) (k : IsWorld cmp hash gives w) (x : PartyRecord K V F) (at : slice_get w.party_records p ≡ Some x) (called : x.call ≡ call.Clear) (u : SweepState K V) (e : x.party_state.stage ≡ AtSweep u) (gone : StaysGone p (history w)) (tally : Tally (pairs cmp hash (history w)) w.control_state.count u.kind u.stage) where
      -- the world after a step
      stepped : (c : PartyState K V F) (b : ControlState) (t : Tables K V) (l : Label K V F) (u' : SweepState K V) → c.stage ≡ AtSweep u' → StepOf cmp hash gives w p x b t c l → Lessens (history w) l → Tally (pairs cmp hash (l ∷ history w)) b.count u'.kind u'.stage → InClear (record { control_state = b; tables = t }) c
      stepped c b t l u' g step less tallied = record {
        world = with_step w p x b t c l;
        is_world = kept cmp hash gives total lawful w p x b t c l k at step;
        caller = after;
        at = get_set w.party_records p p after (slice_get_within w.party_records p x at) ∙ ap (λ z. cond z (Some after) (slice_get w.party_records p)) (itself p);
        call = called;
        party_state = refl;
        parts = refl;
        sweep_state = u';
        stage = g;
        gone = subst (StaysGone p) (sym after_field_step) (gone_on p (history w) l less gone);
        tally = subst (λ r. Tally (pairs cmp hash r) b.count u'.kind u'.stage) (sym after_field_step) tallied;
      }
        where
          after : PartyRecord K V F
          after = record { call = x.call; began_from = x.began_from; party_state = c; steps = suc x.steps }

          after_field_step : reverse (w.trace ++ l ∷ []) ≡ l ∷ history w
          after_field_step = reverse-append w.trace (l ∷ [])

      module _ (i : ℕ) (wipes : u.kind ≡ Wipes i) where
        plain_entries : (a : SweepStage K V) → u.stage ≡ a → Tally (pairs cmp hash (history w)) w.control_state.count (Wipes i) a
        plain_entries a f = subst₂ (λ er st. Tally (pairs cmp hash (history w)) w.control_state.count er st) wipes f tally

        module _ (c : PartyState K V F) (hashed : c.hash ≡ x.party_state.hash) (u' : SweepState K V) (g : c.stage ≡ AtSweep u') (last : u'.last ≡ u.last) where
          -- a step that leaves the parts
          quiet : StepOf cmp hash gives w p x w.control_state w.tables c (label.Silent p) → (a : SweepStage K V) → u'.kind ≡ Wipes i → u'.stage ≡ a → Tally (pairs cmp hash (history w)) w.control_state.count (Wipes i) a → InClear (record { control_state = w.control_state; tables = w.tables }) c
          quiet step a kind stands tallied = stepped c w.control_state w.tables (label.Silent p) u' g step (λ j h. h) (tally_of (pairs cmp hash (history w)) w.control_state.count u' i a kind stands tallied)

          sets_out_at : u.stage ≡ AtSweepStart → u'.kind ≡ u.kind → (o : Option ℕ) → w.control_state.published ≡ o → u'.stage ≡ start_stage_at o → InClear (record { control_state = w.control_state; tables = w.tables }) c
          sets_out_at f kept_errand None bare h =
              quiet (finds_nothing cmp total hash lawful gives w k p x at u e i wipes c u' g hashed last f (kept_errand ∙ wipes) bare h) (AtEnd OutcomeEnded) (kept_errand ∙ wipes) h
              (refl, let least = (plain_entries AtSweepStart f).1 in record { most = omega (arith, ints, least.most); least = omega (arith, ints, least.least) })
          sets_out_at f kept_errand (Some a) there h =
              quiet (goes_to_table cmp total hash lawful gives w k p x at u e i wipes c u' g hashed last f (kept_errand ∙ wipes) a ((k.state.1.tables.from a there).0, a, there, omega arith) h) (OverBins (at_base a 0)) (kept_errand ∙ wipes) h (plain_entries AtSweepStart f)

          counted : u.stage ≡ AtTotal → u'.kind ≡ u.kind → u'.stage ≡ AtEnd OutcomeEnded → InClear (record { control_state = after_count (neg_ℤ (pos (min i (2 ^ 63 - 1)))) w.control_state; tables = w.tables }) c
          counted f kept_errand h =
              let (whole, within) = plain_entries AtTotal f in
              let least : neg_ℤ (pos (n + length m)) ≤ℤ (w.control_state.count -ℤ pos i) = omega (arith, ints, within.least, whole) in
              let most : (w.control_state.count -ℤ pos i) ≤ℤ pos (n + length m) = omega (arith, ints, within.most) in
              let sums = count_less w.control_state.count i (omega (arith, whole, few)) (omega (arith, ints, within.most, few)) (omega (arith, ints, least, few)) in
              stepped c (after_count (neg_ℤ (pos (min i (2 ^ 63 - 1)))) w.control_state) w.tables (label.Silent p) u' g
              (counts_all cmp total hash lawful gives w k p x at u e i wipes c u' g hashed last f (kept_errand ∙ wipes) h sums) (λ j z. z)
              (tally_of (pairs cmp hash (history w)) _ u' i (AtEnd OutcomeEnded) (kept_errand ∙ wipes) h (refl, subst (Near (n + length m)) (sym sums) (record { most = most; least = least })))

          wiped : (f : CursorState K) (over : u.stage ≡ OverBins f) (d : Live K V) (live : content_at w.tables f.top.table f.top.index ≡ IsLive d) (t : Tables K V) → Put w.tables f.top.table f.top.index (IsLive (after_wipe d)) t → u'.kind ≡ Wipes (more_wiped i (length d.plain_entries)) → u'.stage ≡ stage_cleared (after_top f) → InClear (record { control_state = w.control_state; tables = t }) c
          wiped f over d live t put kind h =
              let (whole, within) = plain_entries (OverBins f) over in
              let lost = wiped_pairs cmp total hash lawful gives w k p x at u e i wipes c u' g hashed last f over d live in
              let small : i + length d.plain_entries ≤ 2 ^ 64 - 1 = omega (arith, lost, whole, few) in
              let sums : more_wiped i (length d.plain_entries) ≡ i + length d.plain_entries = grind (arith, small) in
              stepped c w.control_state t (label.Wipe p f.top.table f.top.index) u' g
              (wipes_bin cmp total hash lawful gives w k p x at u e i wipes c u' g hashed last f over d live t put (omega (arith, whole, few)) kind h) (wipe_lessens p f.top.table f.top.index (history w))
              (tally_of _ w.control_state.count u' (more_wiped i (length d.plain_entries)) (stage_cleared (after_top f)) kind h (tally_cleared _ w.control_state.count (more_wiped i (length d.plain_entries)) (after_top f) (omega (arith, lost, whole, sums), within)))

          moved : (f : CursorState K) → u.stage ≡ OverBins f → content_at w.tables f.top.table f.top.index ≡ HasMoved → u'.kind ≡ Wipes i → u'.stage ≡ OverBins (after_split f) → InClear (record { control_state = w.control_state; tables = w.tables }) c
          moved f over has_moved kind h = quiet (follows_moved cmp total hash lawful gives w k p x at u e i wipes c u' g hashed last f over kind has_moved h) (OverBins (after_split f)) kind h (plain_entries (OverBins f) over)

        -- a step at the part that it wants
        module _ (c : PartyState K V F) (b : ControlState) (t : Tables K V) (ev : Event) where
          at_control : (a : SweepStage K V) → u.stage ≡ a → (u' : SweepState K V) → c.stage ≡ AtSweep u' → c.hash ≡ x.party_state.hash → u'.kind ≡ u.kind → u'.last ≡ u.last → sweep.StageAtControl (Wipes i) a w.control_state u'.stage b → t ≡ w.tables → InClear (record { control_state = b; tables = t }) c
          at_control AtSweepStart f u' g hashed kind last (h, y) z = rw (y, z) (sets_out_at c hashed u' g last f kind w.control_state.published refl h)
          at_control (OverBins d) f u' g hashed kind last h z = absurd h
          at_control AtTotal f u' g hashed kind last (h, y) z = rw (y, z) (counted c hashed u' g last f kind h)
          at_control (AtEnd r) f u' g hashed kind last h z = absurd h
          at_control AfterEnd f u' g hashed kind last h z = absurd h

          by_control : (a : SweepStage K V) → u.stage ≡ a → ControlStep PlaceGives x.party_state w.control_state w.tables ev c b t → InClear (record { control_state = b; tables = t }) c
          by_control a f h =
              let (u', g, s, z) = subst (λ z. StageAtControl PlaceGives x.party_state.processors x.party_state.helped z w.control_state w.tables ev c.stage b t) e h.step in
              at_control a f u' g h.hash s.kind s.last (subst₂ (λ er st. sweep.StageAtControl er st w.control_state u'.stage b) wipes f s.step) z

          at_bin : (f : CursorState K) → u.stage ≡ OverBins f → PartStep cmp gives (BinPart f.top.table f.top.index) x.party_state w.control_state w.tables ev c b t → InClear (record { control_state = b; tables = t }) c
          at_bin f over (q, q', there, inside, h, y, z) =
              let (u', g, s) = subst (λ z. StageAtSlot cmp gives x.party_state.hash z q.content ev c.stage q'.content) e h.step in
              let (last, gave) = subst₂ (λ er st. BinGives cmp er st u.last q.content ev u' q'.content) wipes over s in
              by_content u' g last q.content refl gave
            where
              here : content_at w.tables f.top.table f.top.index ≡ q.content
              here = content_of_place w.tables f.top.table f.top.index q there

              by_content : (u' : SweepState K V) → c.stage ≡ AtSweep u' → u'.last ≡ u.last → (v : Content K V) → q.content ≡ v → ClearGives i f v ev u'.kind u'.stage q'.content → InClear (record { control_state = b; tables = t }) c
              by_content u' g last (IsLive d) live (v, er, st, after) = rw y (wiped c h.hash u' g last f over d (here ∙ live) t (subst₂ (λ r a. Put w.tables f.top.table f.top.index r a) after (sym z) (put_other w.tables f.top.table f.top.index q q' k.tables there h.table h.index)) er st)
              by_content u' g last HasMoved has_moved (v, er, st, after) = rw (y, z ∙ same_tables) (moved c h.hash u' g last f over (here ∙ has_moved) er st)
                where
                  same_slot : q' ≡ q
                  same_slot = λ j. record { table = h.table j; index = h.index j; content = (after ∙ sym has_moved) j }

                  same_tables : put_place w.tables f.top.table f.top.index q' ≡ w.tables
                  same_tables = ap (put_place w.tables f.top.table f.top.index) same_slot ∙ put_back w.tables f.top.table f.top.index q there
              by_content u' g last IsUnborn unborn (v, er, st, after) = absurd (no_unborn cmp total hash lawful gives w k p x at u e i wipes c u' g h.hash last f over (here ∙ unborn))

          at_part : (a : SweepStage K V) → u.stage ≡ a → PartStep cmp gives (part_at (Wipes i) a) x.party_state w.control_state w.tables ev c b t → InClear (record { control_state = b; tables = t }) c
          at_part AtSweepStart f h = by_control AtSweepStart f h
          at_part (OverBins d) f h = at_bin d f h
          at_part AtTotal f h = by_control AtTotal f h
          at_part (AtEnd r) f h = absurd h
          at_part AfterEnd f h = absurd h

        started : (a : ℕ) (c : PartyState K V F) → is_at_start u.stage ≡ true → IsPublishedTable (record { control_state = w.control_state; tables = w.tables }) a → c ≡ with_stage x.party_state (published_stage a x.party_state.stage) → InClear (record { control_state = w.control_state; tables = w.tables }) c
        started a c asks start is = by_stage u.stage refl asks
          where
            by_stage : (b : SweepStage K V) → u.stage ≡ b → is_at_start b ≡ true → InClear (record { control_state = w.control_state; tables = w.tables }) c
            by_stage AtSweepStart f h =
                let g : c.stage ≡ AtSweep (sweep.with_stage u (OverBins (at_base a 0))) = ap (λ z. z.stage) is ∙ ap (published_stage a) e in
                let hashed : c.hash ≡ x.party_state.hash = ap (λ z. z.hash) is in
                quiet c hashed (sweep.with_stage u (OverBins (at_base a 0))) g refl (goes_to_table cmp total hash lawful gives w k p x at u e i wipes c (sweep.with_stage u (OverBins (at_base a 0))) g hashed refl f wipes a (was_published cmp hash gives w k a start) refl) (OverBins (at_base a 0)) wipes refl (plain_entries AtSweepStart f)
            by_stage (OverBins d) f h = cc
            by_stage AtTotal f h = cc
            by_stage (AtEnd r) f h = cc
            by_stage AfterEnd f h = cc

      pub part_step : (c : PartyState K V F) (b : ControlState) (t : Tables K V) (ev : Event) → PartStep cmp gives (wanted_part x.party_state) x.party_state w.control_state w.tables ev c b t → InClear (record { control_state = b; tables = t }) c
      part_step c b t ev h = by_errand u.kind refl
        where
          by_errand : (er : SweepKind) → u.kind ≡ er → InClear (record { control_state = b; tables = t }) c
          by_errand Reads f = absurd (subst (λ z. Tally (pairs cmp hash (history w)) w.control_state.count z u.stage) f tally)
          by_errand (Wipes i) f = at_part i f c b t ev u.stage refl (subst (λ z. PartStep cmp gives (part_at z u.stage) x.party_state w.control_state w.tables ev c b t) f (subst (λ z. PartStep cmp gives (part_of x.party_state.hash z) x.party_state w.control_state w.tables ev c b t) e h))

      pub start_step : (a : ℕ) (c : PartyState K V F) → is_locating x.party_state.stage ≡ true → IsPublishedTable (record { control_state = w.control_state; tables = w.tables }) a → c ≡ with_stage x.party_state (published_stage a x.party_state.stage) → InClear (record { control_state = w.control_state; tables = w.tables }) c
      start_step a c asks start is = by_errand u.kind refl
        where
          by_errand : (er : SweepKind) → u.kind ≡ er → InClear (record { control_state = w.control_state; tables = w.tables }) c
          by_errand Reads f = absurd (subst (λ z. Tally (pairs cmp hash (history w)) w.control_state.count z u.stage) f tally)
          by_errand (Wipes i) f = started i f a c (sym (ap is_locating e) ∙ asks) start is

      -- the clear is done
      pub ended : (r : Outcome K V) → final_outcome x.party_state.stage ≡ Some r → OutcomeAnswers cmp hash gives call.Clear m r (pairs cmp hash (history w)) × Near (n + length m) w.control_state.count
      ended r done = by_stage u.kind refl u.stage refl (sym (ap final_outcome e) ∙ done)
        where
          empty : {q : Outcome K V} (i : ℕ) → u.kind ≡ Wipes i → u.stage ≡ AtEnd q → q ≡ OutcomeEnded → pairs cmp hash (history w) ≡ []
          empty i wipes f ends = none_left cmp total (pairs cmp hash (history w)) (λ j. over j (subst (λ z. HasLacked cmp hash gives (names p) (history w) p j ⊎ Remains cmp hash gives z j) mode ((k.state.1.progress p).cleared (calls cmp total hash lawful gives w k p x at x.party_state ∙ ap Some called) going j)))
            where
              mode : (state_of w).mode p ≡ Done None 0 0
              mode = in_mode cmp total hash lawful gives w k p x at x.party_state (AtSweep u) e ∙ ap (λ z. mode_of_sweep z u.kind) (f ∙ ap AtEnd ends)

              going : (state_of w).mode p ≡ Finished → ⊥
              going h = let no : ◌≡◌ {A = Mode K V} (Done None 0 0) Finished = sym mode ∙ h in cc

              over : (j : K) → HasLacked cmp hash gives (names p) (history w) p j ⊎ Remains {F = F} cmp hash gives (Done None 0 0) j → find cmp (pairs cmp hash (history w)) j ≡ None
              over j (inl h) = gone j h
              over j (inr h) = absurd h

          by_stage : (er : SweepKind) → u.kind ≡ er → (a : SweepStage K V) → u.stage ≡ a → swept_outcome a ≡ Some r → OutcomeAnswers cmp hash gives call.Clear m r (pairs cmp hash (history w)) × Near (n + length m) w.control_state.count
          by_stage Reads f a h g = absurd (subst (λ z. Tally (pairs cmp hash (history w)) w.control_state.count z u.stage) f tally)
          by_stage (Wipes i) f (AtEnd q) h g =
              let (ends, within) = plain_entries i f (AtEnd q) h in
              let is : r ≡ OutcomeEnded = cc in
              (subst (λ z. OutcomeAnswers cmp hash gives call.Clear m z (pairs cmp hash (history w))) (sym is) (empty i f h ends), within)
          by_stage (Wipes i) f AtSweepStart h g = cc
          by_stage (Wipes i) f (OverBins d) h g = cc
          by_stage (Wipes i) f AtTotal h g = cc
          by_stage (Wipes i) f AfterEnd h g = cc

  -- it begins as one more caller of the world
  pub clear_begins : (n : ℕ) (m : Pairs K V) (few : n + length m ≤ MAX_LABELS) (s : Parts K V) (h : Holds cmp hash gives n s m) (q : PartyState K V F) → IsFresh cmp hash gives call.Clear q → InClear n m few (length h.world.party_records) s q
  clear_begins n m few s h q fresh =
      let b = begun cmp hash gives total lawful n (omega (arith, few)) m s h call.Clear q fresh in
      record {
        world = with_party_record h.world call.Clear None q;
        is_world = b.is_world;
        caller = record { call = call.Clear; began_from = None; party_state = q; steps = 0 };
        at = b.at;
        call = refl;
        party_state = refl;
        parts = b.parts;
        sweep_state = fresh_sweep (Wipes 0);
        stage = fresh.stage;
        gone = subst (StaysGone (length h.world.party_records)) (sym b.trace) (λ j lacked. absurd (not_yet j lacked));
        tally = subst (λ r. Tally n m few (length h.world.party_records) (pairs cmp hash r) h.world.control_state.count (Wipes 0) AtSweepStart) (sym b.trace) (omega (arith, ap length h.map), b.near);
      }
    where
      not_yet : (j : K) → HasLacked cmp hash gives (names (length h.world.party_records)) (label.Begin (length h.world.party_records) call.Clear ∷ history h.world) (length h.world.party_records) j → ⊥
      not_yet j lacked = let no : true ≡ false = sym (itself (length h.world.party_records)) ∙ lacked.0 in cc
