-- A step at the parts of one owner, as a step at a field of them.
use Rattle.std.specs.Prelude.{◌≡◌, ◌⊎◌, ℕ, ◌+◌, ◌^◌, ◌≤◌, ◌<◌, Bool, true, Option, Some, None, IsSome, is_some}
use Rattle.std.specs.declared.cmp.Ordering.{Ordering}
use Rattle.std.proofs.Common.{arith, inl, inr, refl, sym, ◌∙◌, ap, subst}
use Rattle.flurry_bins_slots.specs.Slot.{SlotState}
use Rattle.flurry_steps_control.specs.Control.{ControlState}
use Rattle.flurry_steps_sweep.specs.Part.{Part, ControlPart, LookPart, BinPart, MovePart, SeatPart, BoardPart, GivePart, NoPart}
use Rattle.flurry_steps_stages.specs.Stage.{Stage, AtLocate, AtBin, AtHelp, AtUncount, AtCount, AtRecount, AtBegin, AtGrow, AtReserve, AtSweep, AtDone, AtTaken, part_of}
use Rattle.flurry_steps.specs.Party.{PartyState, wanted_part}
use Rattle.flurry_steps.specs.PartyControl.{ControlStep}
use Rattle.flurry_steps.specs.Field.{Loan, ControlLoan, PublishedLoan, TallyLoan, LookLoan, BinLoan, MoveLoan, BoardLoan, board_of, StepWith, FieldStep}
use Rattle.flurry_steps_sweep.specs.declared.step.Event.{Event}
use Rattle.flurry_steps.proofs.Rooms.{control_in}
use Rattle.flurry_steps_world.specs.Tables.{Tables, AreTables, place_at, put_place, PlaceGives}
use Rattle.flurry_steps_world.specs.Parts.{Parts, IsOwn, IsPart, OwnLends, AtBoardOf, PartStep, IsThere}
use Rattle.flurry_steps_sweep.specs.Sweep.{SweepState, SweepStage, AtSweepStart, OverBins, AtTotal, AtEnd, AfterEnd, part_at}
use Rattle.flurry_steps_world.specs.Steps.{label_of, GoesOn, SweepStageStep, StageStep}
use Rattle.flurry_steps_world.proofs.TableLaws.{place_in, index_within}
use Rattle.flurry_steps_world.proofs.StateLaws.{same_some}
use Rattle.flurry_base.specs.declared.sizes.TheConstants.{MAX_TABLE}
use Rattle.flurry_base.specs.declared.verdict.Verdict.{Verdict}

module _ {K V F : Type 0} (cmp : K → K → Ordering) (changes : F → K → Option V → Verdict V → Type 0) (c : PartyState K V F) (b : ControlState) (t : Tables K V) (are : AreTables t) (ev : Event) (c' : PartyState K V F) (b' : ControlState) (t' : Tables K V) where
  abbrev pub PartFieldStep : Type 0
  PartFieldStep = FieldStep PlaceGives cmp changes OwnLends (record { control_state = b; tables = t }) c ev (record { control_state = b'; tables = t' }) c'

  at_board : (e : ℕ) → board_of (wanted_part c) ≡ Some e → AtBoardOf e c b t ev c' b' t' → PartFieldStep
  at_board e want (x, h, gives, same) = record { loan = BoardLoan e x; lent = (tt, (gives, same)); step = (want, h) }

  pub field_step_of : (a : Part) → wanted_part c ≡ a → PartStep cmp changes a c b t ev c' b' t' → PartFieldStep
  field_step_of ControlPart want h = record { loan = ControlLoan b t b' t'; lent = (tt, (refl, refl)); step = (want, h) }
  field_step_of (LookPart e i) want (q, there, inside, h, y, z) = record {
    loan = LookLoan q;
    lent = (tt, (there_own e i q there, λ j. record { control_state = y j; tables = z j }));
    step = (want ∙ (λ j. LookPart (sym (are.order e i q there).0 j) (sym (are.order e i q there).1 j)), inside, h);
  }
    where
      there_own : (e i : ℕ) (q : SlotState K V) → place_at t e i ≡ Some q → place_at t q.table q.index ≡ Some q
      there_own e i q there = let is = are.order e i q there in subst (λ n. place_at t n q.index ≡ Some q) (sym is.0) (subst (λ n. place_at t e n ≡ Some q) (sym is.1) there)
  field_step_of (BinPart e i) want (q, q', there, inside, h, y, z) = by_place (are.order e i q there)
    where
      by_place : (q.table ≡ e) × (q.index ≡ i) → PartFieldStep
      by_place (f, g) = record {
        loan = BinLoan q q';
        lent = (tt, (subst (λ n. place_at t n q.index ≡ Some q) (sym f) (subst (λ n. place_at t e n ≡ Some q) (sym g) there), λ j. record { control_state = y j; tables = (z ∙ (λ k. put_place t (sym f k) (sym g k) q')) j }));
        step = (want ∙ (λ j. BinPart (sym f j) (sym g j)), inside, h);
      }
  field_step_of (MovePart e i) want (q, low, high, q', low', high', there, low_at, high_at, inside, h, y, z) = by_place (are.order e i q there)
    where
      by_place : (q.table ≡ e) × (q.index ≡ i) → PartFieldStep
      by_place (f, g) = record {
        loan = MoveLoan q low high q' low' high';
        lent = (
          tt,
          (
            subst (λ n. place_at t n q.index ≡ Some q) (sym f) (subst (λ n. place_at t e n ≡ Some q) (sym g) there),
            subst (λ n. place_at t (n + 1) q.index ≡ Some low) (sym f) (subst (λ n. place_at t (e + 1) n ≡ Some low) (sym g) low_at),
            subst (λ n. place_at t (n + 1) (q.index + 2 ^ n) ≡ Some high) (sym f) (subst (λ n. place_at t (e + 1) (n + 2 ^ e) ≡ Some high) (sym g) high_at),
            λ j. record { control_state = y j; tables = (z ∙ (λ k. put_place (put_place (put_place t (sym f k) (sym g k) q') (sym f k + 1) (sym g k) low') (sym f k + 1) (sym g k + 2 ^ sym f k) high')) j },
          ),
        );
        step = (want ∙ (λ j. MovePart (sym f j) (sym g j)), inside, h);
      }
  field_step_of (SeatPart e) want h = at_board e (ap board_of want) h
  field_step_of (BoardPart e) want h = at_board e (ap board_of want) h
  field_step_of (GivePart e) want h = at_board e (ap board_of want) h
  field_step_of NoPart want h = absurd h

-- the greatest table has no halves, and neither has a slot past the table's end
pub no_halves : {K V : Type 0} (t : Tables K V) (e i : ℕ) → AreTables t → (MAX_TABLE ≤ e) ⊎ (2 ^ e ≤ i) → IsThere t (MovePart e i) → ⊥
no_halves {K} {V} t e i are (inl far) (here, low, high) = by_place (place_at t (e + 1) i) refl low
  where
    by_place : (o : Option (SlotState K V)) → place_at t (e + 1) i ≡ o → IsSome o → ⊥
    by_place None is some = cc
    by_place (Some q) is some = let (lt, below) = place_in t (e + 1) i q is in omega (arith, lt, far, are.places)
no_halves {K} {V} t e i are (inr past) (here, low, high) = by_place (place_at t e i) refl here
  where
    by_place : (o : Option (SlotState K V)) → place_at t e i ≡ o → IsSome o → ⊥
    by_place None is some = cc
    by_place (Some q) is some = let below = index_within t e i q are is in omega (arith, below, past)

-- ---- a field step over parts, as a step at these

module _ {K V F R : Type 0} (place : R → ℕ → Option ℕ → Bool → R → Type 0) (cmp : K → K → Ordering) (changes : F → K → Option V → Verdict V → Type 0) (room : R → Tables K V) (places : (r : R) (e : ℕ) (g : Option ℕ) (ok : Bool) (r' : R) → place r e g ok r' → PlaceGives (room r) e g ok (room r')) (s s' : Parts K V) (c c' : PartyState K V F) (ev : Event) where
  -- a step at a board, whichever of its parts is wanted
  board_part : (a : Part) (e : ℕ) → board_of a ≡ Some e → AtBoardOf e c s.control_state s.tables ev c' s'.control_state s'.tables → PartStep cmp changes a c s.control_state s.tables ev c' s'.control_state s'.tables
  board_part (SeatPart d) e is h = subst (λ n. AtBoardOf n c s.control_state s.tables ev c' s'.control_state s'.tables) (sym (same_some is)) h
  board_part (BoardPart d) e is h = subst (λ n. AtBoardOf n c s.control_state s.tables ev c' s'.control_state s'.tables) (sym (same_some is)) h
  board_part (GivePart d) e is h = subst (λ n. AtBoardOf n c s.control_state s.tables ev c' s'.control_state s'.tables) (sym (same_some is)) h
  board_part a e is h = let clash : None ≡ Some e = is in cc

  -- a step with the loan of a part that is one of these
  pub own_part : (l : Loan K V R) → IsPart l → IsOwn room s l s' → StepWith place cmp changes l c ev c' → PartStep cmp changes (wanted_part c) c s.control_state s.tables ev c' s'.control_state s'.tables
  own_part (ControlLoan b r b' r') i (x, y) (want, h) = subst (λ z. PartStep cmp changes z c s.control_state s.tables ev c' s'.control_state s'.tables) (sym want)
      (subst (λ z. ControlStep PlaceGives c z.control_state z.tables ev c' s'.control_state s'.tables) (sym x) (subst (λ z. ControlStep PlaceGives c b (room r) ev c' z.control_state z.tables) (sym y) (control_in place PlaceGives room places c b r ev c' b' r' h)))
  own_part (PublishedLoan d) i x h = absurd i
  own_part (TallyLoan m n n') i x h = absurd i
  own_part (LookLoan q) i (x, y) (want, inside, h) = subst (λ z. PartStep cmp changes z c s.control_state s.tables ev c' s'.control_state s'.tables) (sym want) (q, x, inside, h, ap (λ z. z.control_state) y, ap (λ z. z.tables) y)
  own_part (BinLoan q q') i (x, y) (want, inside, h) = subst (λ z. PartStep cmp changes z c s.control_state s.tables ev c' s'.control_state s'.tables) (sym want) (q, q', x, inside, h, ap (λ z. z.control_state) y, ap (λ z. z.tables) y)
  own_part (MoveLoan q low high q' low' high') i (x, xl, xh, y) (want, inside, h) = subst (λ z. PartStep cmp changes z c s.control_state s.tables ev c' s'.control_state s'.tables) (sym want) (q, low, high, q', low', high', x, xl, xh, inside, h, ap (λ z. z.control_state) y, ap (λ z. z.tables) y)
  own_part (BoardLoan e x) i (gives, same) (want, h) = board_part (wanted_part c) e want (x, h, gives, same)

module _ {K V F : Type 0} (cmp : K → K → Ordering) (changes : F → K → Option V → Verdict V → Type 0) (p : ℕ) (c : PartyState K V F) (s : Parts K V) (ev : Event) (s' : Parts K V) (c' : PartyState K V F) where
  -- a field step over one owner's parts is what a world does in one step of a party
  pub step_of_turn : FieldStep PlaceGives cmp changes OwnLends s c ev s' c' → StageStep cmp changes p c.stage c s.control_state s.tables (label_of p ev c'.stage) c' s'.control_state s'.tables
  step_of_turn field_step = by_stage c.stage refl
    where
      part : PartStep cmp changes (wanted_part c) c s.control_state s.tables ev c' s'.control_state s'.tables
      part = own_part PlaceGives cmp changes (λ r. r) (λ r e g ok r' h. h) s s' c c' ev field_step.loan field_step.lent.0 field_step.lent.1 field_step.step

      going : GoesOn cmp changes p c s.control_state s.tables (label_of p ev c'.stage) c' s'.control_state s'.tables
      going = record { event = ev; part = part; label_is = refl }

      by_sweep : (w : SweepState K V) (z : SweepStage K V) → w.stage ≡ z → c.stage ≡ AtSweep w → SweepStageStep cmp changes p z c s.control_state s.tables (label_of p ev c'.stage) c' s'.control_state s'.tables
      by_sweep w AtSweepStart f e = going
      by_sweep w (OverBins u) f e = going
      by_sweep w AtTotal f e = going
      by_sweep w (AtEnd r) f e = absurd (subst (λ z. PartStep cmp changes (part_at w.kind z) c s.control_state s.tables ev c' s'.control_state s'.tables) f (subst (λ z. PartStep cmp changes (part_of c.hash z) c s.control_state s.tables ev c' s'.control_state s'.tables) e part))
      by_sweep w AfterEnd f e = absurd (subst (λ z. PartStep cmp changes (part_at w.kind z) c s.control_state s.tables ev c' s'.control_state s'.tables) f (subst (λ z. PartStep cmp changes (part_of c.hash z) c s.control_state s.tables ev c' s'.control_state s'.tables) e part))

      by_stage : (u : Stage K V F) → c.stage ≡ u → StageStep cmp changes p u c s.control_state s.tables (label_of p ev c'.stage) c' s'.control_state s'.tables
      by_stage (AtLocate t) e = going
      by_stage (AtBin t n) e = going
      by_stage (AtHelp h a) e = going
      by_stage (AtUncount r) e = going
      by_stage (AtCount r) e = going
      by_stage (AtRecount r) e = going
      by_stage (AtBegin n r) e = going
      by_stage (AtGrow w g) e = going
      by_stage (AtReserve a) e = going
      by_stage (AtSweep w) e = by_sweep w w.stage refl e
      by_stage (AtDone r) e = absurd (subst (λ z. PartStep cmp changes (part_of c.hash z) c s.control_state s.tables ev c' s'.control_state s'.tables) e part)
      by_stage AtTaken e = absurd (subst (λ z. PartStep cmp changes (part_of c.hash z) c s.control_state s.tables ev c' s'.control_state s'.tables) e part)

-- the index of a slot that is there
pub index_there : {K V : Type 0} (t : Tables K V) (e i : ℕ) → AreTables t → is_some (place_at t e i) ≡ true → i < 2 ^ e
index_there {K} {V} t e i are there = by_place (place_at t e i) refl there
  where
    by_place : (o : Option (SlotState K V)) → place_at t e i ≡ o → is_some o ≡ true → i < 2 ^ e
    by_place None is some = cc
    by_place (Some q) is some = index_within t e i q are is
