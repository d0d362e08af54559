-- A call counts one pair at most.
use Rattle.std.specs.Prelude.{◌≡◌, ℕ, ℤ, pos, negsuc, neg_ℤ, ◌≤ℤ◌, ◌+ℤ◌, ◌-ℤ◌, ◌+◌, ◌≤◌, ◌^◌, Bool, true, false, if◌then◌else◌, Option, Some, None, MatchOption}
use Rattle.std.specs.declared.cmp.Ordering.{Ordering}
use Rattle.std.specs.Int.{saturate_signed, w64}
use Rattle.std.proofs.Common.{arith, refl, sym, ◌∙◌, ap, subst, inl, inr}
use Rattle.std.proofs.lemmas.Int.{ints}
use Rattle.flurry_steps_control.specs.Control.{ControlState, BeginGives, after_publish, is_growing, grows_from}
use Rattle.flurry_steps_sweep.specs.Outcome.{Outcome}
use Rattle.flurry_steps_sweep.specs.Part.{Part, ControlPart, LookPart, BinPart, MovePart, SeatPart, BoardPart, GivePart, NoPart}
use Rattle.flurry_steps_stages.specs.Help.{Help, WantsSeat, Publishing}
use Rattle.flurry_steps_stages.specs.Stage.{Task, Inserts, Adds, Alters, GrowFor, ForInsert, ForReserve, Resume, ThenBin, ThenRecount, ThenGrow, Stage, AtLocate, AtBin, AtHelp, AtUncount, AtCount, AtRecount, AtBegin, AtGrow, AtReserve, AtSweep, IsSingle, AtDone, resumed_stage, stage_grown}
use Rattle.flurry_steps.specs.Party.{PartyState}
use Rattle.flurry_steps.specs.PartyControl.{OpensFor, LocatesNone, MakesFor, StageAtControl, has_helped, event_growing, stage_growing, stage_begun, stage_advised}
use Rattle.flurry_steps.specs.PartyBoard.{BoardAnswer, BoardStep, help_after, stage_helping, stage_answered}
use Rattle.flurry_steps.specs.PartySlots.{MoveGives, StageAtSlot, moved_stage}
use Rattle.flurry_steps_sweep.specs.declared.step.Event.{Event}
use Rattle.flurry_steps_sweep.specs.declared.step.Event.TheVariants as event
use Rattle.flurry_steps_control.specs.declared.control.Advice.{Advice}
use Rattle.flurry_steps_control.specs.declared.control.Advice.TheVariants.{Enough, Join, Begin}
use Rattle.flurry_steps_control.specs.declared.control.BeginOutcome.{BeginOutcome}
use Rattle.flurry_steps_control.specs.declared.control.BeginOutcome.TheVariants as begin
use Rattle.flurry_bins_slots.specs.Slot.{SlotState}
use Rattle.flurry_steps_world.specs.Tables.{Tables, PlaceGives}
use Rattle.flurry_steps_world.specs.Parts.{PartStep}
use Rattle.flurry_steps_world.specs.World.{Near}
use Rattle.flurry_steps_world.proofs.Frames.{in_range}
use Rattle.flurry_base.specs.declared.sizes.TheConstants.{MAX_LABELS}
use Rattle.flurry_base.specs.declared.verdict.Verdict.{Verdict}

abbrev pub left_growing : {K V : Type 0} → GrowFor K V → ℕ
left_growing (ForInsert r) = 1
left_growing ForReserve = 0

module _ {K V F : Type 0} where
  abbrev pub left_after : Resume K V F → ℕ
  left_after (ThenBin t e) = 1
  left_after (ThenRecount r) = 0
  left_after (ThenGrow w g) = left_growing g

  -- how many pairs the call has yet to count, at most
  abbrev pub left : Stage K V F → ℕ
  left (AtLocate t) = 1
  left (AtBin t e) = 1
  left (AtHelp h a) = left_after a
  left (AtUncount r) = 1
  left (AtCount r) = 1
  left (AtGrow w g) = left_growing g
  left _ = 0

-- the count is so near to 0 that it stays within n of it until the call has counted what it has left
pub record Room (n left : ℕ) (count : ℤ) : Type 0 where
  pub most : (count +ℤ pos left) ≤ℤ pos n
  pub least : neg_ℤ (pos n) ≤ℤ (count -ℤ pos left)

pub near_of : (n l : ℕ) (z : ℤ) → Room n l z → Near n z
near_of n l z r = record { most = omega (arith, ints, r.most); least = omega (arith, ints, r.least) }

fewer : (n l m : ℕ) (z y : ℤ) → y ≡ z → m ≤ l → Room n l z → Room n m y
fewer n l m z y e h r = record { most = omega (arith, ints, r.most, h, e); least = omega (arith, ints, r.least, h, e) }

is_counting : (n l : ℕ) (z d : ℤ) → n ≤ MAX_LABELS → d ≤ℤ pos l → neg_ℤ (pos l) ≤ℤ d → l ≤ 1 → Room n l z → Room n 0 (saturate_signed w64 (z +ℤ d))
is_counting n l z d h u v w r = subst (Room n 0) (sym (in_range (z +ℤ d) (2 ^ 62) (omega arith) (omega (arith, ints, r.most, u, h, w)) (omega (arith, ints, r.least, v, h, w)))) (record { most = omega (arith, ints, r.most, u); least = omega (arith, ints, r.least, v) })

growing_most : {K V : Type 0} (g : GrowFor K V) → left_growing g ≤ 1
growing_most (ForInsert r) = omega arith
growing_most ForReserve = omega arith

module _ {K V F : Type 0} where
  after_most : (a : Resume K V F) → left_after a ≤ 1
  after_most (ThenBin t e) = omega arith
  after_most (ThenRecount r) = omega arith
  after_most (ThenGrow w g) = growing_most g

  pub left_most : (s : Stage K V F) → left s ≤ 1
  left_most (AtHelp h a) = after_most a
  left_most (AtGrow w g) = growing_most g
  left_most s = omega arith

  left_resumed : (a : Resume K V F) → left (resumed_stage a) ≡ left_after a
  left_resumed (ThenBin t e) = refl
  left_resumed a = refl

  left_helping : (o : Option Help) (a : Resume K V F) → left (stage_helping o a) ≡ left_after a
  left_helping None a = left_resumed a
  left_helping (Some h) a = refl

  -- an answer of a board counts nothing
  left_answered : (x : BoardAnswer) (s : Stage K V F) → left (stage_answered x s) ≡ left s
  left_answered x (AtHelp h a) = left_helping (help_after h x) a
  left_answered x s = refl

module _ {K V : Type 0} (F : Type 0) where
  left_advised : (m o : Option ℕ) (r : Outcome K V) (a : Advice) → left {F = F} (stage_advised m o r a) ≡ 0
  left_advised m o r Enough = refl
  left_advised m o r (Join e) = by_help (has_helped e m)
    where
      by_help : (b : Bool) → left {F = F} (if b then AtDone r else AtHelp (WantsSeat e) (ThenRecount r)) ≡ 0
      by_help true = refl
      by_help false = refl
  left_advised m None r Begin = refl
  left_advised m (Some e) r Begin = refl

  left_begun : (e : ℕ) (r : Outcome K V) (a : BeginOutcome) → left {F = F} (stage_begun e r a) ≡ 0
  left_begun e r begin.Begun = refl
  left_begun e r begin.Refused = refl
  left_begun e r begin.Busy = refl

  left_grown : (g : GrowFor K V) → left {F = F} (stage_grown g) ≡ left_growing g
  left_grown (ForInsert r) = refl
  left_grown ForReserve = refl

  left_of_growing : (e w : ℕ) (g : GrowFor K V) (a : BeginOutcome) → left {F = F} (stage_growing e w g a) ≡ left_growing g
  left_of_growing e w g begin.Begun = refl
  left_of_growing e w (ForInsert r) begin.Refused = refl
  left_of_growing e w ForReserve begin.Refused = refl
  left_of_growing e w g begin.Busy = left_grown g

-- what leaves the count as it is
same_count : (b b' c : ControlState) → b' ≡ c → c.count ≡ b.count → b'.count ≡ b.count
same_count b b' c e f = ap (λ z. z.count) e ∙ f

published_count : (e : ℕ) (b : ControlState) → (after_publish e b).count ≡ b.count
published_count e b = through (is_growing e b.growth)
  where
    through : (d : Bool) → (if d then record { published = Some (e + 1); growth = None; count = b.count } else b).count ≡ b.count
    through true = refl
    through false = refl

module _ {R : Type 0} (place : R → ℕ → Option ℕ → Bool → R → Type 0) where
  begin_count : (p e : ℕ) (b : ControlState) (r : R) (a : BeginOutcome) (b' : ControlState) (r' : R) → BeginGives place p e b r a b' r' → b'.count ≡ b.count
  begin_count p e b r begin.Begun b' r' (x, y, u) = ap (λ z. z.count) y
  begin_count p e b r a b' r' (x, y, u) = ap (λ z. z.count) y

module _ {K V F R : Type 0} (place : R → ℕ → Option ℕ → Bool → R → Type 0) (p n : ℕ) (helped : Option ℕ) (few : n ≤ MAX_LABELS) (b : ControlState) (r : R) (ev : Event) (st : Stage K V F) (b' : ControlState) (r' : R) where
  opens_for : (t : Task K V F) (v : Event) → OpensFor place p helped t b r v st b' r' → b'.count ≡ b.count
  opens_for t (event.Opened e) (x, y, z, u) = ap (λ z. z.count) z
  opens_for t event.Refused (x, y, u) = ap (λ z. z.count) y
  opens_for t v h = absurd h

  locates_none : (t : Task K V F) → LocatesNone place p helped t b r ev st b' r' → b'.count ≡ b.count
  locates_none (Inserts k v) h = opens_for (Inserts k v) ev h
  locates_none (Adds k v) h = opens_for (Adds k v) ev h
  locates_none (Alters k true f) h = opens_for (Alters k true f) ev h
  locates_none t (x, y, z, u) = ap (λ z. z.count) z

  located : (o : Option ℕ) (t : Task K V F) → MatchOption o (LocatesNone place p helped t b r ev st b' r') (λ e. (ev ≡ event.Silent) × (st ≡ AtBin t e) × (b' ≡ b) × (r' ≡ r)) → b'.count ≡ b.count
  located None t h = locates_none t h
  located (Some e) t (x, y, z, u) = ap (λ z. z.count) z

  makes_for : (w : ℕ) (v : Event) → MakesFor place p helped w b r v st b' r' → (b'.count ≡ b.count) × (left st ≡ 0)
  makes_for w (event.Opened e) (x, y, z, u) = (ap (λ z. z.count) z, ap left y)
  makes_for w event.Refused (x, y, u) = (ap (λ z. z.count) y, ap left x)
  makes_for w v h = absurd h

  reserved : (o : Option ℕ) (w : ℕ) → MatchOption o (MakesFor place p helped w b r ev st b' r') (λ e. (ev ≡ event.Silent) × (st ≡ AtGrow w ForReserve) × (b' ≡ b) × (r' ≡ r)) → (b'.count ≡ b.count) × (left st ≡ 0)
  reserved None w h = makes_for w ev h
  reserved (Some e) w (x, y, z, u) = (ap (λ z. z.count) z, ap left y)

  grown : (o : Option ℕ) (w : ℕ) (g : GrowFor K V)
      → MatchOption o ((ev ≡ event.Silent) × (st ≡ stage_grown g) × (b' ≡ b) × (r' ≡ r)) (λ e. (a : BeginOutcome) × BeginGives place p e b r a b' r' × (ev ≡ event_growing e g a) × (st ≡ stage_growing e w g a))
      → (b'.count ≡ b.count) × (left st ≡ left_growing g)
  grown None w g (x, y, z, u) = (ap (λ z. z.count) z, ap left y ∙ left_grown F g)
  grown (Some e) w g (a, gave, x, y) = (begin_count place p e b r a b' r' gave, ap left y ∙ left_of_growing F e w g a)

  at_control : (s : Stage K V F) → IsSingle s → StageAtControl place p helped s b r ev st b' r' → Room n (left s) b.count → Room n (left st) b'.count
  at_control (AtLocate t) single h m = fewer n 1 (left st) b.count b'.count (located b.published t h) (left_most st) m
  at_control (AtHelp (Publishing e) a) single (x, y, z, u) m = let l : left st ≡ left_after a = ap left y in fewer n (left_after a) (left st) b.count b'.count (ap (λ z. z.count) z ∙ published_count e b) (omega (arith, l)) m
  at_control (AtUncount q) single (x, y, z, u) m = let l : left st ≡ 0 = ap left y in fewer n 0 (left st) _ b'.count (ap (λ z. z.count) z) (omega (arith, l)) (is_counting n 1 b.count (negsuc 0) few (omega (arith, ints)) (omega (arith, ints)) (omega arith) m)
  at_control (AtCount q) single (x, y, z, u) m = let l : left st ≡ 0 = ap left y ∙ left_advised F helped b.published q _ in fewer n 0 (left st) _ b'.count (ap (λ z. z.count) z) (omega (arith, l)) (is_counting n 1 b.count (pos 1) few (omega (arith, ints)) (omega (arith, ints)) (omega arith) m)
  at_control (AtRecount q) single (x, y, z, u) m = let l : left st ≡ 0 = ap left y ∙ left_advised F helped b.published q _ in fewer n 0 (left st) _ b'.count (ap (λ z. z.count) z) (omega (arith, l)) (is_counting n 0 b.count (pos 0) few (omega (arith, ints)) (omega (arith, ints)) (omega arith) m)
  at_control (AtBegin e q) single (a, gave, x, y) m = let l : left st ≡ 0 = ap left y ∙ left_begun F e q a in fewer n 0 (left st) b.count b'.count (begin_count place p e b r a b' r' gave) (omega (arith, l)) m
  at_control (AtGrow w g) single h m = let l = grown (grows_from w b) w g h in fewer n (left_growing g) (left st) b.count b'.count l.0 (omega (arith, l.1)) m
  at_control (AtReserve a) single (w, sized, h) m = let l = reserved b.published w h in fewer n 0 (left st) b.count b'.count l.0 (omega (arith, l.1)) m
  at_control (AtSweep w) single h m = absurd single
  at_control s single h m = absurd h

module _ {K V F : Type 0} (cmp : K → K → Ordering) (changes : F → K → Option V → Verdict V → Type 0) (n : ℕ) (few : n ≤ MAX_LABELS) (c : PartyState K V F) (b : ControlState) (t : Tables K V) (ev : Event) (c' : PartyState K V F) (b' : ControlState) (t' : Tables K V) (m : Room n (left c.stage) b.count) where
  at_slot : (q q' : SlotState K V) (s : Stage K V F) → c.stage ≡ s → IsSingle s → StageAtSlot cmp changes c.hash s q.content ev c'.stage q'.content → b' ≡ b → Room n (left c'.stage) b'.count
  at_slot q q' (AtBin u e) f single h y = fewer n (left c.stage) (left c'.stage) b.count b'.count (ap (λ z. z.count) y) (omega (arith, left_most c'.stage, ap left f)) m
  at_slot q q' (AtSweep w) f single h y = absurd single
  at_slot q q' s f single h y = absurd h

  moved_left : (s : Stage K V F) → left (moved_stage s) ≡ left s
  moved_left (AtBin u e) = refl
  moved_left s = refl

  at_move : (q low high q' low' high' : SlotState K V) (v : Event) → MoveGives c q low high v c' q' low' high' → b' ≡ b → Room n (left c'.stage) b'.count
  at_move q low high q' low' high' v h y = fewer n (left c.stage) (left c'.stage) b.count b'.count (ap (λ z. z.count) y) (omega (arith, same v h)) m
    where
      same : (v : Event) → MoveGives c q low high v c' q' low' high' → left c'.stage ≡ left c.stage
      same (event.Moved g j) u = ap (λ r. left r.stage) u.3 ∙ moved_left c.stage
      same event.Silent (_, _, _, inl (moved, u)) = ap (λ r. left r.stage) u ∙ moved_left c.stage
      same event.Silent (_, _, _, inr (clash, u)) = ap (λ r. left r.stage) u
      same event.Decide u = absurd u
      same event.Refused u = absurd u
      same (event.Opened g) u = absurd u
      same (event.Placed g) u = absurd u
      same event.Read u = absurd u
      same (event.Wipe _ _) u = absurd u
      same (event.Published g) u = absurd u

  at_board : (x : BoardAnswer) → BoardStep c x ev c' → b' ≡ b → Room n (left c'.stage) b'.count
  at_board x h y = fewer n (left c.stage) (left c'.stage) b.count b'.count (ap (λ z. z.count) y) (omega (arith, ap (λ z. left z.stage) h.after, left_answered x c.stage)) m

  -- a step of the call, at whichever part
  pub room_left : IsSingle c.stage → (a : Part) → PartStep cmp changes a c b t ev c' b' t' → Room n (left c'.stage) b'.count
  room_left single ControlPart h = at_control PlaceGives c.processors n c.helped few b t ev c'.stage b' t' c.stage single h.step m
  room_left single (LookPart e i) (q, there, inside, h, y, z) = at_slot q q c.stage refl single h.step y
  room_left single (BinPart e i) (q, q', there, inside, h, y, z) = at_slot q q' c.stage refl single h.step y
  room_left single (MovePart e i) (q, low, high, q', low', high', old_at, low_at, high_at, inside, h, y, z) = at_move q low high q' low' high' ev h.step y
  room_left single (SeatPart e) (x, h, gives, y) = at_board x h y
  room_left single (BoardPart e) (x, h, gives, y) = at_board x h y
  room_left single (GivePart e) (x, h, gives, y) = at_board x h y
  room_left single NoPart h = absurd h
