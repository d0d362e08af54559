-- A call that needs the board of a growth, or a seat there, helps that growth.
use Rattle.std.specs.Prelude.{◌≡◌, ℕ, Bool, true, false, if◌then◌else◌, Option, Some, None}
use Rattle.std.proofs.Common.{refl, sym, ap, subst}
use Rattle.flurry_steps_claims.specs.Range.{Bounds}
use Rattle.flurry_steps_claims.specs.declared.range.Attempt.{Attempt}
use Rattle.flurry_steps_control.specs.Claim.{ClaimState, next_of}
use Rattle.flurry_steps_sweep.specs.Part.{ControlPart, MovePart, SeatPart, BoardPart, GivePart}
use Rattle.flurry_steps_sweep.specs.Sweep.{SweepKind, Reads, Wipes, SweepStage, AtSweepStart, OverBins, AtTotal, AtEnd, AfterEnd, part_at}
use Rattle.flurry_steps_sweep.specs.declared.step.Event.{Event}
use Rattle.flurry_steps_sweep.specs.declared.step.Event.TheVariants.{Silent}
use Rattle.flurry_steps.specs.Field.{board_of}
use Rattle.flurry_steps_stages.specs.Help.{Help, WantsSeat, AtBoard, Moving, Publishing, GivesBack, move_part, help_part}
use Rattle.flurry_steps_stages.specs.Stage.{Task, Finds, Removes, RemovesSeen, Inserts, Adds, Computes, Alters, Resume, Stage, AtLocate, AtBin, AtHelp, AtUncount, AtCount, AtRecount, AtBegin, AtGrow, AtReserve, AtSweep, AtDone, AtTaken, bin_part, part_of}
use Rattle.flurry_steps.specs.Party.{PartyState, wanted_part, with_stage}
use Rattle.flurry_steps.specs.PartyBoard.{Seated, Attempted, Reported, TakenBack, IsAttempt, HelpAsks, StageAsks, BoardStep, stage_answered, helped_answered, range_to_report, stage_unclaimed, IsAtBoard, stage_told}

no_bin : {K V F : Type 0} (t : Task K V F) (e i d : ℕ) → board_of (bin_part t e i) ≡ Some d → ⊥
no_bin (Finds w k) e i d same = cc
no_bin (Removes w k) e i d same = cc
no_bin (RemovesSeen z) e i d same = cc
no_bin (Inserts k v) e i d same = cc
no_bin (Adds k v) e i d same = cc
no_bin (Computes k f) e i d same = cc
no_bin (Alters k may_add f) e i d same = cc

no_sweep : {K V : Type 0} (w : SweepKind) (s : SweepStage K V) (d : ℕ) → board_of (part_at w s) ≡ Some d → ⊥
no_sweep w AtSweepStart d same = cc
no_sweep Reads (OverBins c) d same = cc
no_sweep (Wipes n) (OverBins c) d same = cc
no_sweep w AtTotal d same = cc
no_sweep w (AtEnd r) d same = cc
no_sweep w AfterEnd d same = cc

module _ {K V F : Type 0} (h : ℕ) where
  -- a call that needs a board helps
  pub helper : (s : Stage K V F) (e : ℕ) → board_of (part_of h s) ≡ Some e → (k : Help) × (a : Resume K V F) × (s ≡ AtHelp k a)
  helper (AtLocate t) e same = let clash : None ≡ Some e = same in cc
  helper (AtBin t d) e same = absurd (no_bin t d _ e same)
  helper (AtHelp k a) e same = (k, a, refl)
  helper (AtUncount r) e same = let clash : None ≡ Some e = same in cc
  helper (AtCount r) e same = let clash : None ≡ Some e = same in cc
  helper (AtRecount r) e same = let clash : None ≡ Some e = same in cc
  helper (AtBegin d r) e same = let clash : None ≡ Some e = same in cc
  helper (AtGrow w g) e same = let clash : None ≡ Some e = same in cc
  helper (AtReserve n) e same = let clash : None ≡ Some e = same in cc
  helper (AtSweep w) e same = absurd (no_sweep w.kind w.stage e same)
  helper (AtDone r) e same = let clash : None ≡ Some e = same in cc
  helper AtTaken e same = let clash : None ≡ Some e = same in cc

moves_no_seat : (d : ℕ) (o : Option (ℕ × ℕ)) (e : ℕ) → move_part d o ≡ SeatPart e → ⊥
moves_no_seat d None e same = cc
moves_no_seat d (Some b) e same = cc

moves_no_give : (d : ℕ) (o : Option (ℕ × ℕ)) (e : ℕ) → move_part d o ≡ GivePart e → ⊥
moves_no_give d None e same = cc
moves_no_give d (Some b) e same = cc

-- a claim whose bins have not all moved needs no board
moves_first : (b : Bool) (d : ℕ) (n : ℕ × ℕ) (r : Bounds) (e : ℕ) → move_part d (if b then Some n else None) ≡ BoardPart e → (if b then None else Some r) ≡ None → ⊥
moves_first true d n r e part none = let clash : MovePart n.0 n.1 ≡ BoardPart e = part in cc
moves_first false d n r e part none = let clash : Some r ≡ None = none in cc

help_seat : (k : Help) (e : ℕ) (got : Bool) → help_part k ≡ SeatPart e → HelpAsks k (Seated got)
help_seat (WantsSeat d) e got same = tt
help_seat (AtBoard d) e got same = let clash : BoardPart d ≡ SeatPart e = same in cc
help_seat (Moving c) e got same = absurd (moves_no_seat _ (next_of c) e same)
help_seat (Publishing d) e got same = let clash : ControlPart ≡ SeatPart e = same in cc
help_seat (GivesBack d) e got same = let clash : GivePart d ≡ SeatPart e = same in cc

help_give : (k : Help) (e : ℕ) → help_part k ≡ GivePart e → HelpAsks k TakenBack
help_give (WantsSeat d) e same = let clash : SeatPart d ≡ GivePart e = same in cc
help_give (AtBoard d) e same = let clash : BoardPart d ≡ GivePart e = same in cc
help_give (Moving c) e same = absurd (moves_no_give _ (next_of c) e same)
help_give (Publishing d) e same = let clash : ControlPart ≡ GivePart e = same in cc
help_give (GivesBack d) e same = tt

module _ {K V F : Type 0} where
  help_attempt : (k : Help) (a : Resume K V F) (e : ℕ) (x : Attempt) → help_part k ≡ BoardPart e → range_to_report (AtHelp k a) ≡ None → IsAttempt e x → HelpAsks k (Attempted x)
  help_attempt (WantsSeat d) a e x same none of = let clash : SeatPart d ≡ BoardPart e = same in cc
  help_attempt (AtBoard d) a e x same none of =
      let here : BoardPart d ≡ BoardPart e = same in
      let at : d ≡ e = cc in
      subst (λ n. IsAttempt n x) (sym at) of
  help_attempt (Moving c) a e x same none of = absurd (moves_first _ c.range.table _ c.range e same none)
  help_attempt (Publishing d) a e x same none of = let clash : ControlPart ≡ BoardPart e = same in cc
  help_attempt (GivesBack d) a e x same none of = let clash : GivePart d ≡ BoardPart e = same in cc

  -- a call that needs a seat is answered whether it got one
  pub asks_seat : (p : PartyState K V F) (e : ℕ) (got : Bool) → wanted_part p ≡ SeatPart e → StageAsks p.stage (Seated got)
  asks_seat p e got same =
      let at = helper p.hash p.stage e (ap board_of same) in
      rw at.2 (help_seat at.0 e got (rw at.2 at same))

  -- one that needs the board, and has no range to report, is answered what came of an attempt there
  pub asks_attempt : (p : PartyState K V F) (e : ℕ) (x : Attempt) → wanted_part p ≡ BoardPart e → range_to_report p.stage ≡ None → IsAttempt e x → StageAsks p.stage (Attempted x)
  asks_attempt p e x same none of =
      let at = helper p.hash p.stage e (ap board_of same) in
      rw at.2 (help_attempt at.0 at.1 e x (rw at.2 at same) (rw at.2 at none) of)

  -- and one that gives its seat back, that it was taken
  pub asks_give : (p : PartyState K V F) (e : ℕ) → wanted_part p ≡ GivePart e → StageAsks p.stage TakenBack
  asks_give p e same =
      let at = helper p.hash p.stage e (ap board_of same) in
      rw at.2 (help_give at.0 e (rw at.2 at same))

  -- ---- a report in two parts

  -- a call that is to report a range moved the bins of its claim
  pub reporter : (s : Stage K V F) (r : Bounds) → range_to_report s ≡ Some r → (c : ClaimState) × (a : Resume K V F) × (s ≡ AtHelp (Moving c) a)
  reporter (AtHelp (Moving c) a) r is = (c, a, refl)
  reporter (AtHelp (WantsSeat e) a) r is = let clash : None ≡ Some r = is in cc
  reporter (AtHelp (AtBoard e) a) r is = let clash : None ≡ Some r = is in cc
  reporter (AtHelp (Publishing e) a) r is = let clash : None ≡ Some r = is in cc
  reporter (AtHelp (GivesBack e) a) r is = let clash : None ≡ Some r = is in cc
  reporter (AtLocate t) r is = let clash : None ≡ Some r = is in cc
  reporter (AtBin t d) r is = let clash : None ≡ Some r = is in cc
  reporter (AtUncount q) r is = let clash : None ≡ Some r = is in cc
  reporter (AtCount q) r is = let clash : None ≡ Some r = is in cc
  reporter (AtRecount q) r is = let clash : None ≡ Some r = is in cc
  reporter (AtBegin d q) r is = let clash : None ≡ Some r = is in cc
  reporter (AtGrow w g) r is = let clash : None ≡ Some r = is in cc
  reporter (AtReserve n) r is = let clash : None ≡ Some r = is in cc
  reporter (AtSweep w) r is = let clash : None ≡ Some r = is in cc
  reporter (AtDone q) r is = let clash : None ≡ Some r = is in cc
  reporter AtTaken r is = let clash : None ≡ Some r = is in cc

  -- once the range came out, the call is to be told what came of the report
  pub comes_out : (s : Stage K V F) (r : Bounds) → range_to_report s ≡ Some r → IsAtBoard (stage_unclaimed s)
  comes_out s r is = let at = reporter s r is in subst (λ z. IsAtBoard (stage_unclaimed z)) (sym at.2) tt

  told_at : (c : ClaimState) (a : Resume K V F) (r : Bounds) (last : Bool) → stage_told {F = F} last (AtHelp (AtBoard c.range.table) a) ≡ stage_answered (Reported r last) (AtHelp (Moving c) a)
  told_at c a r true = refl
  told_at c a r false = refl

  told : (s : Stage K V F) (r : Bounds) (last : Bool) → range_to_report s ≡ Some r → stage_told last (stage_unclaimed s) ≡ stage_answered (Reported r last) s
  told s r last is = let at = reporter s r is in subst (λ z. stage_told last (stage_unclaimed z) ≡ stage_answered (Reported r last) z) (sym at.2) (told_at at.0 at.1 r last)

  still_helped : (s : Stage K V F) (r : Bounds) (last : Bool) (m : Option ℕ) → range_to_report s ≡ Some r → m ≡ helped_answered (Reported r last) s m
  still_helped s r last m is = let at = reporter s r is in subst (λ z. m ≡ helped_answered (Reported r last) z m) (sym at.2) refl

  asks_report : (s : Stage K V F) (r : Bounds) (last : Bool) → range_to_report s ≡ Some r → StageAsks s (Reported r last)
  asks_report s r last is = let at = reporter s r is in subst (λ z. range_to_report z ≡ Some r → StageAsks z (Reported r last)) (sym at.2) (λ y. y) is

  -- and with that, its step is done
  pub reported : (p between p' : PartyState K V F) (r : Bounds) (last : Bool) (ev : Event) → range_to_report p.stage ≡ Some r → between ≡ with_stage p (stage_unclaimed p.stage)
      → ev ≡ Silent → p' ≡ with_stage between (stage_told last between.stage) → BoardStep p (Reported r last) ev p'
  reported p between p' r last ev is out silent after = record {
    asks = asks_report p.stage r last is;
    range = tt;
    silent = silent;
    after = rw (← still_helped p.stage r last p.helped is, ← told p.stage r last is) (rw out at after);
  }
