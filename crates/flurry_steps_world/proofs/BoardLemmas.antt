-- The boards of tables, at their places.
use Rattle.std.proofs.Common.{◌≡◌, ℕ, ◌+◌, ◌<◌, ◌≤◌, Bool, true, false, List, length, set, get_or, Option, Some, None, refl, sym, ap, subst, ◌∙◌, arith}
use Rattle.std.specs.Prelude.{MatchOption, nat_lt, if◌then◌else◌}
use Rattle.std.proofs.lemmas.List.{get_or_past, length-map}
use Rattle.flurry_steps_claims.specs.PlainBoard.{PlainBoardState, unclaimed_of, has_seat, attempt_of, reports_last, board_after_take, after_attempt, after_report, after_give}
use Rattle.flurry_steps_claims.specs.Range.{Bounds, range_at}
use Rattle.flurry_steps_claims.specs.declared.range.Attempt.{Attempt}
use Rattle.flurry_steps_claims.specs.declared.range.Attempt.TheVariants.{Got, Nothing}
use Rattle.flurry_steps.specs.PartyBoard.{Seated, Attempted, Reported, TakenBack, IsAttempt}
use Rattle.flurry_steps_world.specs.Parts.{BoardGives}
use Rattle.flurry_steps_world.specs.Tables.{Tables, board_at, put_board, AreTables}
use Rattle.flurry_steps_world.specs.declared.tables.Table.{Table}
use Rattle.flurry_steps_world.proofs.TableLaws.{AreTables-put_board}
use Rattle.flurry_steps_world.proofs.ViewLemmas.{seen, board_here, board_put_here}

-- a range that is claimed at a board is of the board's table
pub attempt_is : (d : PlainBoardState) (e : ℕ) → d.table ≡ e → IsAttempt e (attempt_of d)
attempt_is d e same = by_left (nat_lt 0 (unclaimed_of d))
  where
    by_left : (b : Bool) → IsAttempt e (if b then Got (range_at d.table d.stride d.next) else Nothing)
    by_left true = same
    by_left false = tt

module _ {K V : Type 0} where
  module _ (t t' : Tables K V) (e : ℕ) where
    pub no_seat : board_at t e ≡ None → t' ≡ t → BoardGives e (Seated false) t t'
    no_seat none stays = subst (λ o. MatchOption o ((false ≡ false) × (t' ≡ t)) (λ d. (false ≡ has_seat d) × (t' ≡ put_board t e (board_after_take d)))) (sym none) (refl, stays)

    pub no_claim : board_at t e ≡ None → t' ≡ t → BoardGives e (Attempted Nothing) t t'
    no_claim none stays = subst (λ o. MatchOption o ((Nothing ≡ Nothing) × (t' ≡ t)) (λ d. (Nothing ≡ attempt_of d) × (t' ≡ put_board t e (after_attempt d)))) (sym none) (refl, stays)

    pub no_report : (r : Bounds) → board_at t e ≡ None → t' ≡ t → BoardGives e (Reported r false) t t'
    no_report r none stays = subst (λ o. MatchOption o ((false ≡ false) × (t' ≡ t)) (λ d. (false ≡ reports_last d r) × (t' ≡ put_board t e (after_report d r)))) (sym none) (refl, stays)

    pub no_give : board_at t e ≡ None → t' ≡ t → BoardGives e TakenBack t t'
    no_give none stays = subst (λ o. MatchOption o (t' ≡ t) (λ d. t' ≡ put_board t e (after_give d))) (sym none) stays

    module _ (d : PlainBoardState) (at : board_at t e ≡ Some d) where
      pub seat_taken : (got : Bool) → got ≡ has_seat d → t' ≡ put_board t e (board_after_take d) → BoardGives e (Seated got) t t'
      seat_taken got is after = subst (λ o. MatchOption o ((got ≡ false) × (t' ≡ t)) (λ d. (got ≡ has_seat d) × (t' ≡ put_board t e (board_after_take d)))) (sym at) (is, after)

      pub attempted : (x : Attempt) → x ≡ attempt_of d → t' ≡ put_board t e (after_attempt d) → BoardGives e (Attempted x) t t'
      attempted x is after = subst (λ o. MatchOption o ((x ≡ Nothing) × (t' ≡ t)) (λ d. (x ≡ attempt_of d) × (t' ≡ put_board t e (after_attempt d)))) (sym at) (is, after)

      pub reported : (r : Bounds) (last : Bool) → last ≡ reports_last d r → t' ≡ put_board t e (after_report d r) → BoardGives e (Reported r last) t t'
      reported r last is after = subst (λ o. MatchOption o ((last ≡ false) × (t' ≡ t)) (λ d. (last ≡ reports_last d r) × (t' ≡ put_board t e (after_report d r)))) (sym at) (is, after)

      pub seat_given : t' ≡ put_board t e (after_give d) → BoardGives e TakenBack t t'
      seat_given after = subst (λ o. MatchOption o (t' ≡ t) (λ d. t' ≡ put_board t e (after_give d))) (sym at) after

-- no growth begins from the last table
pub none_past : {K V A : Type 0} (xs : List (Table K V A)) (e : ℕ) → length xs ≤ e + 1 → board_at (seen xs) e ≡ None
none_past {K} {V} {A} xs e past = let f : Table K V A → Option PlainBoardState = λ w. w.board in get_or_past (seen xs).boards (e + 1) None (omega (arith, length-map xs f))

-- the board of the growth from table e, in the next table
module _ {K V A : Type 0} (xs : List (Table K V A)) (e : ℕ) (v : Table K V A) (lt : e + 1 < length xs) (is : v ≡ get_or xs (e + 1) v) where
  pub board_there : (b : Option PlainBoardState) → v.board ≡ b → board_at (seen xs) e ≡ b
  board_there b at = board_here xs (e + 1) v lt is ∙ at

  pub put_there : (d z : PlainBoardState) → z ≡ d → seen (set xs (e + 1) (record { slots = v.slots; board = Some z })) ≡ put_board (seen xs) e d
  put_there d z same = board_put_here xs (e + 1) v lt is d (record { slots = v.slots; board = Some z }) refl (ap Some same)

  pub kept_there : (b d z : PlainBoardState) → AreTables (seen xs) → v.board ≡ Some b → z ≡ d → d.table ≡ b.table → AreTables (seen (set xs (e + 1) (record { slots = v.slots; board = Some z })))
  kept_there b d z are at same table = subst AreTables (sym (put_there d z same)) (AreTables-put_board (seen xs) e d b are (board_there (Some b) at) table)
