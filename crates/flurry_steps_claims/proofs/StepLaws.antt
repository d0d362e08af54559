-- Each atomic step keeps the rule.
use Rattle.std.proofs.Common.{◌≡◌, ℕ, zero, suc, ◌+◌, ◌%◌, ◌^◌, ◌<◌, eqb, List, [], ◌∷◌, length, get_or, set, refl, sym, ◌∙◌, subst, arith, length-set, get_or-set_same, get_or-set_other, eq-eqb, ne_eqb, eqb-true}
use mathlib.Core.Logic.{dite}
use mathlib.Core.Option.{none, some, some-ne-none}
use native.Mathlib.Decide.{ℕ_discrete}
use lib.ListN.{get_elem?}
use prog.Atomic.{either}
use Rattle.atomic_table.specs.Table.{State, step, keeps, stepped, Allows, Enters, Joins}
use Rattle.atomic_table.proofs.Lists.{set_else}
use Rattle.flurry_steps_claims.specs.declared.seat_notes.SeatNotes.{SeatNotes}
use Rattle.flurry_base.specs.Occurrences.{occurrences}
use Rattle.flurry_steps_claims.specs.SeatNotes.{MayReport, new_notes, joint_notes, with_next, after_claim, notes_after_report}
use Rattle.flurry_steps_claims.specs.BoardRule.{IsBoard, BoardRule}
use Rattle.flurry_steps_claims.specs.AtomicSteps.{SeatState, SitGives, LoadGives, ExchangeGives, AddGives}
use Rattle.flurry_steps_claims.proofs.BoardLaws.{join_keeps, may_report, load_keeps, claim_keeps, report_keeps, sit_keeps, not_last, all_reported, reports_full}

abbrev BoardState : Type 0
BoardState = State (Unit {0}) SeatNotes

module _ (ranges : ℕ) where
  -- the words after a write to one of the two
  first_word : (s : BoardState) (n : ℕ) (seats : List SeatNotes) → length s.words ≡ 2 → IsBoard ranges n (get_or s.words 1 0) seats → BoardRule ranges record { words = set s.words 0 n; homes = s.homes; views = seats }
  first_word s n seats two board = (
    length-set s.words 0 n ∙ two,
    subst (λ (w : ℕ × ℕ). IsBoard ranges w.0 w.1 seats) (λ i. (sym (get_or-set_same s.words 0 n 0 (omega arith)) i, sym (get_or-set_other s.words 0 1 n 0 (λ e. omega arith)) i)) board,
  )

  second_word : (s : BoardState) (n : ℕ) (seats : List SeatNotes) → length s.words ≡ 2 → IsBoard ranges (get_or s.words 0 0) n seats → BoardRule ranges record { words = set s.words 1 n; homes = s.homes; views = seats }
  second_word s n seats two board = (
    length-set s.words 1 n ∙ two,
    subst (λ (w : ℕ × ℕ). IsBoard ranges w.0 w.1 seats) (λ i. (sym (get_or-set_other s.words 1 0 n 0 (λ e. omega arith)) i, sym (get_or-set_same s.words 1 n 0 (omega arith)) i)) board,
  )

  there : (seats : List SeatNotes) (id : ℕ) (v w : SeatNotes) → get_elem? seats id ≡ some v → get_elem? (set seats id w) id ≡ some w
  there [] id v w at = absurd (some-ne-none v (sym at))
  there (u ∷ us) zero v w at = refl
  there (u ∷ us) (suc id) v w at = there us id v w at

  pub sit_allowed : (slots : ℕ) (v : SeatNotes) → Enters (BoardRule ranges) slots 0 (λ r w. SitGives (step slots 0 0 0 none) (v, []) r (w, []))
  sit_allowed slots v s board _ _ = (new_notes, (board.0, sit_keeps ranges _ _ s.views board.1), (refl, refl))

  pub load_at_its_own : (slots id : ℕ) (me : SeatState) → Allows (BoardRule ranges) slots id me 0 (λ n. n) (LoadGives ranges (step slots 0 0 0 none) me)
  load_at_its_own slots id me s board _ at _ =
      let x : ℕ = get_or s.words 0 0 in
      let w = with_next me.0 x in
      let after = load_keeps ranges x (get_or s.words 1 0) s.views board.1 id me.0 at in (
        w,
        keeps,
        tt,
        first_word s x (set s.views id w) board.0 after,
        (
          refl,
          (board.1.seat id me.0 at).next,
          board.1.within,
          (record { next = x; reports = get_or s.words 1 0; seats = set s.views id w; place = id; board = after; is_there = there s.views id me.0 w at }, refl),
          refl,
        ),
      )

  pub exchange_at_its_own : (slots id : ℕ) (me : SeatState) (old : ℕ) → old < ranges → me.0.next ≡ old
      → Allows (BoardRule ranges) slots id me 0 (λ n. either (eqb n old) (old + 1) n) (ExchangeGives ranges (step slots 0 old (old + 1) none) me)
  exchange_at_its_own slots id me old room is s board _ at _ =
      let x : ℕ = get_or s.words 0 0 in
      let y : ℕ = get_or s.words 1 0 in
      let known = (board.1.seat id me.0 at).next in
      dite (ℕ_discrete x old)
      (λ hit.
      let w = after_claim me.0 x in
      let after = claim_keeps ranges x y s.views board.1 id me.0 at (omega arith) in (
        w,
        keeps,
        tt,
        subst (λ b. BoardRule ranges (stepped s 0 (either b (old + 1) x) id me.1 w keeps)) (sym (eq-eqb x old hit))
            (subst (λ (n : ℕ). BoardRule ranges (stepped s 0 (n + 1) id me.1 w keeps)) hit (first_word s (x + 1) (set s.views id w) board.0 after)),
        (
          (λ _. (refl, may_report ranges x y s.views board.1 id me.0 at, record { next = x + 1; reports = y; seats = set s.views id w; place = id; board = after; is_there = there s.views id me.0 w at })),
          (λ miss. absurd (miss hit)),
          refl,
        ),
      ))
      (λ miss.
      let w = with_next me.0 x in
      let after = load_keeps ranges x y s.views board.1 id me.0 at in (
        w,
        keeps,
        tt,
        subst (λ b. BoardRule ranges (stepped s 0 (either b (old + 1) x) id me.1 w keeps)) (sym (ne_eqb x old miss)) (first_word s x (set s.views id w) board.0 after),
        (
          (λ hit. absurd (miss hit)),
          (λ _. (refl, omega arith, board.1.within, record { next = x; reports = y; seats = set s.views id w; place = id; board = after; is_there = there s.views id me.0 w at })),
          refl,
        ),
      ))

  pub add_at_its_own : (slots id k : ℕ) (me : SeatState) → ranges < 2 ^ 64 → MayReport me.0 k
      → Allows (BoardRule ranges) slots id me 1 (λ n. (n + 1) % 2 ^ 64) (AddGives ranges k (step slots 1 1 0 none) me)
  add_at_its_own slots id k me small own s board _ at _ =
      let less : occurrences k me.0.reports < occurrences k me.0.claims = omega (arith, own) in
      let x : ℕ = get_or s.words 0 0 in
      let y : ℕ = get_or s.words 1 0 in
      let w = notes_after_report me.0 k (eqb (y + 1) ranges) in
      let after = report_keeps ranges x y s.views board.1 id k me.0 at less in
      let short = not_last ranges x y s.views board.1 id k me.0 at less in
      let same : y + 1 ≡ (y + 1) % 2 ^ 64 = omega arith in
      let seats' : List SeatNotes = set s.views id w in (
        w,
        keeps,
        tt,
        subst (λ (n : ℕ). BoardRule ranges (stepped s 1 n id me.1 w keeps)) same (second_word s (y + 1) seats' board.0 after),
        (
          refl,
          short,
          (
            record { next = x; reports = y + 1; seats = seats'; place = id; board = after; is_there = there s.views id me.0 w at },
            (
              (λ full. all_reported ranges x (y + 1) seats' after (eqb-true (y + 1) ranges full)),
              (λ all. eq-eqb (y + 1) ranges (reports_full ranges x (y + 1) seats' after all)),
            ),
          ),
          refl,
        ),
      )

-- two seats become one
pub join_allowed : (ranges id : ℕ) (v : SeatNotes) (other : ℕ) (w : SeatNotes) → Joins (BoardRule ranges) id v other w (joint_notes v w) new_notes
join_allowed ranges id v other w s board at apart there =
    (board.0, join_keeps ranges _ _ s.views board.1 id other v w at apart (sym (set_else s.views id other (joint_notes v w) apart) ∙ there))

-- the steps, at a number of ranges that the call picks
pub load_allowed : (ranges picked slots id : ℕ) (me : SeatState) → picked ≡ ranges → Allows (BoardRule ranges) slots id me 0 (λ n. n) (LoadGives picked (step slots 0 0 0 none) me)
load_allowed ranges picked slots id me is = subst (λ (n : ℕ). Allows (BoardRule ranges) slots id me 0 (λ n. n) (LoadGives n (step slots 0 0 0 none) me)) (sym is) (load_at_its_own ranges slots id me)

pub exchange_allowed : (ranges picked slots id : ℕ) (me : SeatState) (old : ℕ) → picked ≡ ranges → old < ranges → me.0.next ≡ old
    → Allows (BoardRule ranges) slots id me 0 (λ n. either (eqb n old) (old + 1) n) (ExchangeGives picked (step slots 0 old (old + 1) none) me)
exchange_allowed ranges picked slots id me old is room known = subst (λ (n : ℕ). Allows (BoardRule ranges) slots id me 0 (λ n. either (eqb n old) (old + 1) n) (ExchangeGives n (step slots 0 old (old + 1) none) me)) (sym is) (exchange_at_its_own ranges slots id me old room known)

pub add_allowed : (ranges picked slots id k number : ℕ) (me : SeatState) → picked ≡ ranges → number ≡ k → ranges < 2 ^ 64 → MayReport me.0 k
    → Allows (BoardRule ranges) slots id me 1 (λ n. (n + 1) % 2 ^ 64) (AddGives picked number (step slots 1 1 0 none) me)
add_allowed ranges picked slots id k number me is same small less = subst (λ (n : ℕ × ℕ). Allows (BoardRule ranges) slots id me 1 (λ n. (n + 1) % 2 ^ 64) (AddGives n.0 n.1 (step slots 1 1 0 none) me)) (λ i. (sym is i, sym same i)) (add_at_its_own ranges slots id k me small less)
