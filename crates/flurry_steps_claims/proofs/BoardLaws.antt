-- What follows from the rule, and that each change of a view keeps it.
use Rattle.std.proofs.Common.{◌≡◌, ℕ, zero, suc, ◌+◌, ◌<◌, ◌≤◌, ◌≢◌, ◌⊎◌, Bool, true, false, cond, eqb, List, [], ◌∷◌, ◌++◌, length, set, refl, sym, ◌∙◌, subst, ⊎_elim, arith, length-append}
use Rattle.std.proofs.lemmas.Bool.Decides.{nat_tests}
use Rattle.std.proofs.lemmas.List.Sums.{sum_by_push, sum_by-append}
use mathlib.Core.Option.{some, some-injective, some-ne-none}
use lib.ListN.{get_elem?}
use Rattle.atomic_table.proofs.Lists.{at_set, at_snoc, set_else}
use Rattle.flurry_steps_claims.specs.declared.seat_notes.SeatNotes.{SeatNotes}
use Rattle.flurry_base.specs.Occurrences.{occurrences}
use Rattle.flurry_steps_claims.specs.SeatNotes.{MayReport, new_notes, joint_notes, with_next, after_claim, notes_after_report}
use Rattle.flurry_steps_claims.specs.BoardRule.{claim_count, report_count, last_report_count, one_below, IsSeat, IsBoard, AllClaimed, AllReported}
use Rattle.flurry_steps_claims.proofs.SumLaws.{bit, item_le, sum_set, sum_le, sum_lt, up_to, up_to_le, up_to_lacks, up_to_ones, reports_all}

once_le : (n k : ℕ) → one_below n k ≤ 1
once_le n k = grind (arith, nat_tests)

once_above : (n k : ℕ) → n ≤ k → one_below n k ≡ 0
once_above n k h = grind (arith, nat_tests)

once_under : (n k : ℕ) → k < n → one_below n k ≡ 1
once_under n k h = grind (arith, nat_tests)

once_more : (n k : ℕ) → one_below (n + 1) k ≡ one_below n k + cond (eqb n k) 1 0
once_more n k = grind (arith, nat_tests)

pub times_push : (k : ℕ) (xs : List ℕ) (y : ℕ) → occurrences k (xs ++ y ∷ []) ≡ occurrences k xs + cond (eqb y k) 1 0
times_push k xs y = sum_by_push (λ (x : ℕ). cond (eqb x k) 1 0) xs y

pub occurrences-append : (k : ℕ) (xs ys : List ℕ) → occurrences k (xs ++ ys) ≡ occurrences k xs + occurrences k ys
occurrences-append k xs ys = sum_by-append (λ (x : ℕ). cond (eqb x k) 1 0) xs ys

module _ (ranges next reports : ℕ) (seats : List SeatNotes) (board : IsBoard ranges next reports seats) where
  reports_le_claims : (k : ℕ) → report_count k seats ≤ claim_count k seats
  reports_le_claims k = sum_le (λ (v : SeatNotes). occurrences k v.reports) (λ (v : SeatNotes). occurrences k v.claims) seats (λ i v e. (board.seat i v e).reports k)

  reports_at_most_once : (k : ℕ) → report_count k seats ≤ 1
  reports_at_most_once k = omega (arith, reports_le_claims k, board.claims k, once_le next k)

  no_reports_above : (k : ℕ) → ranges ≤ k → report_count k seats ≡ 0
  no_reports_above k h = let w = board.within in omega (arith, reports_le_claims k, board.claims k, once_above next k (omega arith))

  pub reports_is : up_to (λ k. report_count k seats) ranges ≡ reports
  reports_is = reports_all seats ranges no_reports_above ∙ sym board.count

  pub reports_le : reports ≤ ranges
  reports_le = omega (arith, reports_is, up_to_le (λ k. report_count k seats) ranges reports_at_most_once)

  pub all_reported : reports ≡ ranges → AllReported ranges seats
  all_reported full k less = ⊎_elim
      (λ (none : report_count k seats ≡ 0). absurd (omega (arith, reports_is, up_to_lacks (λ j. report_count j seats) ranges k reports_at_most_once less none)))
      (λ (one : report_count k seats ≡ 1). one)
      (two (report_count k seats) (reports_at_most_once k))
    where
      two : (n : ℕ) → n ≤ 1 → (n ≡ 0) ⊎ (n ≡ 1)
      two n h = grind arith

  -- one seat claimed no range twice
  pub claims_le : (seat : ℕ) (v : SeatNotes) → get_elem? seats seat ≡ some v → (k : ℕ) → occurrences k v.claims ≤ 1
  claims_le seat v at k = omega (arith, item_le (λ (u : SeatNotes). occurrences k u.claims) seats seat v at, board.claims k, once_le next k)

  -- nor was it told twice that its report was the last
  pub last_reports_le : (seat : ℕ) (v : SeatNotes) → get_elem? seats seat ≡ some v → v.last_reports ≤ 1
  last_reports_le seat v at = omega (arith, item_le (λ (u : SeatNotes). u.last_reports) seats seat v at, board.last, small (eqb reports ranges))
    where
      small : (b : Bool) → bit b ≤ 1
      small true = omega arith
      small false = omega arith

  pub reports_full : AllReported ranges seats → reports ≡ ranges
  reports_full all = sym reports_is ∙ up_to_ones (λ k. report_count k seats) ranges all

  pub all_claimed : next ≡ ranges → AllClaimed ranges seats
  all_claimed full k less = board.claims k ∙ once_under next k (omega arith)

  -- where a seat claimed a range and did not report it, some range is not reported
  pub not_last : (seat k : ℕ) (v : SeatNotes) → get_elem? seats seat ≡ some v → occurrences k v.reports < occurrences k v.claims → reports < ranges
  not_last seat k v at less =
      let short = sum_lt (λ (u : SeatNotes). occurrences k u.reports) (λ (u : SeatNotes). occurrences k u.claims) seats (λ i u e. (board.seat i u e).reports k) seat v at less in
      let got = board.claims k in
      let most = once_le next k in
      let none : report_count k seats ≡ 0 = omega arith in
      let within = board.within in
      omega (arith, reports_is, up_to_lacks (λ j. report_count j seats) ranges k reports_at_most_once (below k short) none)
    where
      below : (j : ℕ) → report_count j seats < claim_count j seats → j < ranges
      below j some_claim = let w = board.within in let g = board.claims j in grind (arith, nat_tests)

  set_seat : (next' seat : ℕ) (w : SeatNotes) → next ≤ next' → IsSeat next' w → (j : ℕ) (u : SeatNotes) → get_elem? (set seats seat w) j ≡ some u → IsSeat next' u
  set_seat next' seat w up own j u e = ⊎_elim
      (λ (t : (j ≡ seat) × (w ≡ u)). subst (IsSeat next') t.1 own)
      (λ (t : (j ≢ seat) × (get_elem? seats j ≡ some u)). let o = board.seat j u t.1 in record { reports = o.reports; next = omega (arith, o.next) })
      (at_set seats seat j w u e)

  -- a seat that claims the next number may report it
  pub may_report : (seat : ℕ) (v : SeatNotes) → get_elem? seats seat ≡ some v → MayReport (after_claim v next) next
  may_report seat v at =
      let none : claim_count next seats ≡ 0 = board.claims next ∙ once_above next next (omega arith) in
      let got : occurrences next v.claims ≡ 0 = omega (arith, item_le (λ (u : SeatNotes). occurrences next u.claims) seats seat v at) in
      let reported : occurrences next v.reports ≡ 0 = omega (arith, (board.seat seat v at).reports next) in
      (omega (arith, times_push next v.claims next, same next), reported)
    where
      same : (k : ℕ) → bit (eqb k k) ≡ 1
      same k = grind (arith, nat_tests)

  -- a seat learns the next number
  pub load_keeps : (seat : ℕ) (v : SeatNotes) → get_elem? seats seat ≡ some v → IsBoard ranges next reports (set seats seat (with_next v next))
  load_keeps seat v at =
      let w = with_next v next in
      record {
        within = board.within;
        claims = λ k. omega (arith, board.claims k, sum_set (λ (u : SeatNotes). occurrences k u.claims) seats seat v w at);
        seat = set_seat next seat w (omega arith) record { reports = (board.seat seat v at).reports; next = omega arith };
        count = omega (arith, board.count, sum_set (λ (u : SeatNotes). length u.reports) seats seat v w at);
        last = omega (arith, board.last, sum_set (λ (u : SeatNotes). u.last_reports) seats seat v w at);
      }

  -- a seat claims the next number
  pub claim_keeps : (seat : ℕ) (v : SeatNotes) → get_elem? seats seat ≡ some v → next < ranges → IsBoard ranges (next + 1) reports (set seats seat (after_claim v next))
  claim_keeps seat v at room =
      let w = after_claim v next in
      record {
        within = omega arith;
        claims = λ k. omega (arith, board.claims k, sum_set (λ (u : SeatNotes). occurrences k u.claims) seats seat v w at, times_push k v.claims next, once_more next k);
        seat = set_seat (next + 1) seat w (omega arith) record { reports = λ k. omega (arith, (board.seat seat v at).reports k, times_push k v.claims next); next = omega arith };
        count = omega (arith, board.count, sum_set (λ (u : SeatNotes). length u.reports) seats seat v w at);
        last = omega (arith, board.last, sum_set (λ (u : SeatNotes). u.last_reports) seats seat v w at);
      }

  -- a seat reports a range
  pub report_keeps : (seat k : ℕ) (v : SeatNotes) → get_elem? seats seat ≡ some v → occurrences k v.reports < occurrences k v.claims
      → IsBoard ranges next (reports + 1) (set seats seat (notes_after_report v k (eqb (reports + 1) ranges)))
  report_keeps seat k v at less =
      let w = notes_after_report v k (eqb (reports + 1) ranges) in
      let short = not_last seat k v at less in
      record {
        within = board.within;
        claims = λ j. omega (arith, board.claims j, sum_set (λ (u : SeatNotes). occurrences j u.claims) seats seat v w at);
        seat = set_seat next seat w (omega arith) record { reports = λ j. once j; next = (board.seat seat v at).next };
        count = omega (arith, board.count, sum_set (λ (u : SeatNotes). length u.reports) seats seat v w at, length-append v.reports (k ∷ []));
        last = last_is_one short;
      }
    where
      once : (j : ℕ) → occurrences j (v.reports ++ k ∷ []) ≤ occurrences j v.claims
      once j = ⊎_elim
          (λ (t : (k ≡ j) × (bit (eqb k j) ≡ 1)). let here : occurrences j v.reports < occurrences j v.claims = subst (λ i. occurrences i v.reports < occurrences i v.claims) t.0 less in omega (arith, t.1, times_push j v.reports k))
          (λ (t : bit (eqb k j) ≡ 0). omega (arith, t, times_push j v.reports k, (board.seat seat v at).reports j))
          (which j)
        where
          which : (i : ℕ) → ((k ≡ i) × (bit (eqb k i) ≡ 1)) ⊎ (bit (eqb k i) ≡ 0)
          which i = grind (arith, nat_tests)

      last_is_one : reports < ranges → last_report_count (set seats seat (notes_after_report v k (eqb (reports + 1) ranges))) ≡ cond (eqb (reports + 1) ranges) 1 0
      last_is_one room =
          let none : bit (eqb reports ranges) ≡ 0 = grind (arith, nat_tests) in
          let before = board.last in
          let sum = sum_set (λ (u : SeatNotes). u.last_reports) seats seat v (notes_after_report v k (eqb (reports + 1) ranges)) at in
          omega arith

  -- a new seat
  pub sit_keeps : IsBoard ranges next reports (seats ++ new_notes ∷ [])
  sit_keeps = record {
    within = board.within;
    claims = λ k. omega (arith, board.claims k, sum_by_push (λ (u : SeatNotes). occurrences k u.claims) seats new_notes);
    seat = λ j u e. ⊎_elim (λ old. board.seat j u old) (λ (new : new_notes ≡ u). subst (IsSeat next) new record { reports = λ k. omega arith; next = omega arith }) (at_snoc seats new_notes u j e);
    count = omega (arith, board.count, sum_by_push (λ (u : SeatNotes). length u.reports) seats new_notes);
    last = omega (arith, board.last, sum_by_push (λ (u : SeatNotes). u.last_reports) seats new_notes);
  }

-- two seats become one
module _ (ranges next reports : ℕ) (seats : List SeatNotes) (board : IsBoard ranges next reports seats) (seat other : ℕ) (v w : SeatNotes)
    (at : get_elem? seats seat ≡ some v) (apart : other ≢ seat) (there : get_elem? seats other ≡ some w) where
  pub join_keeps : IsBoard ranges next reports (set (set seats seat (joint_notes v w)) other new_notes)
  join_keeps =
      let both = joint_notes v w in
      let mid = set seats seat both in
      let still : get_elem? mid other ≡ some w = set_else seats seat other both apart ∙ there in
      record {
        within = board.within;
        claims = λ k. omega (arith, board.claims k, sum_set (λ (u : SeatNotes). occurrences k u.claims) seats seat v both at, sum_set (λ (u : SeatNotes). occurrences k u.claims) mid other w new_notes still, occurrences-append k v.claims w.claims);
        seat = λ j u e. ⊎_elim
            (λ (t : (j ≡ other) × (new_notes ≡ u)). subst (IsSeat next) t.1 record { reports = λ k. omega arith; next = omega arith })
            (λ (t : (j ≢ other) × (get_elem? mid j ≡ some u)). set_seat ranges next reports seats board next seat both (omega arith) joint_seat j u t.1)
            (at_set mid other j new_notes u e);
        count = omega (arith, board.count, sum_set (λ (u : SeatNotes). length u.reports) seats seat v both at, sum_set (λ (u : SeatNotes). length u.reports) mid other w new_notes still, length-append v.reports w.reports);
        last = omega (arith, board.last, sum_set (λ (u : SeatNotes). u.last_reports) seats seat v both at, sum_set (λ (u : SeatNotes). u.last_reports) mid other w new_notes still);
      }
    where
      joint_seat : IsSeat next (joint_notes v w)
      joint_seat =
          let a = board.seat seat v at in
          let b = board.seat other w there in
          record { reports = λ k. omega (arith, a.reports k, b.reports k, occurrences-append k v.reports w.reports, occurrences-append k v.claims w.claims); next = omega (arith, a.next, b.next) }

-- a new board
pub begins : (ranges : ℕ) → 0 < ranges → IsBoard ranges 0 0 (new_notes ∷ [])
begins ranges some_range = record {
  within = omega arith;
  claims = λ k. sym (once_above 0 k (omega arith));
  seat = λ j u e. one j u e;
  count = refl;
  last = sym none;
}
  where
    none : bit (eqb 0 ranges) ≡ 0
    none = grind (arith, nat_tests)

    one : (j : ℕ) (u : SeatNotes) → get_elem? (new_notes ∷ []) j ≡ some u → IsSeat 0 u
    one zero u e = subst (IsSeat 0) (some-injective new_notes u e) record { reports = λ k. omega arith; next = omega arith }
    one (suc j) u e = absurd (some-ne-none u (sym e))
