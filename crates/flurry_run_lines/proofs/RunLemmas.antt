-- The lines of an input, and runs over them.
use Rattle.std.proofs.Common.{◌≡◌, ◌≢◌, ℕ, ◌+◌, ◌<◌, ◌≤◌, Bool, true, false, List, [], ◌∷◌, ◌++◌, length, Option, None, Some, Result, Ok, Err, IfSome, IfOk, OnOk, MatchOption, refl, sym, ap, ◌∙◌, subst, inl, inr, append_assoc, append-nil, length-append, arith}
use Rattle.std.specs.Prelude.{◌==◌}
use Rattle.std.specs.Io.KnownBytes.{Appends, Consumes, IsAtEnd}
use Rattle.std.proofs.KnownBytes.{Appends-trans, Appends-nil}
use borrow.Author.Tests.{eqb-true}
use Rattle.flurry_run_lines.specs.Lines.{lines_of, onto_first}
use Rattle.flurry_run_lines.specs.Endings.{bad_line_text, input_failed_text}
use Rattle.flurry_run_streams.specs.LineEnds.{HasNoBreak}
use Rattle.flurry_run_lines.specs.Runs.{Script, IsNoCommand, EndsAtLine, Writes, AnswersLine, RefusesLine, Goes, Ends}

not_ten : (b : ℕ) → b ≢ 10 → (b == 10) ≡ false
not_ten b h = by_test (b == 10) refl
  where
    by_test : (t : Bool) → (b == 10) ≡ t → (b == 10) ≡ false
    by_test true p = absurd (h (eqb-true b 10 p))
    by_test false p = p

-- ---- lines

lines_break : (line rest : List ℕ) → HasNoBreak line → lines_of (line ++ 10 ∷ rest) ≡ line ∷ lines_of rest
lines_break [] rest h = refl
lines_break (b ∷ line) rest h = rw (not_ten b h.0) (ap (onto_first b) (lines_break line rest h.1))

lines_end : (line : List ℕ) → HasNoBreak line → 0 < length line → lines_of line ≡ line ∷ []
lines_end [] h some = absurd (omega arith)
lines_end (b ∷ []) h some = rw (not_ten b h.0) refl
lines_end (b ∷ c ∷ line) h some = rw (not_ten b h.0) (ap (onto_first b) (lines_end (c ∷ line) h.1 (omega arith)))

lines_front : (line rest : List ℕ) → HasNoBreak line → 0 < length line → (more : List ℕ) × (lines : List (List ℕ)) × (lines_of (line ++ rest) ≡ (line ++ more) ∷ lines)
lines_front [] rest h some = absurd (omega arith)
lines_front (b ∷ []) rest h some = by_lines (lines_of rest) refl
  where
    by_lines : (ls : List (List ℕ)) → lines_of rest ≡ ls → (more : List ℕ) × (lines : List (List ℕ)) × (lines_of (b ∷ rest) ≡ (b ∷ more) ∷ lines)
    by_lines [] e = ([], [], rw (not_ten b h.0, e) refl)
    by_lines (l ∷ ls) e = (l, ls, rw (not_ten b h.0, e) refl)
lines_front (b ∷ c ∷ line) rest h some =
    let p = lines_front (c ∷ line) rest h.1 (omega arith) in
    (p.0, p.1, rw (not_ten b h.0) (ap (onto_first b) p.2))

-- ---- runs

-- a line and its end are a byte at least
line_takes : (n : ℕ) (line input left : List ℕ) → input ≡ (line ++ 10 ∷ []) ++ left → n + 1 + length left ≤ n + length input
line_takes n line input left e =
    let whole : length input ≡ length line + 1 + length left = ap length e ∙ simp (length-append) (omega arith) in
    omega arith

module _ {M C : Type 0} (s : Script M C) where
  -- a read failed
  writes_failed : (m : M) (n : ℕ) (lines : List (List ℕ)) → Writes s m n lines input_failed_text 1
  writes_failed m n [] = inl (refl, refl)
  writes_failed m n (line ∷ lines) = inl (refl, refl)

  -- the lines are done
  writes_none : (m : M) (n : ℕ) → Writes s m n [] [] 0
  writes_none m n = inr (refl, refl)

  -- a line ends the run
  writes_end : (m : M) (n : ℕ) (line : List ℕ) (lines : List (List ℕ)) (out : List ℕ) (status : ℕ) → EndsAtLine s m n line out status → Writes s m n (line ∷ lines) out status
  writes_end m n line lines out status end = inr (inl end)

  -- a line is answered
  writes_answer : (m after : M) (n : ℕ) (line : List ℕ) (lines : List (List ℕ)) (c : C) (printed rest : List ℕ) (status : ℕ)
      → s.IsCommand c → line ≡ s.text_of c → s.Does c m printed after → Writes s after (n + 1) lines rest status → Writes s m n (line ∷ lines) (printed ++ rest) status
  writes_answer m after n line lines c printed rest status fits is does w = inr (inr (c, printed, after, rest, fits, is, does, refl, w))

  -- what a line's end makes of its answer
  abbrev AnsweredLine : Option ℕ → M → M → ℕ → List ℕ → Option (List ℕ) → Option (List ℕ) → Type 0
  AnsweredLine ended m after n line held holds = MatchOption ended (AnswersLine s m line after held holds) (RefusesLine s m n line held holds)

  abbrev pub GoesOrEnds : Option ℕ → M → ℕ → M → Option (List ℕ) → Option (List ℕ) → Option (List ℕ) → Option (List ℕ) → Type 0
  GoesOrEnds ended m n after old new held holds =
      IfSome old (λ input. MatchOption ended (Goes s m n input after (n + 1) new held holds) (Ends s m n input held holds))

  module _ (m after : M) (n : ℕ) (line : List ℕ) (held holds : Option (List ℕ)) where
    break_ends : (old new : Option (List ℕ)) (ended : Option ℕ) → Consumes old new (line ++ 10 ∷ []) → HasNoBreak line → AnsweredLine ended m after n line held holds → GoesOrEnds ended m n after old new held holds
    break_ends None new ended gave none answered = tt
    break_ends (Some input) None ended gave none answered = absurd gave
    break_ends (Some input) (Some left) None gave none goes =
        let lines : lines_of input ≡ line ∷ lines_of left = ap lines_of (gave ∙ append_assoc line (10 ∷ []) left) ∙ lines_break line left none in
        (goes.1, left, refl, goes.5, line_takes n line input left gave, λ rest status w. rw lines (writes_answer m after n line (lines_of left) goes.0 goes.1 rest status goes.2 goes.3 goes.4 w))
    break_ends (Some input) (Some left) (Some status) gave none end =
        let lines : lines_of input ≡ line ∷ lines_of left = ap lines_of (gave ∙ append_assoc line (10 ∷ []) left) ∙ lines_break line left none in
        (end.0, end.2, rw lines (writes_end m n line (lines_of left) end.0 status end.1))

    pub step_break : {E : Type 0} (old new : Option (List ℕ)) (r : Result (Option ℕ) E) → Consumes old new (line ++ 10 ∷ []) → HasNoBreak line
        → IfOk r (λ ended. AnsweredLine ended m after n line held holds) → IfOk r (λ ended. GoesOrEnds ended m n after old new held holds)
    step_break old new (Ok ended) gave none answered = break_ends old new ended gave none answered
    step_break old new (Err e) gave none answered = tt

    -- a line is longer than any command
    pub step_long : ((c : C) → s.IsCommand c → length (s.text_of c) ≤ 64) → (old new : Option (List ℕ)) (status : ℕ) → Consumes old new line → HasNoBreak line → 64 < length line
        → status ≡ 2 → Appends held holds (bad_line_text n) → IfSome old (λ input. Ends s m n input held holds status)
    step_long short None new status gave none long is bytes = tt
    step_long short (Some input) None status gave none long is bytes = absurd gave
    step_long short (Some input) (Some left) status gave none long is bytes =
        let front = lines_front line left none (omega arith) in
        let lines : lines_of input ≡ (line ++ front.0) ∷ front.1 = ap lines_of gave ∙ front.2 in
        let longer : 64 < length (line ++ front.0) = simp length-append (omega arith) in
        let bad : IsNoCommand s (line ++ front.0) = λ c h e. let a = short c h in let b = ap length e in omega arith in
        (bad_line_text n, bytes, rw (lines, is) (writes_end m n (line ++ front.0) front.1 (bad_line_text n) 2 (inl (bad, refl, refl))))

    lines_last : (input left : List ℕ) → input ≡ line ++ left → left ≡ [] → HasNoBreak line → 0 < length line → lines_of input ≡ line ∷ []
    lines_last input left e end none some = ap lines_of (e ∙ ap (λ l. line ++ l) end ∙ append-nil line) ∙ lines_end line none some

    pub step_last : (old new : Option (List ℕ)) → Consumes old new line → IsAtEnd new → HasNoBreak line → 0 < length line → AnswersLine s m line after held holds
        → IfSome old (λ input. Ends s m n input held holds 0)
    step_last None new gave end none some goes = tt
    step_last (Some input) None gave end none some goes = absurd gave
    step_last (Some input) (Some left) gave end none some goes =
        let written : Writes s m n (line ∷ []) (goes.1 ++ []) 0 = writes_answer m after n line [] goes.0 goes.1 [] 0 goes.2 goes.3 goes.4 (writes_none after (n + 1)) in
        (goes.1, goes.5, rw (lines_last input left gave end none some) (rw append-nil at written))

    pub step_last_bad : (old new : Option (List ℕ)) (status : ℕ) → Consumes old new line → IsAtEnd new → HasNoBreak line → 0 < length line → RefusesLine s m n line held holds status
        → IfSome old (λ input. Ends s m n input held holds status)
    step_last_bad None new status gave end none some bad = tt
    step_last_bad (Some input) None status gave end none some bad = absurd gave
    step_last_bad (Some input) (Some left) status gave end none some bad =
        (bad.0, bad.2, rw (lines_last input left gave end none some) (writes_end m n line [] bad.0 status bad.1))

  -- a read failed
  pub step_failed : (m : M) (n status : ℕ) (old held holds : Option (List ℕ)) → status ≡ 1 → Appends held holds input_failed_text
      → IfSome old (λ input. Ends s m n input held holds status)
  step_failed m n status None held holds is bytes = tt
  step_failed m n status (Some input) held holds is bytes = (input_failed_text, bytes, rw is (writes_failed m n (lines_of input)))

  -- ---- one part after another

  pub goes_none : (m : M) (n : ℕ) (old held : Option (List ℕ)) → IfSome old (λ input. Goes s m n input m n old held held)
  goes_none m n None held = tt
  goes_none m n (Some input) held = ([], input, refl, Appends-nil held, omega arith, λ rest status w. w)

  module _ (m mid : M) (n n' : ℕ) (first : List ℕ) (now : Option (List ℕ)) (held holds later : Option (List ℕ)) where
    goes_goes : (after : M) (k : ℕ) (new : Option (List ℕ)) → Goes s m n first mid n' now held holds → IfSome now (λ input. Goes s mid n' input after k new holds later) → Goes s m n first after k new held later
    goes_goes after k new p q =
        let q' : Goes s mid n' p.1 after k new holds later = subst (λ r. IfSome r (λ input. Goes s mid n' input after k new holds later)) p.2 q in (
          p.0 ++ q'.0,
          q'.1,
          q'.2,
          Appends-trans held holds later p.0 q'.0 p.3 q'.3,
          omega (arith, p.4, q'.4),
          λ rest status w. subst (λ out. Writes s m n (lines_of first) out status) (sym (append_assoc p.0 q'.0 rest)) (p.5 (q'.0 ++ rest) status (q'.5 rest status w)),
        )

    goes_ends : (status : ℕ) → Goes s m n first mid n' now held holds → IfSome now (λ input. Ends s mid n' input holds later status) → Ends s m n first held later status
    goes_ends status p q =
        let q' = subst (λ r. IfSome r (λ input. Ends s mid n' input holds later status)) p.2 q in
        (p.0 ++ q'.0, Appends-trans held holds later p.0 q'.0 p.3 q'.1, p.5 q'.0 status q'.2)

  -- the same, where the bytes of the first reader are known
  module _ (m mid : M) (n n' : ℕ) (old now held holds later : Option (List ℕ)) where
    pub known_goes : (after : M) (k : ℕ) (new : Option (List ℕ)) → IfSome old (λ first. Goes s m n first mid n' now held holds) → IfSome now (λ input. Goes s mid n' input after k new holds later)
        → IfSome old (λ first. Goes s m n first after k new held later)
    known_goes after k new p q = by_old old p
      where
        by_old : (o : Option (List ℕ)) → IfSome o (λ first. Goes s m n first mid n' now held holds) → IfSome o (λ first. Goes s m n first after k new held later)
        by_old None p = tt
        by_old (Some first) p = goes_goes m mid n n' first now held holds later after k new p q

    pub known_ends : (status : ℕ) → IfSome old (λ first. Goes s m n first mid n' now held holds) → IfSome now (λ input. Ends s mid n' input holds later status) → IfSome old (λ first. Ends s m n first held later status)
    known_ends status p q = by_old old p
      where
        by_old : (o : Option (List ℕ)) → IfSome o (λ first. Goes s m n first mid n' now held holds) → IfSome o (λ first. Ends s m n first held later status)
        by_old None p = tt
        by_old (Some first) p = goes_ends m mid n n' first now held holds later status p q

  -- the next read counts as failed
  pub stops_failed : {E : Type 0} (r : Result ℕ E) (m mid : M) (n n' : ℕ) (old now held holds later : Option (List ℕ)) → IfSome old (λ first. Goes s m n first mid n' now held holds)
      → IfOk r (λ status. status ≡ 1) → OnOk r (Appends holds later input_failed_text) → IfOk r (λ status. IfSome old (λ first. Ends s m n first held later status))
  stops_failed (Err e) m mid n n' old now held holds later reply_for is bytes = tt
  stops_failed (Ok status) m mid n n' old now held holds later reply_for is bytes = known_ends m mid n n' old now held holds later status reply_for (step_failed mid n' status now holds later is bytes)
