-- Tables: what stands where after a slot is put, and after a table is made.
use Rattle.std.proofs.Common.{◌≡◌, ℕ, zero, suc, ◌+◌, ◌^◌, ◌<◌, ◌≤◌, ◌⊎◌, Bool, true, false, List, [], ◌∷◌, ◌++◌, length, set, get_or, slice_get, Option, Some, None, refl, sym, ap, ◌∙◌, subst, inl, inr, arith, length-append, get_or-set_same, get_or-set_other}
use Rattle.std.specs.Prelude.{◌-◌, ◌==◌, ◌&&◌, nat_lt, if◌then◌else◌, is_none}
use Rattle.std.specs.Option.{IsSome, is_some, option_map_or}
use Rattle.std.proofs.lemmas.Bool.{cases_eq, cases_lt, eq-eqb, ne_eqb, lt-ltb, le-ltb}
use Rattle.std.proofs.lemmas.List.{length-set, set-set, set_past, get_or_past}
use Rattle.std.proofs.lemmas.Nat.{pow_pos}
use Rattle.std.proofs.lemmas.Option.{slice_get_past, slice_get_within}
use Rattle.flurry_bins_slots.specs.Slot.{Content, IsLive, HasMoved, IsUnborn, IfLive, SlotState, half}
use Rattle.flurry_steps.specs.Party.{PartyState}
use Rattle.flurry_steps.specs.PartySlots.{MoveGives, MoveStep}
use Rattle.flurry_steps_sweep.specs.declared.step.Event.{Event}
use Rattle.flurry_steps_sweep.specs.declared.step.Event.TheVariants as event
use Rattle.flurry_steps_claims.specs.PlainBoard.{PlainBoardState}
use Rattle.flurry_steps_world.specs.Tables.{Tables, slots_of, place_at, content_at, put_place, board_at, put_board, board_for, with_board, begun_board, fresh, new_slots, is_made, with_table, MadeGives, PlaceGives, AreTables}
use Rattle.flurry_base.specs.declared.sizes.TheConstants.{MAX_TABLE, TABLES}

-- ---- lists

module _ {X : Type 0} where
  slice_get-some : (xs : List X) (i : ℕ) → i < length xs → IsSome (slice_get xs i)
  slice_get-some [] i h = absurd (omega arith)
  slice_get-some (x ∷ xs) zero h = refl
  slice_get-some (x ∷ xs) (suc i) h = slice_get-some xs i (omega arith)

  slice_get-set_same : (xs : List X) (i : ℕ) (x : X) → i < length xs → slice_get (set xs i x) i ≡ Some x
  slice_get-set_same [] i x h = absurd (omega arith)
  slice_get-set_same (y ∷ xs) zero x h = refl
  slice_get-set_same (y ∷ xs) (suc i) x h = slice_get-set_same xs i x (omega arith)

  slice_get-set_other : (xs : List X) (i j : ℕ) (x : X) → (j ≡ i → ⊥) → slice_get (set xs i x) j ≡ slice_get xs j
  slice_get-set_other (y ∷ xs) zero zero x apart = absurd (apart refl)
  slice_get-set_other (y ∷ xs) (suc i) (suc j) x apart = slice_get-set_other xs i j x (λ e. apart (ap suc e))
  slice_get-set_other xs i j x apart = refl

  slice_get-front : (xs : List X) (x : X) (i : ℕ) → i < length xs → slice_get (xs ++ x ∷ []) i ≡ slice_get xs i
  slice_get-front [] x i h = absurd (omega arith)
  slice_get-front (y ∷ xs) x zero h = refl
  slice_get-front (y ∷ xs) x (suc i) h = slice_get-front xs x i (omega arith)

  slice_get-last : (xs : List X) (x : X) (i : ℕ) → i ≡ length xs → slice_get (xs ++ x ∷ []) i ≡ Some x
  slice_get-last [] x zero e = refl
  slice_get-last [] x (suc i) e = absurd (omega arith)
  slice_get-last (y ∷ xs) x zero e = absurd (omega arith)
  slice_get-last (y ∷ xs) x (suc i) e = slice_get-last xs x i (omega arith)

-- ---- new slots

module _ (K V : Type 0) where
  pub length-new_slots : (e : ℕ) (live : Bool) (n : ℕ) → length (new_slots {K = K} {V = V} e live n) ≡ n
  length-new_slots e live zero = refl
  length-new_slots e live (suc n) = length-append (new_slots e live n) _ ∙ omega (arith, length-new_slots e live n)

  pub new_slots_at : (e : ℕ) (live : Bool) (n i : ℕ) → i < n → slice_get (new_slots {K = K} {V = V} e live n) i ≡ Some (record { table = e; index = i; content = fresh live })
  new_slots_at e live zero i lt = absurd (omega arith)
  new_slots_at e live (suc n) i lt =
      let len = length-new_slots e live n in
      elim (cases_eq i n) [
        | inl last ↦
            slice_get-last (new_slots e live n) _ i (omega arith) ∙ ap (λ (k : ℕ). let p : SlotState K V = record { table = e; index = k; content = fresh live } in Some p) (sym last)
        | inr before ↦ slice_get-front (new_slots e live n) _ i (omega arith) ∙ new_slots_at e live n i (omega arith)
      ]

  pub new_slots_past : (e : ℕ) (live : Bool) (n i : ℕ) → n ≤ i → slice_get (new_slots {K = K} {V = V} e live n) i ≡ None
  new_slots_past e live n i past = slice_get_past (new_slots e live n) i (omega (arith, length-new_slots e live n))

module _ {K V : Type 0} where
  made_same : (xs ys : List (SlotState K V)) → length xs ≡ length ys → is_made xs ≡ is_made ys
  made_same [] [] same = refl
  made_same [] (y ∷ ys) same = absurd (omega arith)
  made_same (x ∷ xs) [] same = absurd (omega arith)
  made_same (x ∷ xs) (y ∷ ys) same = refl

  made_some : (s : List (SlotState K V)) → 0 < length s → is_made s ≡ true
  made_some [] h = absurd (omega arith)
  made_some (p ∷ s) h = refl

  -- a table that was made has slots
  pub not_made : (s : List (SlotState K V)) → is_made s ≡ true → s ≡ [] → ⊥
  not_made s made none = let no : is_made s ≡ false = ap is_made none in cc

  -- ---- a slot that is there

  -- where a slot is, its table has a place
  pub place_in : (t : Tables K V) (e i : ℕ) (q : SlotState K V) → place_at t e i ≡ Some q → (e < length t.slots) × (i < length (slots_of t e))
  place_in t e i q is = elim (cases_lt e (length t.slots)) [
    | inl lt ↦ (lt, slice_get_within (slots_of t e) i q is)
    | inr past ↦ let none : place_at t e i ≡ None = ap (λ (s : List (SlotState K V)). slice_get s i) (get_or_past t.slots e [] past) in cc
  ]

  pub content_of_place : (t : Tables K V) (e i : ℕ) (q : SlotState K V) → place_at t e i ≡ Some q → content_at t e i ≡ q.content
  content_of_place t e i q is = ap (λ (o : Option (SlotState K V)). option_map_or (λ (p : SlotState K V). p.content) o IsUnborn) is

  -- where a bin stands or stood, there is a slot
  pub place_of_content : (t : Tables K V) (e i : ℕ) → (content_at t e i ≡ IsUnborn → ⊥) → IsSome (place_at t e i)
  place_of_content t e i born = by_place (place_at t e i) born
    where
      by_place : (o : Option (SlotState K V)) → (option_map_or (λ (p : SlotState K V). p.content) o IsUnborn ≡ IsUnborn → ⊥) → IsSome o
      by_place None born = absurd (born refl)
      by_place (Some q) born = refl

  -- an index that has a slot is one of the table's
  pub index_within : (t : Tables K V) (e i : ℕ) (q : SlotState K V) → AreTables t → place_at t e i ≡ Some q → i < 2 ^ e
  index_within t e i q are is =
      let (lt, below) = place_in t e i q is in
      omega (arith, are.slots e (made_some (slots_of t e) (omega arith)))

  -- a table that was made has all its slots
  pub place_of_made : (t : Tables K V) (e i : ℕ) → AreTables t → is_made (slots_of t e) ≡ true → i < 2 ^ e → IsSome (place_at t e i)
  place_of_made t e i are made lt = slice_get-some (slots_of t e) i (omega (arith, are.slots e made))

  -- ---- a slot is put

  module _ (t : Tables K V) (e i : ℕ) (q : SlotState K V) where
    -- another table is as it was
    pub slots_of-put_other : (d : ℕ) → (d ≡ e → ⊥) → slots_of (put_place t e i q) d ≡ slots_of t d
    slots_of-put_other d apart = get_or-set_other t.slots e d _ [] apart

    slots_of-put_same : e < length t.slots → slots_of (put_place t e i q) e ≡ set (slots_of t e) i q
    slots_of-put_same lt = get_or-set_same t.slots e _ [] lt

    pub length_of_put : length (put_place t e i q).slots ≡ length t.slots
    length_of_put = length-set t.slots e _

    pub length_of_put_slots : (d : ℕ) → length (slots_of (put_place t e i q) d) ≡ length (slots_of t d)
    length_of_put_slots d = elim (cases_eq d e) [
      | inr apart ↦ ap length (slots_of-put_other d apart)
      | inl same ↦ elim (cases_lt e (length t.slots)) [
        | inl lt ↦
            ap (λ (n : ℕ). length (slots_of (put_place t e i q) n)) same ∙ ap length (slots_of-put_same lt) ∙ length-set (slots_of t e) i q ∙ ap (λ (n : ℕ). length (slots_of t n)) (sym same)
        | inr past ↦ ap (λ (u : List (List (SlotState K V))). length (get_or u d [])) (set_past t.slots e _ past)
      ]
    ]

    pub is_made-put : (d : ℕ) → is_made (slots_of (put_place t e i q) d) ≡ is_made (slots_of t d)
    is_made-put d = made_same (slots_of (put_place t e i q) d) (slots_of t d) (length_of_put_slots d)

    -- the slot stands there, where there was one
    pub place_at-put : IsSome (place_at t e i) → place_at (put_place t e i q) e i ≡ Some q
    place_at-put some = by_place (place_at t e i) refl some
      where
        by_place : (o : Option (SlotState K V)) → place_at t e i ≡ o → IsSome o → place_at (put_place t e i q) e i ≡ Some q
        by_place None is some = cc
        by_place (Some p) is some =
            let (lt, below) = place_in t e i p is in
            ap (λ (s : List (SlotState K V)). slice_get s i) (slots_of-put_same lt) ∙ slice_get-set_same (slots_of t e) i q below

    -- every other slot is as it was
    pub place_at-put_other : (d j : ℕ) → (d ≡ e → j ≡ i → ⊥) → place_at (put_place t e i q) d j ≡ place_at t d j
    place_at-put_other d j apart = elim (cases_eq d e) [
      | inr other ↦ ap (λ (s : List (SlotState K V)). slice_get s j) (slots_of-put_other d other)
      | inl same ↦ elim (cases_lt e (length t.slots)) [
        | inl lt ↦
            ap (λ (n : ℕ). place_at (put_place t e i q) n j) same ∙ ap (λ (s : List (SlotState K V)). slice_get s j) (slots_of-put_same lt)
            ∙ slice_get-set_other (slots_of t e) i j q (apart same) ∙ ap (λ (n : ℕ). place_at t n j) (sym same)
        | inr past ↦ ap (λ (u : List (List (SlotState K V))). slice_get (get_or u d []) j) (set_past t.slots e _ past)
      ]
    ]

    pub content_at-put : IsSome (place_at t e i) → content_at (put_place t e i q) e i ≡ q.content
    content_at-put some = content_of_place (put_place t e i q) e i q (place_at-put some)

    pub content_at-put_other : (d j : ℕ) → (d ≡ e → j ≡ i → ⊥) → content_at (put_place t e i q) d j ≡ content_at t d j
    content_at-put_other d j apart = ap (λ (o : Option (SlotState K V)). option_map_or (λ (p : SlotState K V). p.content) o IsUnborn) (place_at-put_other d j apart)

    -- tables stay tables, where the slot has the number and the index of the one that was there
    pub AreTables-put : (p : SlotState K V) → AreTables t → place_at t e i ≡ Some p → q.table ≡ p.table → q.index ≡ p.index → AreTables (put_place t e i q)
    AreTables-put p are is table index = record {
      places = length_of_put ∙ are.places;
      slots = λ d made. length_of_put_slots d ∙ are.slots d (made_before d made);
      order = λ d j r at. ordered d j r at (cases_eq d e) (cases_eq j i);
      board_places = are.board_places;
      boards = are.boards;
    }
      where
        made_before : (d : ℕ) → is_made (slots_of (put_place t e i q) d) ≡ true → is_made (slots_of t d) ≡ true
        made_before d made = sym (is_made-put d) ∙ made

        ordered : (d j : ℕ) (r : SlotState K V) → place_at (put_place t e i q) d j ≡ Some r → (d ≡ e) ⊎ (d ≡ e → ⊥) → (j ≡ i) ⊎ (j ≡ i → ⊥) → (r.table ≡ d) × (r.index ≡ j)
        ordered d j r at (inl same) (inl here) =
            let there : place_at (put_place t e i q) d j ≡ Some q = ap (λ (n : ℕ). place_at (put_place t e i q) n j) same ∙ ap (place_at (put_place t e i q) e) here ∙ place_at-put (ap is_some is) in
            let one : r ≡ q = cc in
            let old = are.order e i p is in
            (ap (λ (x : SlotState K V). x.table) one ∙ table ∙ old.0 ∙ sym same, ap (λ (x : SlotState K V). x.index) one ∙ index ∙ old.1 ∙ sym here)
        ordered d j r at (inl same) (inr apart) = are.order d j r (sym (place_at-put_other d j (λ _. apart)) ∙ at)
        ordered d j r at (inr other) w = are.order d j r (sym (place_at-put_other d j (λ e _. other e)) ∙ at)

  -- ---- a board is put

  -- a board that is there has a place
  pub board_in : (t : Tables K V) (e : ℕ) (b : PlainBoardState) → board_at t e ≡ Some b → e + 1 < length t.boards
  board_in t e b at = elim (cases_lt (e + 1) (length t.boards)) [
    | inl lt ↦ lt
    | inr past ↦ let none : board_at t e ≡ None = get_or_past t.boards (e + 1) None past in absurd cc
  ]

  module _ (t : Tables K V) (e : ℕ) (d : PlainBoardState) where
    pub board_at-put : e + 1 < length t.boards → board_at (put_board t e d) e ≡ Some d
    board_at-put lt = get_or-set_same t.boards (e + 1) _ None lt

    pub board_at-put_other : (n : ℕ) → (n ≡ e → ⊥) → board_at (put_board t e d) n ≡ board_at t n
    board_at-put_other n apart = get_or-set_other t.boards (e + 1) (n + 1) _ None (λ same. apart (omega arith))

    -- tables stay tables, where the board is one of that table
    pub AreTables-put_board : (b : PlainBoardState) → AreTables t → board_at t e ≡ Some b → d.table ≡ b.table → AreTables (put_board t e d)
    AreTables-put_board b are at table = record {
      places = are.places;
      slots = are.slots;
      order = are.order;
      board_places = length-set t.boards (e + 1) _ ∙ are.board_places;
      boards = λ n r there. by_place n r there (cases_eq n e);
    }
      where
        by_place : (n : ℕ) (r : PlainBoardState) → board_at (put_board t e d) n ≡ Some r → (n ≡ e) ⊎ (n ≡ e → ⊥) → r.table ≡ n
        by_place n r there (inr apart) = are.boards n r (sym (board_at-put_other n apart) ∙ there)
        by_place n r there (inl same) =
            let here : board_at (put_board t e d) n ≡ Some d = ap (λ m. board_at (put_board t e d) m) same ∙ board_at-put (board_in t e b at) in
            let one : r ≡ d = cc in
            ap (λ (z : PlainBoardState). z.table) one ∙ table ∙ are.boards e b at ∙ sym same

  -- ---- no table

  pub AreTables-none : (t : Tables K V) → length t.slots ≡ TABLES → ((e : ℕ) → slots_of t e ≡ []) → length t.boards ≡ TABLES → ((e : ℕ) → board_at t e ≡ None) → AreTables t
  AreTables-none t places none board_places bare = record {
    places = places;
    slots = λ e made. let no : is_made (slots_of t e) ≡ false = ap is_made (none e) in absurd cc;
    order = λ e i q at. let no : place_at t e i ≡ None = ap (λ (s : List (SlotState K V)). slice_get s i) (none e) in absurd cc;
    board_places = board_places;
    boards = λ e d at. let no : board_at t e ≡ None = bare e in absurd cc;
  }

  -- ---- a table is made

  module _ (t : Tables K V) (e : ℕ) (g : Option ℕ) where
    slots_of-made : e < length t.slots → slots_of (with_table t e g) e ≡ new_slots e (is_none g) (2 ^ e)
    slots_of-made lt = get_or-set_same t.slots e _ [] lt

    -- another table is as it was
    pub slots_of-made_other : (d : ℕ) → (d ≡ e → ⊥) → slots_of (with_table t e g) d ≡ slots_of t d
    slots_of-made_other d apart = get_or-set_other t.slots e d _ [] apart

    -- the table has its slots
    pub place_at-made : AreTables t → e ≤ MAX_TABLE → (j : ℕ) → j < 2 ^ e → place_at (with_table t e g) e j ≡ Some (record { table = e; index = j; content = fresh (is_none g) })
    place_at-made are within j lt =
        ap (λ (s : List (SlotState K V)). slice_get s j) (slots_of-made (omega (arith, are.places))) ∙ new_slots_at K V e (is_none g) (2 ^ e) j lt

    place_at-made_past : AreTables t → e ≤ MAX_TABLE → (j : ℕ) → 2 ^ e ≤ j → place_at (with_table t e g) e j ≡ None
    place_at-made_past are within j past =
        ap (λ (s : List (SlotState K V)). slice_get s j) (slots_of-made (omega (arith, are.places))) ∙ new_slots_past K V e (is_none g) (2 ^ e) j past

    -- and nothing past them
    pub content_at-made_past : AreTables t → e ≤ MAX_TABLE → (j : ℕ) → 2 ^ e ≤ j → content_at (with_table t e g) e j ≡ IsUnborn
    content_at-made_past are within j past = ap (λ (o : Option (SlotState K V)). option_map_or (λ (p : SlotState K V). p.content) o IsUnborn) (place_at-made_past are within j past)

    pub place_at-made_other : (d j : ℕ) → (d ≡ e → ⊥) → place_at (with_table t e g) d j ≡ place_at t d j
    place_at-made_other d j apart = ap (λ (s : List (SlotState K V)). slice_get s j) (slots_of-made_other d apart)

    pub content_at-made_here : AreTables t → e ≤ MAX_TABLE → (j : ℕ) → j < 2 ^ e → content_at (with_table t e g) e j ≡ fresh (is_none g)
    content_at-made_here are within j lt = content_of_place (with_table t e g) e j _ (place_at-made are within j lt)

    pub content_at-made_other : (d j : ℕ) → (d ≡ e → ⊥) → content_at (with_table t e g) d j ≡ content_at t d j
    content_at-made_other d j apart = ap (λ (o : Option (SlotState K V)). option_map_or (λ (p : SlotState K V). p.content) o IsUnborn) (place_at-made_other d j apart)

    -- a board that is there is one of the table before it
    boards_for : AreTables t → (d : ℕ) (b : PlainBoardState) → get_or (with_board t.boards e g) (d + 1) None ≡ Some b → b.table ≡ d
    boards_for are d b at = by_place (cases_eq (d + 1) e)
      where
        by_growth : (h : Option ℕ) → g ≡ h → d + 1 ≡ e → board_for e h (get_or t.boards e None) ≡ Some b → b.table ≡ d
        by_growth None is same here = are.boards d b (ap (λ n. get_or t.boards n None) same ∙ here)
        by_growth (Some p) is same here = ap (λ o. table_or o) (sym here) ∙ (let n : e - 1 ≡ d = omega arith in n)
          where
            table_or : Option PlainBoardState → ℕ
            table_or None = 0
            table_or (Some c) = c.table

        by_place : (d + 1 ≡ e) ⊎ (d + 1 ≡ e → ⊥) → b.table ≡ d
        by_place (inr apart) = are.boards d b (sym (get_or-set_other t.boards e (d + 1) _ None apart) ∙ at)
        by_place (inl same) = by_growth g refl same (by_length (cases_lt e (length t.boards)))
          where
            by_length : (e < length t.boards) ⊎ (length t.boards ≤ e) → board_for e g (get_or t.boards e None) ≡ Some b
            by_length (inl lt) = sym (get_or-set_same t.boards e _ None lt) ∙ ap (λ n. get_or (with_board t.boards e g) n None) (sym same) ∙ at
            by_length (inr past) = let none : get_or (with_board t.boards e g) (d + 1) None ≡ None = get_or_past (with_board t.boards e g) (d + 1) None (omega (arith, length-set t.boards e (board_for e g (get_or t.boards e None)))) in absurd cc

    pub AreTables-made : AreTables t → e ≤ MAX_TABLE → AreTables (with_table t e g)
    AreTables-made are within = record {
      places = length-set t.slots e _ ∙ are.places;
      slots = λ d made. sized d made (cases_eq d e);
      order = λ d j p at. ordered d j p at (cases_eq d e) (cases_lt j (2 ^ e));
      board_places = length-set t.boards e _ ∙ are.board_places;
      boards = boards_for are;
    }
      where
        sized : (d : ℕ) → is_made (slots_of (with_table t e g) d) ≡ true → (d ≡ e) ⊎ (d ≡ e → ⊥) → length (slots_of (with_table t e g) d) ≡ 2 ^ d
        sized d made (inl same) =
            ap (λ (n : ℕ). length (slots_of (with_table t e g) n)) same ∙ ap length (slots_of-made (omega (arith, are.places))) ∙ length-new_slots K V e (is_none g) (2 ^ e) ∙ ap (λ (n : ℕ). 2 ^ n) (sym same)
        sized d made (inr apart) = ap length (slots_of-made_other d apart) ∙ are.slots d (ap is_made (sym (slots_of-made_other d apart)) ∙ made)

        ordered : (d j : ℕ) (p : SlotState K V) → place_at (with_table t e g) d j ≡ Some p → (d ≡ e) ⊎ (d ≡ e → ⊥) → (j < 2 ^ e) ⊎ (2 ^ e ≤ j) → (p.table ≡ d) × (p.index ≡ j)
        ordered d j p at (inr apart) w = are.order d j p (sym (place_at-made_other d j apart) ∙ at)
        ordered d j p at (inl same) (inl lt) =
            let there = ap (λ (n : ℕ). place_at (with_table t e g) n j) same ∙ place_at-made are within j lt in
            let one : p ≡ record { table = e; index = j; content = fresh (is_none g) } = cc in
            (ap (λ (x : SlotState K V). x.table) one ∙ sym same, ap (λ (x : SlotState K V). x.index) one)
        ordered d j p at (inl same) (inr past) =
            let none = ap (λ (n : ℕ). place_at (with_table t e g) n j) same ∙ place_at-made_past are within j past in
            absurd cc

    pub is_made-made : AreTables t → e ≤ MAX_TABLE → is_made (slots_of (with_table t e g) e) ≡ true
    is_made-made are within =
        let len : length (slots_of (with_table t e g) e) ≡ 2 ^ e = ap length (slots_of-made (omega (arith, are.places))) ∙ length-new_slots K V e (is_none g) (2 ^ e) in
        made_some (slots_of (with_table t e g) e) (omega (arith, pow_pos e))

    -- the table is there once it was asked for and not refused
    pub is_made-placed : (t' : Tables K V) → AreTables t → e ≤ MAX_TABLE → PlaceGives t e g true t' → is_made (slots_of t' e) ≡ true
    is_made-placed t' are within gives = by_made (is_made (slots_of t e)) refl gives
      where
        by_made : (m : Bool) → is_made (slots_of t e) ≡ m → MadeGives m t e g true t' → is_made (slots_of t' e) ≡ true
        by_made true is gives = ap (λ (u : Tables K V). is_made (slots_of u e)) gives.1 ∙ is
        by_made false is gives = ap (λ (u : Tables K V). is_made (slots_of u e)) gives ∙ is_made-made are within

    -- whether it was there, is made or is refused, tables stay tables
    pub AreTables-placed : (ok : Bool) (t' : Tables K V) → AreTables t → e ≤ MAX_TABLE → PlaceGives t e g ok t' → AreTables t'
    AreTables-placed ok t' are within gives = by_made (is_made (slots_of t e)) ok gives
      where
        by_made : (m ok : Bool) → MadeGives m t e g ok t' → AreTables t'
        by_made true ok gives = subst AreTables (sym gives.1) (record { places = are.places; slots = are.slots; order = are.order; board_places = length-set t.boards e _ ∙ are.board_places; boards = boards_for are })
        by_made false true gives = subst AreTables (sym gives) (AreTables-made are within)
        by_made false false gives = subst AreTables (sym gives) are

  -- past its slots a table has no bin
  pub content_past : (t : Tables K V) (e j : ℕ) → AreTables t → 2 ^ e ≤ j → content_at t e j ≡ IsUnborn
  content_past t e j are past = by_slots (slots_of t e) (are.slots e)
    where
      by_slots : (s : List (SlotState K V)) → (is_made s ≡ true → length s ≡ 2 ^ e) → option_map_or (λ (p : SlotState K V). p.content) (slice_get s j) IsUnborn ≡ IsUnborn
      by_slots [] size = refl
      by_slots (p ∷ s) size =
          let many : length (p ∷ s) ≡ 2 ^ e = size refl in
          ap (λ (o : Option (SlotState K V)). option_map_or (λ (r : SlotState K V). r.content) o IsUnborn) (slice_get_past (p ∷ s) j (omega arith))

  -- what stands at each slot after a table was made
  pub content_at-made : (t : Tables K V) (e : ℕ) (g : Option ℕ) → AreTables t → e ≤ MAX_TABLE → (d j : ℕ)
      → content_at (with_table t e g) d j ≡ (if e == d && nat_lt j (2 ^ e) then fresh (is_none g) else content_at t d j)
  content_at-made t e g are within d j = by_case (cases_eq e d) (cases_lt j (2 ^ e))
    where
      by_case : (e ≡ d) ⊎ (e ≡ d → ⊥) → (j < 2 ^ e) ⊎ (2 ^ e ≤ j) → content_at (with_table t e g) d j ≡ (if e == d && nat_lt j (2 ^ e) then fresh (is_none g) else content_at t d j)
      by_case (inr apart) w = rw (ne_eqb e d apart) (content_at-made_other t e g d j (λ h. apart (sym h)))
      by_case (inl same) (inl lt) = rw (eq-eqb e d same, lt-ltb j (2 ^ e) lt) (ap (λ (n : ℕ). content_at (with_table t e g) n j) (sym same) ∙ content_at-made_here t e g are within j lt)
      by_case (inl same) (inr past) =
          rw (eq-eqb e d same, le-ltb j (2 ^ e) past)
          (ap (λ (n : ℕ). content_at (with_table t e g) n j) (sym same) ∙ content_at-made_past t e g are within j past ∙ sym (content_past t e j are past) ∙ ap (λ (n : ℕ). content_at t n j) same)

  -- a table of unborn bins that was not there changes nothing that stands at a slot
  pub content_at-unborn : (t : Tables K V) (e p : ℕ) → AreTables t → e ≤ MAX_TABLE → is_made (slots_of t e) ≡ false → (d j : ℕ) → content_at (with_table t e (Some p)) d j ≡ content_at t d j
  content_at-unborn t e p are within none d j = elim (cases_eq d e) [
    | inr apart ↦ content_at-made_other t e (Some p) d j apart
    | inl same ↦ ap (λ (n : ℕ). content_at (with_table t e (Some p)) n j) same ∙ unborn_here (cases_lt j (2 ^ e)) ∙ sym (nothing_in (slots_of t e) none) ∙ ap (λ (n : ℕ). content_at t n j) (sym same)
  ]
    where
      unborn_here : (j < 2 ^ e) ⊎ (2 ^ e ≤ j) → content_at (with_table t e (Some p)) e j ≡ IsUnborn
      unborn_here (inl lt) = content_at-made_here t e (Some p) are within j lt
      unborn_here (inr past) = content_at-made_past t e (Some p) are within j past

      nothing_in : (s : List (SlotState K V)) → is_made s ≡ false → option_map_or (λ (p : SlotState K V). p.content) (slice_get s j) IsUnborn ≡ IsUnborn
      nothing_in [] h = refl
      nothing_in (p ∷ s) h = absurd cc

  -- so it is where that table was asked for
  pub content_at-placed : (t : Tables K V) (e p : ℕ) (ok : Bool) (t' : Tables K V) → AreTables t → e ≤ MAX_TABLE → PlaceGives t e (Some p) ok t' → (d j : ℕ) → content_at t' d j ≡ content_at t d j
  content_at-placed t e p ok t' are within gives d j = by_made (is_made (slots_of t e)) ok refl gives
    where
      by_made : (m ok : Bool) → is_made (slots_of t e) ≡ m → MadeGives m t e (Some p) ok t' → content_at t' d j ≡ content_at t d j
      by_made true ok is gives = ap (λ (u : Tables K V). content_at u d j) gives.1
      by_made false true is gives = ap (λ (u : Tables K V). content_at u d j) gives ∙ content_at-unborn t e p are within is d j
      by_made false false is gives = ap (λ (u : Tables K V). content_at u d j) gives

  -- ---- a growth begins

  module _ (t : Tables K V) (e p : ℕ) (t' : Tables K V) (are : AreTables t) (below : e < MAX_TABLE) (gives : PlaceGives t (e + 1) (Some p) true t') where
    boards-begun : t'.boards ≡ with_board t.boards (e + 1) (Some p)
    boards-begun = by_made (is_made (slots_of t (e + 1))) gives
      where
        by_made : (m : Bool) → MadeGives m t (e + 1) (Some p) true t' → t'.boards ≡ with_board t.boards (e + 1) (Some p)
        by_made true h = ap (λ (u : Tables K V). u.boards) h.1
        by_made false h = ap (λ (u : Tables K V). u.boards) h

    -- it has a new board
    pub board_at-begun : board_at t' e ≡ Some (begun_board e p)
    board_at-begun =
        ap (λ b. get_or b (e + 1) None) boards-begun ∙ get_or-set_same t.boards (e + 1) _ None (omega (arith, are.board_places, below))
        ∙ ap (λ n. Some (begun_board n p)) (let n : e + 1 - 1 ≡ e = omega arith in n)

    -- and every other one is as it was
    pub board_at-begun_other : (n : ℕ) → (n ≡ e → ⊥) → board_at t' n ≡ board_at t n
    board_at-begun_other n apart = ap (λ b. get_or b (n + 1) None) boards-begun ∙ get_or-set_other t.boards (e + 1) (n + 1) _ None (λ same. apart (omega (arith, same)))

  -- ---- a bin moves

  -- a second slot of the table is put
  pub put_twice : (t : Tables K V) (d i j : ℕ) (q r : SlotState K V) → d < length t.slots → (put_place (put_place t d i q) d j r).slots ≡ set t.slots d (set (set (slots_of t d) i q) j r)
  put_twice t d i j q r lt = set-set t.slots d _ _ ∙ ap (λ (s : List (SlotState K V)). set t.slots d (set s j r)) (get_or-set_same t.slots d _ [] lt)

  -- three slots are put, in two tables
  pub AreTables-moved : (t : Tables K V) (e i : ℕ) (q low high q' low' high' : SlotState K V) → AreTables t
      → place_at t e i ≡ Some q → place_at t (e + 1) i ≡ Some low → place_at t (e + 1) (i + 2 ^ e) ≡ Some high
      → (q'.table ≡ q.table) × (q'.index ≡ q.index) → (low'.table ≡ low.table) × (low'.index ≡ low.index) → (high'.table ≡ high.table) × (high'.index ≡ high.index)
      → AreTables (put_place (put_place (put_place t e i q') (e + 1) i low') (e + 1) (i + 2 ^ e) high')
  AreTables-moved t e i q low high q' low' high' are at at_low at_high same same_low same_high =
      let some : 0 < 2 ^ e = pow_pos e in
      let t1 = put_place t e i q' in
      let t2 = put_place t1 (e + 1) i low' in
      let are1 = AreTables-put t e i q' q are at same.0 same.1 in
      let at1 = place_at-put_other t e i q' (e + 1) i (λ h _. absurd (omega arith)) ∙ at_low in
      let are2 = AreTables-put t1 (e + 1) i low' low are1 at1 same_low.0 same_low.1 in
      let at2 = place_at-put_other t1 (e + 1) i low' (e + 1) (i + 2 ^ e) (λ _ h. absurd (omega arith)) ∙ place_at-put_other t e i q' (e + 1) (i + 2 ^ e) (λ h _. absurd (omega arith)) ∙ at_high in
      AreTables-put t2 (e + 1) (i + 2 ^ e) high' high are2 at2 same_high.0 same_high.1

module _ {K V F : Type 0} where
  -- a step at a slot and its halves keeps their tables and indices
  pub moves_in_place : (c c' : PartyState K V F) (q low high q' low' high' : SlotState K V) (ev : Event) → MoveStep c q low high ev c' q' low' high'
      → ((q'.table ≡ q.table) × (q'.index ≡ q.index)) × ((low'.table ≡ low.table) × (low'.index ≡ low.index)) × ((high'.table ≡ high.table) × (high'.index ≡ high.index))
  moves_in_place c c' q low high q' low' high' ev step = by_event ev step.step
    where
      same : (p p' : SlotState K V) → p' ≡ p → (p'.table ≡ p.table) × (p'.index ≡ p.index)
      same p p' is = (ap (λ (x : SlotState K V). x.table) is, ap (λ (x : SlotState K V). x.index) is)

      with_content : (p p' : SlotState K V) (x : Content K V) → p' ≡ record p { content = x } → (p'.table ≡ p.table) × (p'.index ≡ p.index)
      with_content p p' x is = (ap (λ (y : SlotState K V). y.table) is, ap (λ (y : SlotState K V). y.index) is)

      moved : (x : Content K V)
          → IfLive x (λ b. (q' ≡ record q { content = HasMoved }) × (low' ≡ record low { content = IsLive (half q.table 0 b) }) × (high' ≡ record high { content = IsLive (half q.table 1 b) }))
          → ((q'.table ≡ q.table) × (q'.index ≡ q.index)) × ((low'.table ≡ low.table) × (low'.index ≡ low.index)) × ((high'.table ≡ high.table) × (high'.index ≡ high.index))
      moved (IsLive b) h = (with_content q q' _ h.0, with_content low low' _ h.1, with_content high high' _ h.2)
      moved HasMoved h = absurd h
      moved IsUnborn h = absurd h

      by_event : (ev : Event) → MoveGives c q low high ev c' q' low' high'
          → ((q'.table ≡ q.table) × (q'.index ≡ q.index)) × ((low'.table ≡ low.table) × (low'.index ≡ low.index)) × ((high'.table ≡ high.table) × (high'.index ≡ high.index))
      by_event (event.Moved e i) gives = moved q.content gives.2.1
      by_event event.Silent gives = (same q q' gives.0, same low low' gives.1, same high high' gives.2)
      by_event event.Decide gives = absurd gives
      by_event event.Refused gives = absurd gives
      by_event (event.Opened e) gives = absurd gives
      by_event (event.Placed e) gives = absurd gives
      by_event event.Read gives = absurd gives
      by_event (event.Wipe _ _) gives = absurd gives
      by_event (event.Published e) gives = absurd gives
