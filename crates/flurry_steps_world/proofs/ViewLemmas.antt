-- Tables in their places, as the lists of their slots.
use Rattle.std.proofs.Common.{◌≡◌, ℕ, ◌<◌, ◌≤◌, ◌^◌, Bool, true, false, List, [], ◌∷◌, length, set, get_or, slice_get, Option, Some, None, refl, sym, ap, subst, ◌∙◌, inl, inr, arith}
use Rattle.std.specs.Prelude.{if◌then◌else◌, is_none, is_ok, Result, Ok, Err, OnOk, OnErr}
use Rattle.std.specs.Option.{IsSome, is_some}
use Rattle.std.proofs.lemmas.Bool.{cases_lt}
use Rattle.std.proofs.lemmas.List.{get_or-map, map-set, length-map, set-get_or}
use Rattle.std.proofs.lemmas.Option.{slice_get_past, slice_get_read}
use Rattle.flurry_bins_slots.specs.Slot.{SlotState}
use Rattle.flurry_steps_claims.specs.PlainBoard.{PlainBoardState}
use Rattle.flurry_steps_world.specs.Tables.{Tables, slots_of, place_at, put_place, board_for, with_board, made_slots, new_slots, is_made, MadeGives, PlaceGives, AreTables}
use Rattle.flurry_steps_world.specs.TablesView.{tables_of}
use Rattle.flurry_steps_world.specs.declared.tables.Table.{Table}
use Rattle.flurry_steps_world.proofs.TableLaws.{place_in, AreTables-put}
use Rattle.flurry_base.specs.declared.sizes.TheConstants.{MAX_TABLE, TABLES}

pub some_within : {X : Type 0} (xs : List X) (i : ℕ) → IsSome (slice_get xs i) → i < length xs
some_within {X = X} xs i some = elim (cases_lt i (length xs)) [
  | inl lt ↦ lt
  | inr past ↦ let none : is_some (slice_get xs i) ≡ is_some {T = X} None = ap is_some (slice_get_past xs i past) in absurd cc
]

module _ {K V : Type 0} (e : ℕ) (live : Bool) where
  pub none_made : (s : List (SlotState K V)) → length s ≡ 0 → is_made s ≡ false
  none_made [] h = refl
  none_made (p ∷ s) h = absurd (omega arith)

  -- slots that are there stay
  pub slots_stay : (s : List (SlotState K V)) → 0 < length s → s ≡ made_slots e live s
  slots_stay [] h = absurd (omega arith)
  slots_stay (p ∷ s) h = refl

  -- and else there are new ones
  pub slots_come : (s : List (SlotState K V)) → length s ≡ 0 → new_slots e live (2 ^ e) ≡ made_slots e live s
  slots_come [] h = refl
  slots_come (p ∷ s) h = absurd (omega arith)

module _ {K V A : Type 0} where
  abbrev pub seen : List (Table K V A) → Tables K V
  seen xs = tables_of xs

  -- the place of a table that has a slot
  pub table_within : (xs : List (Table K V A)) (e i : ℕ) → IsSome (place_at (seen xs) e i) → e < length xs
  table_within xs e i some = by_place (place_at (seen xs) e i) refl some
    where
      by_place : (o : Option (SlotState K V)) → place_at (seen xs) e i ≡ o → IsSome o → e < length xs
      by_place None is some = absurd cc
      by_place (Some q) is some = let (lt, below) = place_in (seen xs) e i q is in let f : Table K V A → List (SlotState K V) = λ v. v.slots.items in omega (arith, length-map xs f)

  pub number_places : (xs : List (Table K V A)) → AreTables (seen xs) → length xs ≡ TABLES
  number_places xs are = let f : Table K V A → List (SlotState K V) = λ v. v.slots.items in sym (length-map xs f) ∙ are.places

  -- each number has its place
  pub number_within : (xs : List (Table K V A)) (e : ℕ) → AreTables (seen xs) → e ≤ MAX_TABLE → e < length xs
  number_within xs e are small = let f : Table K V A → List (SlotState K V) = λ v. v.slots.items in omega (arith, length-map xs f, are.places)

  -- the table at its place
  module _ (xs : List (Table K V A)) (e : ℕ) (v : Table K V A) (lt : e < length xs) (is : v ≡ get_or xs e v) where
    pub slots_here : slots_of (seen xs) e ≡ v.slots.items
    slots_here = get_or-map (λ (w : Table K V A). w.slots.items) xs e v [] lt ∙ ap (λ (w : Table K V A). w.slots.items) (sym is)

    pub board_here : get_or (seen xs).boards e None ≡ v.board
    board_here = get_or-map (λ (w : Table K V A). w.board) xs e v None lt ∙ ap (λ (w : Table K V A). w.board) (sym is)

    -- another table with the same board leaves the boards
    pub boards_stay : (w : Table K V A) → w.board ≡ v.board → (seen (set xs e w)).boards ≡ (seen xs).boards
    boards_stay w same = map-set (λ (u : Table K V A). u.board) xs e w ∙ ap (set (seen xs).boards e) (same ∙ sym board_here) ∙ set-get_or (seen xs).boards e None

    pub slot_within : (i : ℕ) → IsSome (place_at (seen xs) e i) → i < length v.slots.items
    slot_within i some = rw slots_here at (some_within (slots_of (seen xs) e) i some)

    pub place_here : (i : ℕ) (q : SlotState K V) → i < length v.slots.items → q ≡ get_or v.slots.items i q → place_at (seen xs) e i ≡ Some q
    place_here i q below at = ap (λ (s : List (SlotState K V)). slice_get s i) slots_here ∙ slice_get_read v.slots.items (length v.slots.items) i q refl below at

    pub put_here : (i : ℕ) (w : Table K V A) (q : SlotState K V) → w.slots.items ≡ set v.slots.items i q → w.board ≡ v.board → seen (set xs e w) ≡ put_place (seen xs) e i q
    put_here i w q put same = λ j. record {
      slots = (map-set (λ (u : Table K V A). u.slots.items) xs e w ∙ ap (set (seen xs).slots e) (put ∙ ap (λ (s : List (SlotState K V)). set s i q) (sym slots_here))) j;
      boards = boards_stay w same j;
    }

    -- a slot is put there
    pub kept_here : (i : ℕ) (w : Table K V A) (p q : SlotState K V) → AreTables (seen xs) → place_at (seen xs) e i ≡ Some p → w.slots.items ≡ set v.slots.items i q → w.board ≡ v.board → q.table ≡ p.table → q.index ≡ p.index → AreTables (seen (set xs e w))
    kept_here i w p q are at put same table index = subst AreTables (sym (put_here i w q put same)) (AreTables-put (seen xs) e i q p are at table index)

    -- the table is made, or was there, and has its board
    pub made_here : (g : Option ℕ) (w : Table K V A) → w.slots.items ≡ made_slots e (is_none g) v.slots.items → w.board ≡ board_for e g v.board → PlaceGives (seen xs) e g true (seen (set xs e w))
    made_here g w slots board = subst (λ b. MadeGives b (seen xs) e g true (seen (set xs e w))) (sym (ap is_made slots_here)) (by_made (is_made v.slots.items) slots)
      where
        boards : (seen (set xs e w)).boards ≡ with_board (seen xs).boards e g
        boards = map-set (λ (u : Table K V A). u.board) xs e w ∙ ap (set (seen xs).boards e) (board ∙ ap (board_for e g) (sym board_here))

        put : (s : List (SlotState K V)) → w.slots.items ≡ s → (seen (set xs e w)).slots ≡ set (seen xs).slots e s
        put s is_s = map-set (λ (u : Table K V A). u.slots.items) xs e w ∙ ap (set (seen xs).slots e) is_s

        by_made : (b : Bool) → w.slots.items ≡ (if b then v.slots.items else new_slots e (is_none g) (2 ^ e)) → MadeGives b (seen xs) e g true (seen (set xs e w))
        by_made true same = (refl, λ j. record { slots = (put v.slots.items same ∙ ap (set (seen xs).slots e) (sym slots_here) ∙ set-get_or (seen xs).slots e []) j; boards = boards j })
        by_made false new = λ j. record { slots = put _ new j; boards = boards j }

    -- it is refused, and stays
    pub refused_here : (g : Option ℕ) (w : Table K V A) → w ≡ v → is_made v.slots.items ≡ false → PlaceGives (seen xs) e g false (seen (set xs e w))
    refused_here g w same none =
        subst (λ b. MadeGives b (seen xs) e g false (seen (set xs e w))) (sym (ap is_made slots_here ∙ none))
        (ap (λ u. seen (set xs e u)) (same ∙ is) ∙ ap seen (set-get_or xs e v))

    -- it is asked for
    pub placed_here : {T E : Type 0} (g : Option ℕ) (w : Table K V A) (r : Result T E) → OnOk r (w.slots.items ≡ made_slots e (is_none g) v.slots.items) → OnOk r (w.board ≡ board_for e g v.board)
        → OnErr r (w ≡ v) → OnErr r (is_made v.slots.items ≡ false) → PlaceGives (seen xs) e g (is_ok r) (seen (set xs e w))
    placed_here g w (Ok x) slots board stays none = made_here g w slots board
    placed_here g w (Err y) slots board stays none = refused_here g w stays none

    -- the board at the place is another
    pub board_put_here : (d : PlainBoardState) (w : Table K V A) → w.slots ≡ v.slots → w.board ≡ Some d → seen (set xs e w) ≡ record { slots = (seen xs).slots; boards = set (seen xs).boards e (Some d) }
    board_put_here d w same board = λ j. record {
      slots = (map-set (λ (u : Table K V A). u.slots.items) xs e w ∙ ap (set (seen xs).slots e) (ap (λ s. s.items) same ∙ sym slots_here) ∙ set-get_or (seen xs).slots e []) j;
      boards = (map-set (λ (u : Table K V A). u.board) xs e w ∙ ap (set (seen xs).boards e) board) j;
    }
