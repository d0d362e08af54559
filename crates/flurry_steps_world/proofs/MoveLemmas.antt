-- The step at a slot and its two halves, at the places of two tables.
use Rattle.std.proofs.Common.{◌≡◌, ℕ, ◌<◌, ◌+◌, ◌-◌, ◌^◌, List, ◌++◌, length, take, set, get_or, slice_get, Some, sym, ap, ◌∙◌, subst, arith, length-append, get_or-set_other}
use Rattle.std.specs.Option.{IsSome}
use Rattle.std.proofs.lemmas.List.{get_or_append_left, get_or-append_right, set-append_left, set-append_right, map-set, length-set, length-map}
use Rattle.std.proofs.Math.Seq.{take-append_seam}
use Rattle.flurry_bins_slots.specs.Slot.{SlotState}
use Rattle.flurry_steps.specs.Party.{PartyState}
use Rattle.flurry_steps.specs.PartySlots.{MoveStep}
use Rattle.flurry_steps_sweep.specs.declared.step.Event.{Event}
use Rattle.flurry_steps_world.specs.Parts.{HalvesStep}
use Rattle.flurry_steps_world.specs.Tables.{Tables, slots_of, place_at, put_place, AreTables}
use Rattle.flurry_steps_world.specs.declared.tables.Table.{Table}
use Rattle.flurry_steps_world.proofs.TableLaws.{length_of_put, slots_of-put_other, put_twice, moves_in_place, AreTables-moved}
use Rattle.flurry_steps_world.proofs.ViewLemmas.{seen, table_within, slots_here, slot_within, place_here, put_here, boards_stay}

-- the front and the back of the places are written, a table each
joined : {X : Type 0} (xs front back : List X) (e : ℕ) (x y : X) → xs ≡ front ++ back → length front ≡ e + 1 → set front e x ++ set back 0 y ≡ set (set xs e x) (e + 1) y
joined xs front back e x y split len =
    let here : e + 1 - (e + 1) ≡ 0 = omega arith in
    sym
    (ap (λ l. set (set l e x) (e + 1) y) split ∙ ap (λ l. set l (e + 1) y) (set-append_left front back e x (omega arith))
    ∙ set-append_right (set front e x) back (e + 1) (e + 1) y (length-set front e x ∙ len) (omega arith) ∙ ap (λ n. set front e x ++ set back n y) here)

module _ {X : Type 0} (xs front back : List X) (e : ℕ) (split : xs ≡ front ++ back) (len : length front ≡ e + 1) where
  front_read : (x : X) → x ≡ get_or front e x → x ≡ get_or xs e x
  front_read x is = is ∙ sym (get_or_append_left front back x e (omega arith)) ∙ ap (λ l. get_or l e x) (sym split)

  back_read : (x : X) → x ≡ get_or back 0 x → x ≡ get_or xs (e + 1) x
  back_read x is =
      let here : e + 1 - (e + 1) ≡ 0 = omega arith in
      is ∙ ap (λ n. get_or back n x) (sym here) ∙ sym (get_or-append_right front back (e + 1) (e + 1) x len (omega arith)) ∙ ap (λ l. get_or l (e + 1) x) (sym split)

pub take_front : {X : Type 0} (n : ℕ) (xs ys : List X) → length xs ≡ n → take n (xs ++ ys) ≡ xs
take_front n xs ys len = ap (λ k. take k (xs ++ ys)) (sym len) ∙ take-append_seam xs ys

module _ {K V A : Type 0} (xs : List (Table K V A)) (e i j : ℕ) (v w v' w' : Table K V A) (q' low' high' : SlotState K V) where
  -- a slot and two of the next table are put
  moved_here : e < length xs → e + 1 < length xs → v ≡ get_or xs e v → w ≡ get_or xs (e + 1) w → v'.slots.items ≡ set v.slots.items i q' → w'.slots.items ≡ set (set w.slots.items i low') j high' → v'.board ≡ v.board → w'.board ≡ w.board
      → seen (set (set xs e v') (e + 1) w') ≡ put_place (put_place (put_place (seen xs) e i q') (e + 1) i low') (e + 1) j high'
  moved_here lt next is_v is_w put_v put_w same_v same_w = λ m. record { slots = slots m; boards = boards m }
    where
      f : Table K V A → List (SlotState K V)
      f u = u.slots.items

      t : Tables K V
      t = put_place (seen xs) e i q'

      there : slots_of t (e + 1) ≡ w.slots.items
      there = slots_of-put_other (seen xs) e i q' (e + 1) (omega arith) ∙ slots_here xs (e + 1) w next is_w

      long : e + 1 < length t.slots
      long = omega (arith, length_of_put (seen xs) e i q', length-map xs f)

      slots : (seen (set (set xs e v') (e + 1) w')).slots ≡ (put_place (put_place t (e + 1) i low') (e + 1) j high').slots
      slots =
          map-set (λ (u : Table K V A). u.slots.items) (set xs e v') (e + 1) w' ∙ ap (λ l. set l (e + 1) w'.slots.items) (ap (λ (u : Tables K V). u.slots) (put_here xs e v lt is_v i v' q' put_v same_v))
          ∙ ap (set t.slots (e + 1)) (put_w ∙ ap (λ (s : List (SlotState K V)). set (set s i low') j high') (sym there))
          ∙ sym (put_twice t (e + 1) i j low' high' long)

      w_there : w ≡ get_or (set xs e v') (e + 1) w
      w_there = is_w ∙ sym (get_or-set_other xs e (e + 1) v' w (omega arith))

      boards : (seen (set (set xs e v') (e + 1) w')).boards ≡ (seen xs).boards
      boards = boards_stay (set xs e v') (e + 1) w (omega (arith, length-set xs e v')) w_there w' same_w ∙ boards_stay xs e v lt is_v v' same_v

module _ {K V A : Type 0} (xs front back : List (Table K V A)) (e : ℕ) (split : xs ≡ front ++ back) (len : length front ≡ e + 1) where
  -- the table, with its slot
  pub old_at : (i : ℕ) (olds : Table K V A) (q : SlotState K V) → IsSome (place_at (seen xs) e i) → olds ≡ get_or front e olds → q ≡ get_or (get_or front e olds).slots.items i q
      → (e < length xs) × (olds ≡ get_or xs e olds) × (place_at (seen xs) e i ≡ Some q)
  old_at i olds q some is at =
      let lt = table_within xs e i some in
      let there = front_read xs front back e split len olds is in
      (lt, there, place_here xs e olds lt there i q (slot_within xs e olds lt there i some) (at ∙ ap (λ (v : Table K V A). get_or v.slots.items i q) (sym is)))

  -- the index is below the number of its slots
  pub old_below : (i : ℕ) (olds : Table K V A) → IsSome (place_at (seen xs) e i) → olds ≡ get_or front e olds → i < length (get_or front e olds).slots.items
  old_below i olds some is =
      let lt = table_within xs e i some in
      let there = front_read xs front back e split len olds is in
      rw is at (slot_within xs e olds lt there i some)

  -- the next table, which has a slot of this index
  pub new_at : (j : ℕ) (news : Table K V A) → IsSome (place_at (seen xs) (e + 1) j) → news ≡ get_or back 0 news
      → (e + 1 < length xs) × (news ≡ get_or xs (e + 1) news) × (j < length (get_or back 0 news).slots.items)
  new_at j news some is =
      let lt = table_within xs (e + 1) j some in
      let there = back_read xs front back e split len news is in
      (lt, there, rw is at (slot_within xs (e + 1) news lt there j some))

  -- as many places as before
  pub as_many : (x y : Table K V A) → length (set front e x ++ set back 0 y) ≡ length xs
  as_many x y =
      length-append (set front e x) (set back 0 y) ∙ omega (arith, length-set front e x, length-set back 0 y, length-append front back, ap length split)

  pub moved : {F : Type 0} (i : ℕ) (olds news olds' news' : Table K V A) (q q' : SlotState K V) (c c' : PartyState K V F) (ev : Event) → AreTables (seen xs)
      → IsSome (place_at (seen xs) e i) → IsSome (place_at (seen xs) (e + 1) i) → olds ≡ get_or front e olds → news ≡ get_or back 0 news → q ≡ get_or (get_or front e olds).slots.items i q
      → olds'.slots.items ≡ set (get_or front e olds).slots.items i q' → olds'.board ≡ (get_or front e olds).board → news'.board ≡ (get_or back 0 news).board → HalvesStep c q i (i + 2 ^ e) (get_or back 0 news).slots.items ev c' q' news'.slots.items
      → (low high low' high' : SlotState K V)
      × (place_at (seen xs) e i ≡ Some q) × (place_at (seen xs) (e + 1) i ≡ Some low) × (place_at (seen xs) (e + 1) (i + 2 ^ e) ≡ Some high)
      × MoveStep c q low high ev c' q' low' high'
      × (seen (set front e olds' ++ set back 0 news') ≡ put_place (put_place (put_place (seen xs) e i q') (e + 1) i low') (e + 1) (i + 2 ^ e) high')
      × AreTables (seen (set front e olds' ++ set back 0 news'))
  moved i olds news olds' news' q q' c c' ev are some some_low is_olds is_news at put_old same_old same_new step =
      let (lt, there, at_q) = old_at i olds q some is_olds at in
      let (next, there_next, below) = new_at i news some_low is_news in
      let (low, high, low', high', at_low, at_high, move, put_new) = step in
      let here = slots_here xs (e + 1) news next there_next ∙ ap (λ (v : Table K V A). v.slots.items) is_news in
      let is_low = ap (λ (s : List (SlotState K V)). slice_get s i) here ∙ at_low in
      let is_high = ap (λ (s : List (SlotState K V)). slice_get s (i + 2 ^ e)) here ∙ at_high in
      let whole = ap (λ (l : List (Table K V A)). seen l) (joined xs front back e olds' news' split len)
      ∙ moved_here xs e i (i + 2 ^ e) olds news olds' news' q' low' high' lt next there there_next (put_old ∙ ap (λ (v : Table K V A). set v.slots.items i q') (sym is_olds))
      (put_new ∙ ap (λ (v : Table K V A). set (set v.slots.items i low') (i + 2 ^ e) high') (sym is_news))
      (same_old ∙ ap (λ (v : Table K V A). v.board) (sym is_olds)) (same_new ∙ ap (λ (v : Table K V A). v.board) (sym is_news)) in
      let kept = moves_in_place c c' q low high q' low' high' ev move in
      (low, high, low', high', at_q, is_low, is_high, move, whole, subst AreTables (sym whole) (AreTables-moved (seen xs) e i q low high q' low' high' are at_q is_low is_high kept.0 kept.1 kept.2))
