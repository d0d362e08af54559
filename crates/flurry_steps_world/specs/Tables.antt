-- Tables in their places, by exponent: there is a list of slots for each exponent, which is empty where no table was made, and the board of
-- the growth into that table, if there is one.
use Rattle.std.specs.Prelude.{◌≡◌, ℕ, zero, suc, ◌+◌, ◌-◌, ◌^◌, Bool, true, false, List, [], ◌∷◌, ◌++◌, length, replicate, slice_get, slice_index_or, slice_set, Option, Some, None, is_none, if◌then◌else◌}
use Rattle.std.specs.Option.{option_map_or}
use Rattle.flurry_base.specs.Sizes.{stride_of}
use Rattle.flurry_bins_slots.specs.Slot.{Content, IsLive, IsUnborn, SlotState}
use Rattle.flurry_steps_claims.specs.PlainBoard.{PlainBoardState, new_plain_board, board_after_take}
use Rattle.flurry_base.specs.declared.sizes.TheConstants.{TABLES}

pub record Tables (K V : Type 0) : Type 0 where
  pub slots : List (List (SlotState K V))
  pub boards : List (Option PlainBoardState)

module _ {K V : Type 0} where
  -- no table in any of the 31 places
  abbrev pub no_tables : Tables K V
  no_tables = record { slots = replicate TABLES []; boards = replicate TABLES None }

  -- the slots of table e
  abbrev pub slots_of : Tables K V → ℕ → List (SlotState K V)
  slots_of t e = slice_index_or t.slots e []

  -- the slot of bin i there
  abbrev pub place_at : Tables K V → ℕ → ℕ → Option (SlotState K V)
  place_at t e i = slice_get (slots_of t e) i

  -- and what stands there: no bin where there is no such slot
  abbrev pub content_at : Tables K V → ℕ → ℕ → Content K V
  content_at t e i = option_map_or (λ (p : SlotState K V). p.content) (place_at t e i) IsUnborn

  -- the tables with another slot there
  abbrev pub put_place : Tables K V → ℕ → ℕ → SlotState K V → Tables K V
  put_place t e i q = record { slots = slice_set t.slots e (slice_set (slots_of t e) i q); boards = t.boards }

  -- the board of the growth from table e
  abbrev pub board_at : Tables K V → ℕ → Option PlainBoardState
  board_at t e = slice_index_or t.boards (e + 1) None

  -- the tables with another board there
  abbrev pub put_board : Tables K V → ℕ → PlainBoardState → Tables K V
  put_board t e d = record { slots = t.slots; boards = slice_set t.boards (e + 1) (Some d) }

  -- ---- new tables

  -- what stands at a slot of a new table: an empty bin, or none yet
  abbrev pub fresh : Bool → Content K V
  fresh true = IsLive (record { plain_entries = []; tree = false; writes = 0 })
  fresh false = IsUnborn

  -- the first n slots of a new table e
  abbrev pub new_slots : ℕ → Bool → ℕ → List (SlotState K V)
  new_slots e live zero = []
  new_slots e live (suc n) = new_slots e live n ++ record { table = e; index = n; content = fresh live } ∷ []

  abbrev pub is_made : List (SlotState K V) → Bool
  is_made [] = false
  is_made (p ∷ ps) = true

module _ {K V : Type 0} where
  -- the slots of table e, where that table is asked for: those that are there, else new ones
  abbrev pub made_slots : ℕ → Bool → List (SlotState K V) → List (SlotState K V)
  made_slots e live s = if is_made s then s else new_slots e live (2 ^ e)

-- the board of a growth from table e, which p processors share, when it begins: the party that begins it has a seat
abbrev pub begun_board : ℕ → ℕ → PlainBoardState
begun_board e p = board_after_take (new_plain_board e (stride_of (2 ^ e) p))

-- the board at the place of table e, where that table is asked for: a growth into it has a new one
abbrev pub board_for : ℕ → Option ℕ → Option PlainBoardState → Option PlainBoardState
board_for e None b = b
board_for e (Some p) b = Some (begun_board (e - 1) p)

abbrev pub with_board : List (Option PlainBoardState) → ℕ → Option ℕ → List (Option PlainBoardState)
with_board bs e g = slice_set bs e (board_for e g (slice_index_or bs e None))

module _ {K V : Type 0} where
  -- the tables with a new table e
  abbrev pub with_table : Tables K V → ℕ → Option ℕ → Tables K V
  with_table t e g = record { slots = slice_set t.slots e (new_slots e (is_none g) (2 ^ e)); boards = with_board t.boards e g }

  -- Whether the table was there; then its slots stay. Else it is made, or refused, and then nothing changes.
  abbrev pub MadeGives : Bool → Tables K V → ℕ → Option ℕ → Bool → Tables K V → Type 0
  MadeGives true t e g ok t' = (ok ≡ true) × (t' ≡ record { slots = t.slots; boards = with_board t.boards e g })
  MadeGives false t e g true t' = t' ≡ with_table t e g
  MadeGives false t e g false t' = t' ≡ t

  -- making table e, with live bins, or for a growth into it, which so many processors share
  abbrev pub PlaceGives : Tables K V → ℕ → Option ℕ → Bool → Tables K V → Type 0
  PlaceGives t e g ok t' = MadeGives (is_made (slots_of t e)) t e g ok t'

  -- what tables keep: a place for each exponent from 0 to the greatest; in each table that is there its slots, in their order; and a
  -- board of the table before it
  pub record AreTables (t : Tables K V) : Type 0 where
    pub places : length t.slots ≡ TABLES
    pub slots : (e : ℕ) → is_made (slots_of t e) ≡ true → length (slots_of t e) ≡ 2 ^ e
    pub order : (e i : ℕ) (q : SlotState K V) → place_at t e i ≡ Some q → (q.table ≡ e) × (q.index ≡ i)
    pub board_places : length t.boards ≡ TABLES
    pub boards : (e : ℕ) (d : PlainBoardState) → board_at t e ≡ Some d → d.table ≡ e
