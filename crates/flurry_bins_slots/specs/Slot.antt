-- A slot of a table as plain data, and what each step at it is.
use Rattle.std.specs.Prelude.{◌≡◌, ℕ, ◌+◌, ◌-◌, ◌^◌, ◌<◌, ◌≤◌, ◌==◌, nat_le, nat_lt, min, length, Bool, false, ◌&&◌, List, [], Option, Some, None, is_none, Result, Ok, Err, ⊤, ◌⊎◌, if◌then◌else◌, true}
use Rattle.std.specs.declared.cmp.Ordering.{Ordering}
use Rattle.std.specs.Option.{option_map, option_map_or}
use Rattle.std.specs.List.{AllByRecursion, find, filter}
use Rattle.std.specs.Map.{keys_of}
use Rattle.std.specs.Int.{bit_at}
use Rattle.flurry_base.specs.FiniteMap.{IsFiniteMap, pair_at, with_pair, without}
use Rattle.flurry_base.specs.HashOrder.{hash_then_key, is_pair_past}
use Rattle.flurry_base.specs.BinSizes.{IsSized, grows_into_tree, asks_for_growth}
use Rattle.flurry_base.specs.HashOrder.{InRegion}
use Rattle.flurry_base.specs.declared.sizes.TheConstants.{MAX_TABLE, MIN_TREE_LEN}
use Rattle.flurry_base.specs.Verdicts.{Judges, verdict_of}
use Rattle.flurry_base.specs.declared.verdict.Verdict.{Verdict}
use Rattle.flurry_base.specs.declared.verdict.Verdict.TheVariants.{Keep, Set, Remove}

-- an entry: at a hash and a key, the value and its write number
abbrev pub PlainEntry : Type 0 → Type 0 → Type 0
PlainEntry K V = (ℕ × K) × (V × ℕ)

-- its key and value
abbrev pub pair_of_entry : {K V : Type 0} → PlainEntry K V → K × V
pair_of_entry e = (e.0.1, e.1.0)

-- a bin that is live: its entries are a finite map whose key is the hash and the key; it is a list or a tree; and so many values
-- were written to it
pub record Live (K V : Type 0) : Type 0 where
  pub plain_entries : List (PlainEntry K V)
  pub tree : Bool
  pub writes : ℕ

-- what stands at a slot: a bin, the note that it moved to the next larger table, or nothing yet
pub data Content (K V : Type 0) : Type 0 where
  IsLive : Live K V → Content K V
  HasMoved : Content K V
  IsUnborn : Content K V

abbrev pub is_live : {K V : Type 0} → Content K V → Bool
is_live (IsLive b) = true
is_live _ = false

-- a slot: bin `index` of table `table`, which has 2^table bins
pub record SlotState (K V : Type 0) : Type 0 where
  pub table : ℕ
  pub index : ℕ
  pub content : Content K V

-- what a computation at a live bin did
pub data ComputeOutcome (V : Type 0) : Type 0 where
  WasAbsent : ComputeOutcome V
  WasRemoved : ComputeOutcome V
  WasChanged : V → ComputeOutcome V

-- what an alteration at a live bin did: the key is absent as it was, or was added with a value, and whether a larger table is asked
-- for; or its pair was kept, or was removed, or has a new value in place of an old one
pub data AlterOutcome (K V : Type 0) : Type 0 where
  StayedAbsent : AlterOutcome K V
  WasAdded : V → Bool → AlterOutcome K V
  WasKept : AlterOutcome K V
  WasTaken : PlainEntry K V → AlterOutcome K V
  WasSet : V → V → AlterOutcome K V

-- the next write number: one more, up to the greatest number
abbrev pub next_number : ℕ → ℕ
next_number n = min (n + 1) (2 ^ 64 - 1)

module _ {K V : Type 0} where
  -- the bin with other entries, fewer: a tree of fewer than seven is a list
  abbrev pub with_fewer : Live K V → List (PlainEntry K V) → Live K V
  with_fewer b plain_entries = record { plain_entries = plain_entries; tree = b.tree && nat_le MIN_TREE_LEN (length plain_entries); writes = b.writes }

  -- what comes of a verdict on this entry, or on none
  abbrev pub verdict_outcome : Bool → Option (PlainEntry K V) → Verdict V → AlterOutcome K V
  verdict_outcome asked None (Set w) = WasAdded w asked
  verdict_outcome asked None _ = StayedAbsent
  verdict_outcome asked (Some e) Keep = WasKept
  verdict_outcome asked (Some e) (Set w) = WasSet w e.1.0
  verdict_outcome asked (Some e) Remove = WasTaken e

  -- the entries whose hash has this bit at this place, as a bin with the same count of writes
  abbrev pub half : ℕ → ℕ → Live K V → Live K V
  half place bit b = with_fewer b (filter (λ e. bit_at e.0.0 place == bit) b.plain_entries)

  -- no entry is left; the count of writes stays
  abbrev pub after_wipe : Live K V → Live K V
  after_wipe b = record { plain_entries = []; tree = false; writes = b.writes }

  module _ (cmp : K → K → Ordering) where
    -- the entry of a hash and a key
    abbrev pub entry_of_live : Live K V → ℕ → K → Option (PlainEntry K V)
    entry_of_live b h k = pair_at (hash_then_key cmp) b.plain_entries (h, k)

    -- its value
    abbrev pub value_of_live : Live K V → ℕ → K → Option V
    value_of_live b h k = option_map (λ (e : PlainEntry K V). e.1.0) (entry_of_live b h k)

    -- the first entry past a bound, or with no bound the first
    abbrev pub next_of_live : Option (ℕ × K) → Live K V → Option (PlainEntry K V)
    next_of_live bound b = find (is_pair_past cmp bound) b.plain_entries

    -- in a table of so many bins: a value is written; the key that is stored stays, and a new one comes to its place
    abbrev pub after_write : ℕ → Live K V → ℕ → K → V → Live K V
    after_write bins b h k v = record {
      plain_entries = with_pair (hash_then_key cmp) b.plain_entries (h, k) (v, next_number b.writes);
      tree = if is_none (entry_of_live b h k) then grows_into_tree bins b.tree (length b.plain_entries) else b.tree;
      writes = next_number b.writes;
    }

    -- whether that asks for a larger table
    abbrev pub asks : ℕ → Live K V → ℕ → K → Bool
    asks bins b h k = is_none (entry_of_live b h k) && asks_for_growth bins b.tree (length b.plain_entries)

    -- what a write answers: the value before, and that
    abbrev pub write_reply : ℕ → Live K V → ℕ → K → Option V × Bool
    write_reply bins b h k = (value_of_live b h k, asks bins b h k)

    -- the bin without the entry of a hash and a key
    abbrev pub after_take : Live K V → ℕ → K → Live K V
    after_take b h k = with_fewer b (without (hash_then_key cmp) b.plain_entries (h, k))

    -- a value is written where the key is absent
    abbrev pub after_add : ℕ → Live K V → ℕ → K → V → Live K V
    after_add bins b h k v = if is_none (entry_of_live b h k) then after_write bins b h k v else b

    -- what that answers: the new value, and whether a larger table is asked for; or the value that stands, and the new one
    abbrev pub add_reply : ℕ → Live K V → ℕ → K → V → Result (V × Bool) (V × V)
    add_reply bins b h k v = option_map_or (λ current. Err (current, v)) (value_of_live b h k) (Ok (v, asks bins b h k))

    -- the entry bears this number, which is below the greatest: its value is the one that was seen with the number
    abbrev pub is_unwritten_since : ℕ → Live K V → ℕ → K → Bool
    is_unwritten_since n b h k = option_map_or (λ (e : PlainEntry K V). e.1.1 == n && nat_lt n (2 ^ 64 - 1)) (entry_of_live b h k) false

    -- it is taken exactly then
    abbrev pub after_take_if : ℕ → Live K V → ℕ → K → Live K V
    after_take_if n b h k = if is_unwritten_since n b h k then after_take b h k else b

    abbrev pub take_if_reply : ℕ → Live K V → ℕ → K → Option (PlainEntry K V)
    take_if_reply n b h k = if is_unwritten_since n b h k then entry_of_live b h k else None

    -- `changes k x v` says that the function may make v of the pair of k, which is x or none. It is called once, on a pair that is
    -- there; what it answers is written, and where it answers none the pair is taken out.
    module _ (changes : K → Option V → Verdict V → Type 0) where
      abbrev pub Computes : ℕ → Live K V → ℕ → K → ComputeOutcome V → Live K V → Type 0
      Computes bins b h k WasAbsent c = (entry_of_live b h k ≡ None) × (c ≡ b)
      Computes bins b h k WasRemoved c = (e : PlainEntry K V) × (entry_of_live b h k ≡ Some e) × changes e.0.1 (Some e.1.0) (verdict_of None) × (c ≡ after_take b h k)
      Computes bins b h k (WasChanged w) c = (e : PlainEntry K V) × (entry_of_live b h k ≡ Some e) × changes e.0.1 (Some e.1.0) (verdict_of (Some w)) × (c ≡ after_write bins b h k w)

      -- memory could not be allocated for this value, which the function returned
      abbrev pub ComputesInVain : Live K V → ℕ → K → V → Type 0
      ComputesInVain b h k w = (e : PlainEntry K V) × (entry_of_live b h k ≡ Some e) × changes e.0.1 (Some e.1.0) (verdict_of (Some w))

    -- the bin after a verdict on this entry of it, or on none
    abbrev pub after_verdict : ℕ → Live K V → ℕ → K → Option (PlainEntry K V) → Verdict V → Live K V
    after_verdict bins b h k e Keep = b
    after_verdict bins b h k e (Set w) = after_write bins b h k w
    after_verdict bins b h k None Remove = b
    after_verdict bins b h k (Some e) Remove = after_take b h k

    -- The function f is called once, on the pair that is there; or, if a pair may be added, on none. What it makes of the pair is done.
    module _ {F : Type 0} (changes : F → K → Option V → Verdict V → Type 0) (f : F) (may_add : Bool) where
      -- it may make that of the entry of a hash and a key
      abbrev pub JudgesAt : Live K V → ℕ → K → Verdict V → Type 0
      JudgesAt b h k v = Judges changes f k may_add (option_map pair_of_entry (entry_of_live b h k)) v

      abbrev pub Alters : ℕ → Live K V → ℕ → K → AlterOutcome K V → Live K V → Type 0
      Alters bins b h k o c = (v : Verdict V) × JudgesAt b h k v
          × (o ≡ verdict_outcome (asks bins b h k) (entry_of_live b h k) v) × (c ≡ after_verdict bins b h k (entry_of_live b h k) v)

  -- a hash lies in the region of the slot
  abbrev pub LiesInBin : ℕ → SlotState K V → Type 0
  LiesInBin h p = InRegion p.table p.index h

  -- the slot with its live bin changed
  abbrev pub content_with : (Live K V → Live K V) → Content K V → Content K V
  content_with f (IsLive b) = IsLive (f b)
  content_with f c = c

  abbrev pub slot_with : (Live K V → Live K V) → SlotState K V → SlotState K V
  slot_with f p = record p { content = content_with f p.content }

  -- the bin at the slot is live, and this holds of it
  abbrev pub IfLive : Content K V → (Live K V → Type 0) → Type 0
  IfLive (IsLive b) P = P b
  IfLive _ P = ⊥

  -- low and high are the halves of p in the next larger table, and no bin is there yet
  pub record AreHalves (p low high : SlotState K V) : Type 0 where
    pub low_table : low.table ≡ p.table + 1
    pub high_table : high.table ≡ p.table + 1
    pub low_index : low.index ≡ p.index
    pub high_index : high.index ≡ p.index + 2 ^ p.table
    pub low_unborn : low.content ≡ IsUnborn
    pub high_unborn : high.content ≡ IsUnborn

  -- the live bin of p has moved: the entries whose hash has bit `table` 0 stand in the low half, and the others in the high one
  abbrev pub HasMovedInto : SlotState K V → SlotState K V → SlotState K V → SlotState K V → SlotState K V → SlotState K V → Type 0
  HasMovedInto p low high p' low' high' =
      AreHalves p low high
      × IfLive p.content
      (λ b. (p' ≡ record p { content = HasMoved })
      × (low' ≡ record low { content = IsLive (half p.table 0 b) })
      × (high' ≡ record high { content = IsLive (half p.table 1 b) }))

  -- nothing can be moved: no bin is there yet, or a slot lent in is not a half that has no bin yet
  abbrev pub Clashes : SlotState K V → SlotState K V → SlotState K V → Type 0
  Clashes p low high = (p.content ≡ IsUnborn) ⊎ IfLive p.content (λ b. AreHalves p low high → ⊥)

  -- What each live bin keeps: its entries ascend strictly by hash and key, a tree has at least seven and a list at most nine, and
  -- the hashes lie in the bin's region.
  pub record IsLiveIn (cmp : K → K → Ordering) (table index : ℕ) (b : Live K V) : Type 0 where
    pub ascends : IsFiniteMap (hash_then_key cmp) b.plain_entries
    pub sized : IsSized b.tree (length b.plain_entries)
    pub region : AllByRecursion (λ (k : ℕ × K). InRegion table index k.0) (keys_of b.plain_entries)

  -- the largest table moves no bin
  abbrev pub IsContent : (K → K → Ordering) → ℕ → ℕ → Content K V → Type 0
  IsContent cmp table index (IsLive b) = IsLiveIn cmp table index b
  IsContent cmp table index HasMoved = table < MAX_TABLE
  IsContent cmp table index IsUnborn = ⊤

  -- what each slot keeps
  pub record IsSlot (cmp : K → K → Ordering) (p : SlotState K V) : Type 0 where
    pub table : p.table ≤ MAX_TABLE
    pub index : p.index < 2 ^ p.table
    pub content : IsContent cmp p.table p.index p.content
