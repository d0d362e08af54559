-- Where a call stands that goes over all bins.
use Rattle.std.specs.Prelude.{ℕ, ◌+◌, ◌^◌, ◌<◌, ◌≤◌, nat_lt, List, [], ◌∷◌, Option, Some, None, if◌then◌else◌, ⊤}
use Rattle.flurry_base.specs.declared.sizes.TheConstants.{MAX_TABLE}

-- of bin `index` of that table, what lies past the bound is yet to be gone over
pub record Frame (K : Type 0) : Type 0 where
  pub table : ℕ
  pub index : ℕ
  pub bound : Option (ℕ × K)

-- in the region of the bin of that index of the base table: the frame that is gone over now, and those that are to follow
pub record CursorState (K : Type 0) : Type 0 where
  pub base : ℕ
  pub index : ℕ
  pub top : Frame K
  pub below : List (Frame K)

-- the whole of a bin
abbrev pub whole_bin : {K : Type 0} → ℕ → ℕ → Frame K
whole_bin e i = record { table = e; index = i; bound = None }

-- the two halves of a frame, in the next table
abbrev pub low_half : {K : Type 0} → Frame K → Frame K
low_half f = record { table = f.table + 1; index = f.index; bound = f.bound }

abbrev pub high_half : {K : Type 0} → Frame K → Frame K
high_half f = record { table = f.table + 1; index = f.index + 2 ^ f.table; bound = f.bound }

-- a frame whose bin was gone over up to a further bound
abbrev pub with_bound : {K : Type 0} → Frame K → ℕ × K → Frame K
with_bound f b = record { table = f.table; index = f.index; bound = Some b }

module _ {K : Type 0} where
  -- at that bin of the base table
  abbrev pub at_base : ℕ → ℕ → CursorState K
  at_base e i = record { base = e; index = i; top = whole_bin e i; below = [] }

  -- with another frame on top
  abbrev pub with_top : CursorState K → Frame K → CursorState K
  with_top c f = record { base = c.base; index = c.index; top = f; below = c.below }

  -- the bin on top has moved: its halves take its place, the low one first
  abbrev pub after_split : CursorState K → CursorState K
  after_split c = record { base = c.base; index = c.index; top = low_half c.top; below = high_half c.top ∷ c.below }

  -- the frame on top is done, and these are below it: the next of them, or else the next bin of the base table, up to the last one
  abbrev pub onward : ℕ → ℕ → List (Frame K) → Option (CursorState K)
  onward e i [] = if nat_lt (i + 1) (2 ^ e) then Some (at_base e (i + 1)) else None
  onward e i (f ∷ fs) = Some (record { base = e; index = i; top = f; below = fs })

  abbrev pub after_top : CursorState K → Option (CursorState K)
  after_top c = onward c.base c.index c.below

  -- ---- what each cursor keeps

  -- the bin is one of its table, and there is such a table
  pub record IsFrame (f : Frame K) : Type 0 where
    pub table : f.table ≤ MAX_TABLE
    pub index : f.index < 2 ^ f.table

  -- from the top down the tables descend, from one below that one on
  abbrev pub AreBelow : ℕ → List (Frame K) → Type 0
  AreBelow n [] = ⊤
  AreBelow n (f ∷ fs) = (f.table < n) × IsFrame f × AreBelow f.table fs

  -- so at most 32 frames stand: only the one below the top may be of its table
  pub record IsCursor (c : CursorState K) : Type 0 where
    pub base : c.base ≤ MAX_TABLE
    pub index : c.index < 2 ^ c.base
    pub top : IsFrame c.top
    pub below : AreBelow (c.top.table + 1) c.below
