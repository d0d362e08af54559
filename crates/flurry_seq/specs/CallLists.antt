-- Lists of calls. A call on what there was may give a reply and leave another value; a call that was refused gives none.
use Rattle.std.specs.Prelude.{◌≡◌, List, [], ◌∷◌, ◌++◌}

module _ {C R M : Type 0} (answers : C → M → R → M → Type 0) where
  -- the calls, one after another, may give these replies and leave n
  abbrev pub RunsTo : List C → M → List R → M → Type 0
  RunsTo [] m [] n = n ≡ m
  RunsTo [] m (r ∷ rs) n = ⊥
  RunsTo (call ∷ calls) m [] n = ⊥
  RunsTo (call ∷ calls) m (r ∷ rs) n = (mid : M) × answers call m r mid × RunsTo calls mid rs n

  module _ (refused : C → M → M → Type 0) where
    -- what a run leaves that ended before these calls: the first of them was refused
    abbrev pub LeavesBefore : List C → M → M → Type 0
    LeavesBefore [] m n = n ≡ m
    LeavesBefore (call ∷ calls) m n = refused call m n

    -- a run ended early: the calls of a front gave replies, and the next was refused
    pub record EndsEarly (calls : List C) (m n : M) : Type 0 where
      pub done : List C
      pub rest : List C
      pub is : calls ≡ done ++ rest
      pub replies : List R
      pub mid : M
      pub ran : RunsTo done m replies mid
      pub left : LeavesBefore rest mid n
