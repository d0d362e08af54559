-- The one-key calls of a trace, as the calls on a finite map that is kept in the order of its keys.
use Rattle.std.specs.Prelude.{◌≡◌, List, Option}
use Rattle.std.specs.declared.cmp.Ordering.{Ordering}
use Rattle.flurry_base.specs.FiniteMap.{IsFiniteMap, pair_at}
use Rattle.flurry_base.specs.OneKey.{Answers}
use Rattle.flurry_base.specs.declared.reply.KeptReply.{KeptReply}
use Rattle.flurry_base.specs.declared.verdict.Verdict.{Verdict}
use Rattle.flurry_steps_theory.specs.Map.{Pairs, find, after, Allows}
use Rattle.flurry_base.specs.declared.call.Call.{Call}

module _ {K V : Type 0} (cmp : K → K → Ordering) where
  -- the list m has at each class what the pairs n have there
  abbrev pub HasSamePairs : List (K × V) → Pairs K V → Type 0
  HasSamePairs m n = (k : K) → pair_at cmp m k ≡ find cmp n k

  module _ {F : Type 0} where
    -- m is the finite map of the pairs that a trace has after the call c with the reply r, where it had n
    abbrev pub IsMapAfter : Call K V F → KeptReply K V → Pairs K V → List (K × V) → Type 0
    IsMapAfter c r n m = IsFiniteMap cmp m × HasSamePairs m (after cmp c r n)

    -- The call c of a trace, on the pairs n, and the same call on the finite map m: either may reply r where the other may, and leaves
    -- the same.
    pub record AgreesOn (gives : F → K → Option V → Verdict V → Type 0) (c : Call K V F) (m : List (K × V)) (n : Pairs K V) (r : KeptReply K V) : Type 0 where
      -- whatever a trace allows, the finite map replies
      pub answered : Allows cmp gives c n r → (l : List (K × V)) × Answers cmp gives c m r l × IsMapAfter c r n l
      -- whatever the finite map replies, a trace allows, and however the finite map is left, the trace has these pairs
      pub allowed : (l : List (K × V)) → Answers cmp gives c m r l → Allows cmp gives c n r × IsMapAfter c r n l
