-- What a function makes of the pair of a key.
use Rattle.std.specs.Prelude.{◌≡◌, Bool, true, false, List, Option, Some, None, MatchBool}
use Rattle.std.specs.declared.cmp.Ordering.{Ordering}
use Rattle.flurry_base.specs.FiniteMap.{with_pair, without}
use Rattle.flurry_base.specs.declared.reply.KeptReply.{KeptReply}
use Rattle.flurry_base.specs.declared.reply.KeptReply.TheVariants.{Pair, Contains, New, Changed}
use Rattle.flurry_base.specs.declared.verdict.Verdict.{Verdict}
use Rattle.flurry_base.specs.declared.verdict.Verdict.TheVariants.{Keep, Set, Remove}

-- that of a function which answers the value to stand, or none to remove the pair
abbrev pub verdict_of : {V : Type 0} → Option V → Verdict V
verdict_of None = Remove
verdict_of (Some w) = Set w

module _ {K V : Type 0} where
  -- what is replied where the key had this pair, or none
  abbrev pub verdict_reply : Option (K × V) → Verdict V → KeptReply K V
  verdict_reply None (Set w) = New w
  verdict_reply None _ = Contains false
  verdict_reply (Some p) Keep = Contains true
  verdict_reply (Some p) (Set w) = Changed w p.1
  verdict_reply (Some p) Remove = Pair (Some p)

  -- the map after it
  abbrev pub with_verdict : (K → K → Ordering) → List (K × V) → K → Verdict V → List (K × V)
  with_verdict cmp m k Keep = m
  with_verdict cmp m k (Set w) = with_pair cmp m k w
  with_verdict cmp m k Remove = without cmp m k

module _ {K V F : Type 0} (gives : F → K → Option V → Verdict V → Type 0) where
  -- The function f may make that of the pair which the key k has, or of none. It is called on a stored key and its value; or, if a
  -- pair may be added, on k and none.
  abbrev pub Judges : F → K → Bool → Option (K × V) → Verdict V → Type 0
  Judges f k may_add None v = MatchBool may_add (gives f k None v) (v ≡ Keep)
  Judges f k may_add (Some p) v = gives f p.0 (Some p.1) v
