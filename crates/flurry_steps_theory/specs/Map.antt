-- A finite map, and what each one-key call replies and leaves. A class is the keys that compare alike.
use Rattle.std.specs.Prelude.{⊤, Bool, not, List, [], ◌∷◌, filter, Option, Some, None, option_map, is_some, IsSome, IsTrue, MatchOption, if◌then◌else◌, unwrap_or, ◌≡◌, ◌⊎◌}
use Rattle.std.specs.declared.cmp.Ordering.{Ordering}
use Rattle.std.specs.Ordering.{eq_by_cmp}
use denote.Param.Members.{Shared}
use denote.Ref.{Bor}
use Rattle.flurry_base.specs.declared.call.Call.{Call}
use Rattle.flurry_base.specs.declared.call.Call.TheVariants.{Get, GetKeyValue, ContainsKey, Insert, TryInsert, Compute, Alter, Remove, RemoveEntry, RemoveSeen, Reserve, Walk}
use Rattle.flurry_base.specs.declared.reply.KeptReply.{KeptReply}
use Rattle.flurry_base.specs.declared.reply.KeptReply.TheVariants.{Value, Pair, Contains, New, Changed, Exists}
use Rattle.flurry_base.specs.declared.verdict.Verdict.{Verdict}
use Rattle.flurry_base.specs.declared.verdict.Verdict.TheVariants.{Set}
use Rattle.flurry_base.specs.Verdicts.{Judges, verdict_of, verdict_reply}

-- the function f, called on a key and on its value or none, may answer v
abbrev pub answers : {K V F : Type 0} → Shared F (Bor K × (Option (Bor V) × Unit {0})) (Verdict V) → F → K → Option V → Verdict V → Type 0
answers {K} {V} g f k o v =
    (x : Bor K) × (y : Option (Bor V)) × (x.now ≡ k) × (option_map (λ b. b.now) y ≡ o) × g.post f (x, (y, tt)) v

-- The pairs of a map, in no order that counts: no class has two.
abbrev pub Pairs : Type 0 → Type 0 → Type 0
Pairs K V = List (K × V)

module _ {K : Type 0} (cmp : K → K → Ordering) where
  -- the two keys are of one class
  abbrev pub same : K → K → Bool
  same = eq_by_cmp cmp

  module _ {V : Type 0} where
    -- the pair of k's class
    abbrev pub find : Pairs K V → K → Option (K × V)
    find [] k = None
    find (x ∷ m) k = if same x.0 k then Some x else find m k

    -- no class has two pairs
    abbrev pub Unique : Pairs K V → Type 0
    Unique [] = ⊤
    Unique (x ∷ m) = (find m x.0 ≡ None) × Unique m

    -- m without k's class
    abbrev pub without : Pairs K V → K → Pairs K V
    without m k = filter (λ x. not (same x.0 k)) m

    -- m with this pair alone at its class
    abbrev pub put : Pairs K V → K → V → Pairs K V
    put m k v = (k, v) ∷ without m k

    -- m with another value at k's class: the key that is stored stays
    abbrev pub write : Pairs K V → K → V → Pairs K V
    write m k v = (unwrap_or (option_map (λ x. x.0) (find m k)) k, v) ∷ without m k

    -- the value at k's class
    abbrev pub value_at : Pairs K V → K → Option V
    value_at m k = option_map (λ x. x.1) (find m k)

    -- The map after a one-key call with this reply.
    abbrev pub after : {F : Type 0} → Call K V F → KeptReply K V → Pairs K V → Pairs K V
    after (Insert k v) r m = write m k v
    after (TryInsert k v) (New w) m = put m k v
    after (Compute k f) (Value (Some w)) m = write m k w
    after (Compute k f) (Value None) m = without m k
    after (Alter k may_add f) (New w) m = put m k w
    after (Alter k may_add f) (Changed w o) m = write m k w
    after (Alter k may_add f) (Pair (Some x)) m = without m k
    after (Remove k) r m = without m k
    after (RemoveEntry k) r m = without m k
    after (RemoveSeen s) (Value (Some w)) m = without m s.key
    after c r m = m

    -- The replies that a one-key call may give on m. gives f k o v: the function f, called on a key and on its value or none, may
    -- make v of the pair.
    abbrev pub Allows : {F : Type 0} (gives : F → K → Option V → Verdict V → Type 0) → Call K V F → Pairs K V → KeptReply K V → Type 0
    Allows gives (Get k) m r = r ≡ Value (value_at m k)
    Allows gives (GetKeyValue k) m r = r ≡ Pair (find m k)
    Allows gives (ContainsKey k) m r = r ≡ Contains (is_some (find m k))
    Allows gives (Insert k v) m r = r ≡ Value (value_at m k)
    Allows gives (TryInsert k v) m r = MatchOption (find m k) (r ≡ New v) (λ x. r ≡ Exists x.1 v)
    Allows gives (Compute k f) m r =
        MatchOption (find m k) (r ≡ Value None)
        (λ x. (o : Option V) × gives f x.0 (Some x.1) (verdict_of o) × (r ≡ Value o))
    Allows gives (Alter k may_add f) m r =
        (v : Verdict V) × Judges gives f k may_add (find m k) v × (r ≡ verdict_reply (find m k) v)
    Allows gives (Remove k) m r = r ≡ Value (value_at m k)
    Allows gives (RemoveEntry k) m r = r ≡ Pair (find m k)
    Allows gives (RemoveSeen s) m r = (r ≡ Value None) ⊎ (r ≡ Value (value_at m s.key))
    Allows gives c m r = ⊥

    -- The calls that memory may be refused, and on which maps: a look-up that found the class and hands out further owners, an
    -- insertion on either branch, a function's call on a pair that answered a value to write, one at an absent class that may add
    -- a pair, whatever it would answer, a reserve and a walk.
    abbrev pub CanBeRefused : {F : Type 0} (gives : F → K → Option V → Verdict V → Type 0) → Call K V F → Pairs K V → Type 0
    CanBeRefused gives (Get k) m = IsSome (find m k)
    CanBeRefused gives (GetKeyValue k) m = IsSome (find m k)
    CanBeRefused gives (Insert k v) m = ⊤
    CanBeRefused gives (TryInsert k v) m = ⊤
    CanBeRefused gives (Compute k f) m = MatchOption (find m k) ⊥ (λ x. (w : V) × gives f x.0 (Some x.1) (Set w))
    CanBeRefused gives (Alter k may_add f) m =
        MatchOption (find m k) (IsTrue may_add) (λ x. (w : V) × gives f x.0 (Some x.1) (Set w))
    CanBeRefused gives (Reserve n) m = ⊤
    CanBeRefused gives Walk m = ⊤
    CanBeRefused gives c m = ⊥
