-- The calls of one key: what each replies on a finite map, and the map after it.
use Rattle.std.specs.Prelude.{◌≡◌, ◌⊎◌, ℕ, List, Option, Some, None, option_map, unwrap_or, is_some, MatchOption}
use Rattle.std.specs.declared.cmp.Ordering.{Ordering}
use Rattle.flurry_base.specs.FiniteMap.{pair_at, value_at, with_pair, without}
use Rattle.flurry_base.specs.declared.call.Call.{Call}
use Rattle.flurry_base.specs.declared.call.Call.TheVariants.{Get, GetKeyValue, ContainsKey, Insert, TryInsert, Compute, Alter, Remove, RemoveEntry, RemoveSeen}
use Rattle.flurry_base.specs.declared.reply.KeptReply.{KeptReply}
use Rattle.flurry_base.specs.declared.reply.KeptReply.TheVariants.{Value, Pair, Contains, New, Exists}
use Rattle.flurry_base.specs.declared.verdict.Verdict.{Verdict}
use Rattle.flurry_base.specs.Verdicts.{Judges, verdict_of, verdict_reply, with_verdict}

-- the key of a one-key call; none for a reserve, a clear or a walk
abbrev pub key_of : {K V F : Type 0} → Call K V F → Option K
key_of (Get k) = Some k
key_of (GetKeyValue k) = Some k
key_of (ContainsKey k) = Some k
key_of (Insert k v) = Some k
key_of (TryInsert k v) = Some k
key_of (Compute k f) = Some k
key_of (Alter k may_add f) = Some k
key_of (Remove k) = Some k
key_of (RemoveEntry k) = Some k
key_of (RemoveSeen s) = Some s.key
key_of _ = None

-- the hash by which a call goes: that of its key, and 0 if it has none
abbrev pub hash_of_call : {K V F : Type 0} → (K → ℕ) → Call K V F → ℕ
hash_of_call hash c = unwrap_or (option_map hash (key_of c)) 0

module _ {K V F : Type 0} (cmp : K → K → Ordering) (gives : F → K → Option V → Verdict V → Type 0) where
  -- On the map m the one-key call may reply r and leave the map n. `gives f k x v` says that the function f, called on a key and on its
  -- value or none, may make v of the pair.
  abbrev pub Answers : Call K V F → List (K × V) → KeptReply K V → List (K × V) → Type 0
  Answers (Get k) m r n = (r ≡ Value (value_at cmp m k)) × (n ≡ m)
  Answers (GetKeyValue k) m r n = (r ≡ Pair (pair_at cmp m k)) × (n ≡ m)
  Answers (ContainsKey k) m r n = (r ≡ Contains (is_some (pair_at cmp m k))) × (n ≡ m)
  Answers (Insert k v) m r n = (r ≡ Value (value_at cmp m k)) × (n ≡ with_pair cmp m k v)
  Answers (TryInsert k v) m r n = MatchOption (pair_at cmp m k) ((r ≡ New v) × (n ≡ with_pair cmp m k v)) (λ p. (r ≡ Exists p.1 v) × (n ≡ m))
  Answers (Compute k f) m r n =
      MatchOption (pair_at cmp m k) ((r ≡ Value None) × (n ≡ m))
      (λ p. (o : Option V) × gives f p.0 (Some p.1) (verdict_of o) × (r ≡ Value o) × (n ≡ with_verdict cmp m k (verdict_of o)))
  Answers (Alter k may_add f) m r n =
      (v : Verdict V) × Judges gives f k may_add (pair_at cmp m k) v × (r ≡ verdict_reply (pair_at cmp m k) v) × (n ≡ with_verdict cmp m k v)
  Answers (Remove k) m r n = (r ≡ Value (value_at cmp m k)) × (n ≡ without cmp m k)
  Answers (RemoveEntry k) m r n = (r ≡ Pair (pair_at cmp m k)) × (n ≡ without cmp m k)
  -- (of a pair that was seen before, if it still stands as it was seen)
  Answers (RemoveSeen s) m r n = ((r ≡ Value None) × (n ≡ m)) ⊎ ((r ≡ Value (value_at cmp m s.key)) × (n ≡ without cmp m s.key))
  Answers _ m r n = ⊥
