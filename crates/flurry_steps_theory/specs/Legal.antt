-- The laws of a trace: for each label, what has to hold of the labels before it. The list has the newest label first.
use Rattle.std.specs.Prelude.{⊤, length, ℕ, suc, Bool, true, false, not, ◌&&◌, ◌||◌, [], ◌∷◌, Option, Some, None, if◌then◌else◌, IfSome, IsSome, IsNone, IsTrue, ◌≡◌, ◌==◌, ◌^◌, ◌<◌, ◌⊎◌}
use Rattle.std.specs.declared.cmp.Ordering.{Ordering}
use Rattle.flurry_base.specs.OneKey.{key_of}
use Rattle.flurry_steps_theory.specs.Map.{same, Allows, CanBeRefused}
use Rattle.flurry_steps_theory.specs.Trace.{Trace, in_region, call_begun_by, decision, has_replied, has_closed, begins, names, last_read, read_before, published_in, was_placed, was_moved_in, pairs, at}
use Rattle.flurry_base.specs.declared.call.Call.{Call}
use Rattle.flurry_base.specs.declared.call.Call.TheVariants.{Insert, TryInsert, Compute, Alter, Remove, RemoveEntry, RemoveSeen, Clear, Walk}
use Rattle.flurry_base.specs.declared.reply.KeptReply.{KeptReply}
use Rattle.flurry_base.specs.declared.reply.KeptReply.TheVariants.{Value, Pair, New, Changed}
use Rattle.flurry_base.specs.declared.verdict.Verdict.{Verdict}
use Rattle.flurry_steps_theory.specs.declared.Label.{Label}
use Rattle.flurry_steps_theory.specs.declared.Label.TheVariants.{Begin, Decide, Reply as Replied, Refused, Wipe, Read, End, Opened, Placed, Moved, Published}
use Rattle.flurry_base.specs.declared.sizes.TheConstants.{MAX_LABELS}

module _ {K V F : Type 0} where
  -- each label may follow those before it
  abbrev pub EachMay : (Trace K V F → Label K V F → Type 0) → Trace K V F → Type 0
  EachMay May [] = ⊤
  EachMay May (l ∷ t) = May t l × EachMay May t

  -- the call has a key
  abbrev pub IsOneKey : Call K V F → Type 0
  IsOneKey c = IsSome (key_of c)

  -- the call is a clear
  abbrev pub IsClear : Call K V F → Type 0
  IsClear c = c ≡ Clear

  -- the call is a walk
  abbrev pub IsWalk : Call K V F → Type 0
  IsWalk c = c ≡ Walk

  -- the call is a conditional removal of this pair
  abbrev pub RemovesPair : K × V → Call K V F → Type 0
  RemovesPair x (RemoveSeen z) = x ≡ (z.key, z.value)
  RemovesPair x c = ⊥

  -- party p began with such a call
  abbrev pub Began : (Call K V F → Type 0) → Trace K V F → ℕ → Type 0
  Began P t p = (c : Call K V F) × (call_begun_by t p ≡ Some c) × P c

  module _ (cmp : K → K → Ordering) (hash : K → ℕ) (gives : F → K → Option V → Verdict V → Type 0) where
    -- CALLS. A party begins once, and only then has other labels than Silent. A one-key call decides once at most, as the
    -- map before it allows, and replies what it decided. A call is refused once at most, undecided, and only where the map before it
    -- lets memory be refused to it. Other calls end or are refused once at most.
    abbrev pub CallMay : Trace K V F → Label K V F → Type 0
    CallMay t (Begin p c) = call_begun_by t p ≡ None
    CallMay t (Decide p r) = Began (λ c. Allows cmp gives c (pairs cmp hash t) r) t p × (decision t p ≡ None) × (has_closed t p ≡ false)
    CallMay t (Replied p r) = Began IsOneKey t p × (decision t p ≡ Some r) × (has_replied t p ≡ false)
    CallMay t (Refused p) = Began (λ c. CanBeRefused cmp gives c (pairs cmp hash t)) t p × (decision t p ≡ None) × (has_closed t p ≡ false)
    CallMay t (End p) = Began (λ c. IsNone (key_of c)) t p × (has_closed t p ≡ false)
    CallMay t (Wipe p e i) = Began IsClear t p × (has_closed t p ≡ false)
    CallMay t (Read p k v) = Began IsWalk t p × (has_closed t p ≡ false)
    CallMay t l = ⊤

    -- WALKS
    -- party p has read k's class
    abbrev pub HasRead : Trace K V F → ℕ → K → Type 0
    HasRead [] p k = ⊥
    HasRead (Read q j v ∷ t) p k = ((q ≡ p) × (same cmp j k ≡ true)) ⊎ HasRead t p k
    HasRead (l ∷ t) p k = HasRead t p k

    -- the map has had k's class after every label from p's Begin on
    abbrev pub StaysPresent : Trace K V F → ℕ → K → Type 0
    StaysPresent [] p k = ⊥
    StaysPresent (l ∷ t) p k = IsSome (at cmp hash (l ∷ t) k) × ((begins p l ≡ true) ⊎ StaysPresent t p k)

    -- A walk reads pairs that the map has, no class twice, and at its End has read every class that stayed since its Begin.
    abbrev pub WalkMay : Trace K V F → Label K V F → Type 0
    WalkMay t (Read p k v) = (at cmp hash t k ≡ Some (k, v)) × (HasRead t p k → ⊥)
    WalkMay t (End p) = Began IsWalk t p → (k : K) → StaysPresent t p k → HasRead t p k
    WalkMay t l = ⊤

    -- CLEARS
    -- the map lacked k's class after a label, since p's Begin, that passes the test
    abbrev pub HasLacked : (Label K V F → Bool) → Trace K V F → ℕ → K → Type 0
    HasLacked test [] p k = ⊥
    HasLacked test (l ∷ t) p k = (begins p l ≡ false) × ((IsTrue (test l) × IsNone (at cmp hash (l ∷ t) k)) ⊎ HasLacked test t p k)

    -- At a clear's End, the labels before it show of each class one of the clear's own, since its Begin, after which the map lacked it.
    abbrev pub ClearMay : Trace K V F → Label K V F → Type 0
    ClearMay t (End p) = Began IsClear t p → (k : K) → HasLacked (names p) t p k
    ClearMay t l = ⊤

    -- CONDITIONAL REMOVALS
    -- the call, with this reply, writes or removes the class of its key
    abbrev pub changes : Call K V F → KeptReply K V → Bool
    changes (Insert k v) r = true
    changes (TryInsert k v) (New w) = true
    changes (Compute k f) (Value o) = true
    changes (Alter k may_add f) (New w) = true
    changes (Alter k may_add f) (Changed w o) = true
    changes (Alter k may_add f) (Pair (Some x)) = true
    changes (Remove k) r = true
    changes (RemoveEntry k) r = true
    changes (RemoveSeen s) (Value (Some w)) = true
    changes c r = false

    -- the key, if there is one, is of k's class
    abbrev pub is_class : Option K → K → Bool
    is_class None k = false
    is_class (Some j) k = same cmp j k

    -- the label writes or removes k's class, if the map has it
    abbrev pub changed_by : Option (Call K V F) → KeptReply K V → K → Bool
    changed_by None r k = false
    changed_by (Some c) r k = changes c r && is_class (key_of c) k

    -- the label, after these, writes or removes k's class
    abbrev pub touches : Trace K V F → Label K V F → K → Bool
    touches t (Decide p r) k = changed_by (call_begun_by t p) r k
    touches t (Wipe p e i) k = in_region e i (hash k)
    touches t l k = false

    -- the label is a read of this party
    abbrev pub reads : ℕ → Label K V F → Bool
    reads w (Read q j v) = q == w
    reads w l = false

    -- no label since w's last read has touched k's class
    abbrev pub is_untouched : Trace K V F → ℕ → K → Bool
    is_untouched [] w k = false
    is_untouched (l ∷ t) w k = reads w l || (not (touches t l k) && is_untouched t w k)

    -- no label since w's last read before p's Begin has touched k's class
    abbrev pub untouched_for : Trace K V F → ℕ → ℕ → K → Bool
    untouched_for [] p w k = false
    untouched_for (l ∷ t) p w k = if begins p l then is_untouched t w k else not (touches t l k) && untouched_for t p w k

    -- the reply is that of a removal
    abbrev pub removes : KeptReply K V → Bool
    removes (Value (Some v)) = true
    removes r = false

    -- A party p that began from walk w removes, on condition, the pair that w had read last: it removes it only if no label has
    -- touched its class since that read, and, within the first 2^62 labels, also if none has. began_from p is that walk, if there is one.
    abbrev pub RemovalMay : (began_from : ℕ → Option ℕ) → Trace K V F → Label K V F → Type 0
    RemovalMay began_from t (Begin p c) = IfSome (began_from p) (λ w. (x : K × V) × (last_read t w ≡ Some x) × RemovesPair x c)
    RemovalMay began_from t (Decide p r) = IfSome (began_from p) (λ w. (x : K × V) × (read_before t p w ≡ Some x) × (removes r ≡ true → untouched_for t p w x.0 ≡ true) × (length t < MAX_LABELS → untouched_for t p w x.0 ≡ true → removes r ≡ true))
    RemovalMay began_from t l = ⊤

  -- GROWTH. first is the exponent of the table that the world began with.
  abbrev pub GrowthMay : Option ℕ → Trace K V F → Label K V F → Type 0
  GrowthMay first t (Opened e) = published_in first t ≡ None
  GrowthMay first t (Placed d) = (e : ℕ) × (published_in first t ≡ Some e) × (d ≡ suc e) × (was_placed t d ≡ false)
  GrowthMay first t (Moved e i) = (i < 2 ^ e) × (was_placed t (suc e) ≡ true) × (was_moved_in t e i ≡ false)
  GrowthMay first t (Published d) = (e : ℕ) × (published_in first t ≡ Some e) × (d ≡ suc e) × ((i : ℕ) → i < 2 ^ e → was_moved_in t e i ≡ true)
  GrowthMay first t l = ⊤

  -- ALL OF IT
  module _ (cmp : K → K → Ordering) (hash : K → ℕ) (gives : F → K → Option V → Verdict V → Type 0) where
    -- The laws of a trace: each of its labels may follow those before it. first is as for a growth.
    pub record Legal (first : Option ℕ) (t : Trace K V F) : Type 0 where
      pub calls : EachMay (CallMay cmp hash gives) t
      pub walks : EachMay (WalkMay cmp hash gives) t
      pub clears : EachMay (ClearMay cmp hash gives) t
      pub growths : EachMay (GrowthMay first) t
