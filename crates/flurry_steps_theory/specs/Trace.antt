-- What can be read off a trace. The list of labels has the newest first.
use Rattle.std.specs.Prelude.{ℕ, true, Bool, false, not, ◌&&◌, ◌||◌, List, [], ◌∷◌, filter, Option, Some, None, if◌then◌else◌, ◌==◌, ◌%◌, ◌^◌}
use Rattle.std.specs.declared.cmp.Ordering.{Ordering}
use Rattle.flurry_steps_theory.specs.Map.{Pairs, find, after}
use Rattle.flurry_base.specs.declared.call.Call.{Call}
use Rattle.flurry_base.specs.declared.call.Call.TheVariants.{Get, GetKeyValue, ContainsKey}
use Rattle.flurry_base.specs.declared.reply.KeptReply.{KeptReply}
use Rattle.flurry_steps_theory.specs.declared.Label.{Label}
use Rattle.flurry_steps_theory.specs.declared.Label.TheVariants.{Begin, Decide, Reply as Replied, Refused, Wipe, Read, End, Opened, Placed, Moved, Published, Silent}

-- the hashes h with h mod 2^e = i
abbrev pub in_region : ℕ → ℕ → ℕ → Bool
in_region e i h = h % 2 ^ e == i

-- labels, the newest first
abbrev pub Trace : Type 0 → Type 0 → Type 0 → Type 0
Trace K V F = List (Label K V F)

module _ {K V F : Type 0} where
  -- the call that began party p
  abbrev pub call_begun_by : Trace K V F → ℕ → Option (Call K V F)
  call_begun_by [] p = None
  call_begun_by (Begin q c ∷ t) p = if q == p then Some c else call_begun_by t p
  call_begun_by (l ∷ t) p = call_begun_by t p

  -- the decision of party p
  abbrev pub decision : Trace K V F → ℕ → Option (KeptReply K V)
  decision [] p = None
  decision (Decide q r ∷ t) p = if q == p then Some r else decision t p
  decision (l ∷ t) p = decision t p

  -- party p has replied
  abbrev pub has_replied : Trace K V F → ℕ → Bool
  has_replied [] p = false
  has_replied (Replied q r ∷ t) p = q == p || has_replied t p
  has_replied (l ∷ t) p = has_replied t p

  -- party p has ended, or was refused
  abbrev pub has_closed : Trace K V F → ℕ → Bool
  has_closed [] p = false
  has_closed (End q ∷ t) p = q == p || has_closed t p
  has_closed (Refused q ∷ t) p = q == p || has_closed t p
  has_closed (l ∷ t) p = has_closed t p

  -- the label is this party's Begin
  abbrev pub begins : ℕ → Label K V F → Bool
  begins p (Begin q c) = q == p
  begins p l = false

  -- the label names this party
  abbrev pub names : ℕ → Label K V F → Bool
  names p (Begin q c) = q == p
  names p (Decide q r) = q == p
  names p (Replied q r) = q == p
  names p (Refused q) = q == p
  names p (Wipe q e i) = q == p
  names p (Read q k v) = q == p
  names p (End q) = q == p
  names p (Silent q) = q == p
  names p _ = false

  -- the pair that party w read last
  abbrev pub last_read : Trace K V F → ℕ → Option (K × V)
  last_read [] w = None
  last_read (Read q k v ∷ t) w = if q == w then Some (k, v) else last_read t w
  last_read (l ∷ t) w = last_read t w

  -- the pair that party w had read last when party p began
  abbrev pub read_before : Trace K V F → ℕ → ℕ → Option (K × V)
  read_before [] p w = None
  read_before (l ∷ t) p w = if begins p l then last_read t w else read_before t p w

  -- the published exponent; first is that of the table which the world began with
  abbrev pub published_in : Option ℕ → Trace K V F → Option ℕ
  published_in first [] = first
  published_in first (Opened e ∷ t) = Some e
  published_in first (Published e ∷ t) = Some e
  published_in first (l ∷ t) = published_in first t

  -- table e was made by a growth
  abbrev pub was_placed : Trace K V F → ℕ → Bool
  was_placed [] e = false
  was_placed (Placed d ∷ t) e = d == e || was_placed t e
  was_placed (l ∷ t) e = was_placed t e

  -- bin i of table e was moved
  abbrev pub was_moved_in : Trace K V F → ℕ → ℕ → Bool
  was_moved_in [] e i = false
  was_moved_in (Moved d j ∷ t) e i = d == e && j == i || was_moved_in t e i
  was_moved_in (l ∷ t) e i = was_moved_in t e i

  module _ (cmp : K → K → Ordering) (hash : K → ℕ) where
    -- the map after this party's call decided; a party that did not begin changes nothing
    abbrev pub map_after_decision : Option (Call K V F) → KeptReply K V → Pairs K V → Pairs K V
    map_after_decision None r m = m
    map_after_decision (Some c) r m = after cmp c r m

    -- The map after the labels. No label but a decision and a wipe changes it.
    abbrev pub pairs : Trace K V F → Pairs K V
    pairs [] = []
    pairs (Decide p r ∷ t) = map_after_decision (call_begun_by t p) r (pairs t)
    pairs (Wipe p e i ∷ t) = filter (λ x. not (in_region e i (hash x.0))) (pairs t)
    pairs (l ∷ t) = pairs t

    -- the pair that the map has at k's class, after the labels
    abbrev pub at : Trace K V F → K → Option (K × V)
    at t k = find cmp (pairs t) k

-- LOOK-UPS
abbrev pub is_lookup : {K V F : Type 0} → Option (Call K V F) → Bool
is_lookup (Some (Get k)) = true
is_lookup (Some (GetKeyValue k)) = true
is_lookup (Some (ContainsKey k)) = true
is_lookup c = false
