-- What is true of every state that the machine reaches.
use Rattle.std.specs.Prelude.{⊤, length, ℕ, pos, ◌+ℤ◌, ◌-ℤ◌, suc, ◌+◌, ◌-◌, ◌%◌, ◌^◌, ◌<◌, ◌≤◌, ◌==◌, ◌&&◌, nat_le, nat_lt, if◌then◌else◌, Bool, true, false, List, [], ◌∷◌, Option, Some, None, is_some, option_map, ◌≡◌, ◌⊎◌}
use Rattle.std.specs.declared.cmp.Ordering.{Ordering}
use Rattle.flurry_base.specs.OneKey.{key_of}
use Rattle.flurry_steps_theory.specs.Map.{Unique, find}
use Rattle.flurry_steps_theory.specs.Trace.{Trace, is_lookup, call_begun_by, decision, has_replied, has_closed, published_in, was_placed, was_moved_in, names, last_read, read_before, pairs, at}
use Rattle.flurry_steps_theory.specs.Legal.{is_untouched, untouched_for, RemovalMay, HasRead, HasLacked, EachMay, Legal}
use Rattle.flurry_steps_theory.specs.Bin.{Entry, number_of, pairs_of, IsAscending, InRegion, past}
use Rattle.flurry_steps_theory.specs.Machine.{total, owes_added, owes_removed, State, Slot, Transition, Opens, Moves, Claim, Growth, Enabled, next_state, Live, Moved, Unborn, Mode, Locating, Looking, Walking, Clearing, Done, Finished, Frame, Replies, Loses}
use Rattle.flurry_base.specs.declared.call.Call.{Call}
use Rattle.flurry_base.specs.declared.call.Call.TheVariants.{RemoveSeen, Walk, Clear}
use Rattle.flurry_base.specs.declared.call.Seen.{Seen}
use Rattle.flurry_base.specs.declared.reply.KeptReply.{KeptReply}
use Rattle.flurry_base.specs.declared.verdict.Verdict.{Verdict}
use Rattle.flurry_base.specs.declared.sizes.TheConstants.{MAX_TABLE, TABLES}

-- the call is one of these
abbrev pub one_key : {K V F : Type 0} → Option (Call K V F) → Bool
one_key None = false
one_key (Some c) = is_some (key_of c)

module _ {K V F : Type 0} where
  -- what a party's mode says of its call and its labels so far
  pub record IsParty (s : State K V F) (p : ℕ) : Type 0 where
    pub call : call_begun_by s.trace p ≡ s.call p
    pub beyond : s.parties ≤ p → (s.call p ≡ None) × (s.mode p ≡ Finished) × (s.claim p ≡ None) × (decision s.trace p ≡ None) × (has_replied s.trace p ≡ false) × (has_closed s.trace p ≡ false) × (s.told p ≡ None)
    pub going : (s.mode p ≡ Finished → ⊥) → (has_replied s.trace p ≡ false) × (has_closed s.trace p ≡ false) × (is_some (s.call p) ≡ true)
    pub no_decision : ((r : KeptReply K V) (added removed : ℕ) → s.mode p ≡ Done (Some r) added removed → ⊥) → (s.mode p ≡ Finished → ⊥) → decision s.trace p ≡ None
    pub decided : (r : KeptReply K V) (added removed : ℕ) → s.mode p ≡ Done (Some r) added removed → decision s.trace p ≡ Some r
    pub looking : (e : ℕ) → s.mode p ≡ Looking e → one_key (s.call p) ≡ true
    pub walking : (e i : ℕ) (fs : List (Frame K)) → s.mode p ≡ Walking e i fs → s.call p ≡ Some Walk
    pub end_label : s.mode p ≡ Finished → is_some (s.call p) ≡ true → (has_replied s.trace p ≡ true) ⊎ (has_closed s.trace p ≡ true)
    pub reply_decision : has_replied s.trace p ≡ true → is_some (decision s.trace p) ≡ true
    pub refused : has_closed s.trace p ≡ true → one_key (s.call p) ≡ true → decision s.trace p ≡ None
    pub clearing : (wiped e i : ℕ) (fs : List (Frame K)) → s.mode p ≡ Clearing wiped e i fs → s.call p ≡ Some Clear

-- the bin is there and has not moved
abbrev pub is_live : {K V : Type 0} → Slot K V → Bool
is_live (Live es n) = true
is_live Moved = false
is_live Unborn = false

module _ {K V F : Type 0} (cmp : K → K → Ordering) (hash : K → ℕ) where
  -- home h is the table in which the bin of hash h is live
  pub record Tables (home : ℕ → ℕ) (s : State K V F) : Type 0 where
    pub no_table : s.published ≡ None → (d j : ℕ) → s.slot d j ≡ Unborn
    pub from : (f : ℕ) → s.published ≡ Some f → (s.start ≤ f) × ((h : ℕ) → f ≤ home h)
    pub live : is_some s.published ≡ true → (h : ℕ) → is_live (s.slot (home h) (h % 2 ^ home h)) ≡ true
    pub below : is_some s.published ≡ true → (h d : ℕ) → s.start ≤ d → d < home h → s.slot d (h % 2 ^ d) ≡ Moved
    pub above : is_some s.published ≡ true → (h d : ℕ) → home h < d → s.slot d (h % 2 ^ d) ≡ Unborn
    pub early : (d j : ℕ) → d < s.start → s.slot d j ≡ Unborn
    pub outside : (d j : ℕ) → 2 ^ d ≤ j → s.slot d j ≡ Unborn
    pub ascending : (d j : ℕ) (es : List (Entry K V)) (n : ℕ) → s.slot d j ≡ Live es n → IsAscending cmp hash es × InRegion hash d j es
    pub empty : s.published ≡ None → (k : K) → at cmp hash s.trace k ≡ None
    -- the live bins together hold the map
    pub content : (k : K) (es : List (Entry K V)) (n : ℕ) → s.slot (home (hash k)) (hash k % 2 ^ home (hash k)) ≡ Live es n → find cmp (pairs_of es) k ≡ at cmp hash s.trace k
    pub was_moved : (d j : ℕ) → s.slot d j ≡ Moved → was_moved_in s.trace d j ≡ true
    pub is_moved : (d j : ℕ) → was_moved_in s.trace d j ≡ true → s.slot d j ≡ Moved

-- the homes after a transition
abbrev pub home_after : {K V F : Type 0} → (ℕ → ℕ) → Transition K V F → ℕ → ℕ
home_after home (Opens e) h = e
home_after home (Moves a i es n) h = if h % 2 ^ a.table == i then suc a.table else home h
home_after home l h = home h

-- RANGES
abbrev pub size : Option Claim → ℕ
size None = 0
size (Some a) = a.high - a.low

-- bin i is in the claim's range
abbrev pub claim_holds : Option Claim → ℕ → Bool
claim_holds None i = false
claim_holds (Some a) i = nat_le a.low i && nat_lt i a.high

module _ {K V F : Type 0} where
  -- the unclaimed, the claimed and the reported bins cut the growing table; once all are reported, one party is told to publish
  pub record IsPartition (s : State K V F) : Type 0 where
    pub made : (g : Growth) → s.growth ≡ Some g → is_some s.published ≡ true
    pub idle : s.growth ≡ None → (p : ℕ) → s.claim p ≡ None
    pub limit : (e : ℕ) → s.published ≡ Some e → e ≤ MAX_TABLE
    pub growth_limit : (e : ℕ) (g : Growth) → s.published ≡ Some e → s.growth ≡ Some g → e < MAX_TABLE
    pub near : (f d j : ℕ) → s.published ≡ Some f → suc f < d → s.slot d j ≡ Unborn
    pub idle_live : s.growth ≡ None → (e i : ℕ) → s.published ≡ Some e → i < 2 ^ e → is_live (s.slot e i) ≡ true
    pub claims : (p : ℕ) (a : Claim) → s.claim p ≡ Some a → (s.published ≡ Some a.table) × (a.low < a.high) × (a.low ≤ a.left) × (a.left ≤ a.high) × (a.high ≤ 2 ^ a.table)
    pub above_unclaimed : (p : ℕ) (a : Claim) (g : Growth) → s.claim p ≡ Some a → s.growth ≡ Some g → g.unclaimed ≤ a.low
    pub left_live : (p : ℕ) (a : Claim) (i : ℕ) → s.claim p ≡ Some a → a.low ≤ i → i < a.left → is_live (s.slot a.table i) ≡ true
    pub rest_moved : (p : ℕ) (a : Claim) (i : ℕ) → s.claim p ≡ Some a → a.left ≤ i → i < a.high → s.slot a.table i ≡ Moved
    pub unclaimed_live : (e i : ℕ) (g : Growth) → s.published ≡ Some e → s.growth ≡ Some g → (g.unclaimed ≤ 2 ^ e) × (i < g.unclaimed → is_live (s.slot e i) ≡ true)
    pub apart : (p q : ℕ) (a b : Claim) → (p ≡ q → ⊥) → s.claim p ≡ Some a → s.claim q ≡ Some b → (a.high ≤ b.low) ⊎ (b.high ≤ a.low)
    pub cover : (e i : ℕ) (g : Growth) → s.published ≡ Some e → s.growth ≡ Some g → i < 2 ^ e → (s.slot e i ≡ Moved) ⊎ ((i < g.unclaimed) ⊎ ((p : ℕ) × (claim_holds (s.claim p) i ≡ true)))
    pub sum : (e : ℕ) (g : Growth) → s.published ≡ Some e → s.growth ≡ Some g → g.unclaimed + g.reported + total (λ p. size (s.claim p)) s.parties ≡ 2 ^ e
    -- where a party is told to publish, that growth runs, and every bin is reported
    pub told : (p e : ℕ) → s.told p ≡ Some e → (s.published ≡ Some e) × (g : Growth) × (s.growth ≡ Some g) × (g.reported ≡ 2 ^ e)
    -- at most one party is told
    pub one_told : (p q e f : ℕ) → s.told p ≡ Some e → s.told q ≡ Some f → p ≡ q
    -- and where every bin is reported, one is
    pub some_told : (e : ℕ) (g : Growth) → s.published ≡ Some e → s.growth ≡ Some g → g.reported ≡ 2 ^ e → (p : ℕ) × (s.told p ≡ Some e)

  -- what the labels say of the tables
  pub record HasGrown (first : Option ℕ) (s : State K V F) : Type 0 where
    pub number : published_in first s.trace ≡ s.published
    pub placed_next : (e : ℕ) (g : Growth) → s.published ≡ Some e → s.growth ≡ Some g → was_placed s.trace (suc e) ≡ true
    pub unplaced : s.published ≡ None → (d : ℕ) → was_placed s.trace d ≡ false
    pub unplaced_idle : (e d : ℕ) → s.growth ≡ None → s.published ≡ Some e → e < d → was_placed s.trace d ≡ false
    pub unplaced_above : (e d : ℕ) → s.published ≡ Some e → suc e < d → was_placed s.trace d ≡ false

-- WALKS AND CLEARS
module _ {K V F : Type 0} (cmp : K → K → Ordering) (hash : K → ℕ) (gives : F → K → Option V → Verdict V → Type 0) where
  -- k lies in the frame's region, past its bound
  abbrev pub InFrame : Frame K → K → Type 0
  InFrame f k = (hash k % 2 ^ f.table ≡ f.index) × (past cmp hash f.bound k ≡ true)

  -- k lies in one of the frames
  abbrev pub InFrames : List (Frame K) → K → Type 0
  InFrames [] k = ⊥
  InFrames (f ∷ fs) k = InFrame f k ⊎ InFrames fs k

  -- what a walk or a clear has yet to come to: the base bins not yet begun, and what its frames leave
  abbrev pub Remains : Mode K V → K → Type 0
  Remains Locating k = ⊤
  Remains (Walking e i fs) k = (i < hash k % 2 ^ e) ⊎ InFrames fs k
  Remains (Clearing wiped e i fs) k = (i < hash k % 2 ^ e) ⊎ InFrames fs k
  Remains m k = ⊥

  -- the frames share no hash, and lie within the base bin
  abbrev pub Off : Frame K → List (Frame K) → Type 0
  Off f [] = ⊤
  Off f (g ∷ gs) = ((h : ℕ) → h % 2 ^ f.table ≡ f.index → h % 2 ^ g.table ≡ g.index → ⊥) × Off f gs

  -- every frame lies within bin i of table e
  abbrev pub Within : ℕ → ℕ → List (Frame K) → Type 0
  Within e i [] = ⊤
  Within e i (f ∷ fs) = ((h : ℕ) → h % 2 ^ f.table ≡ f.index → h % 2 ^ e ≡ i) × Within e i fs

  -- no two frames share a hash
  abbrev pub Apart : List (Frame K) → Type 0
  Apart [] = ⊤
  Apart (f ∷ fs) = Off f fs × Apart fs

  -- the frames of a walk or a clear are apart, and within its base bin
  abbrev pub AreFrames : Mode K V → Type 0
  AreFrames (Walking e i fs) = Apart fs × Within e i fs
  AreFrames (Clearing wiped e i fs) = Apart fs × Within e i fs
  AreFrames m = ⊤

  -- how far a walk or a clear has come
  pub record Progress (call : Option (Call K V F)) (mode : Mode K V) (t : Trace K V F) (p : ℕ) : Type 0 where
    pub unbegun : call ≡ None → (k : K) → HasRead cmp hash gives t p k → ⊥
    pub seen : call ≡ Some Walk → (mode ≡ Finished → ⊥) → (k : K) → HasRead cmp hash gives t p k ⊎ (HasLacked cmp hash gives (λ _. true) t p k ⊎ Remains mode k)
    pub unread : call ≡ Some Walk → (mode ≡ Finished → ⊥) → (k : K) → Remains mode k → HasRead cmp hash gives t p k → ⊥
    pub cleared : call ≡ Some Clear → (mode ≡ Finished → ⊥) → (k : K) → HasLacked cmp hash gives (names p) t p k ⊎ Remains mode k
    pub frames : AreFrames mode

-- READS AND ORIGINS
-- the pair of a read
abbrev pub pair_seen : {K V : Type 0} → Seen K V → K × V
pair_seen z = (z.key, z.value)

module _ {K V F : Type 0} where
  -- what each walk read last, and with which read each conditional removal began
  pub record Origins (s : State K V F) : Type 0 where
    pub unread : (w : ℕ) → s.parties ≤ w → s.seen w ≡ None
    pub last : (w : ℕ) → last_read s.trace w ≡ option_map pair_seen (s.seen w)
    pub origin : (p w : ℕ) → s.began_from p ≡ Some w → (z : Seen K V) × (s.call p ≡ Some (RemoveSeen z))
    pub before : (p w : ℕ) (z : Seen K V) → s.began_from p ≡ Some w → s.call p ≡ Some (RemoveSeen z) → read_before s.trace p w ≡ Some (pair_seen z)

-- WRITE NUMBERS
abbrev pub number_in : {K V : Type 0} (cmp : K → K → Ordering) → Slot K V → K → Option ℕ
number_in cmp (Live es n) k = number_of cmp es k
number_in cmp Moved k = None
number_in cmp Unborn k = None

-- how many values were written to a bin; none to one that is not live
abbrev pub writes_in : {K V : Type 0} → Slot K V → ℕ
writes_in (Live es n) = n
writes_in Moved = 0
writes_in Unborn = 0

-- a write number, if there is one, is greater
abbrev pub newer : Option ℕ → ℕ → Bool
newer None m = true
newer (Some n) m = nat_lt m n

module _ {K V F : Type 0} (cmp : K → K → Ordering) (hash : K → ℕ) (gives : F → K → Option V → Verdict V → Type 0) where
  -- the write number of k's class, and the count of writes of its bin
  abbrev pub number_at : (ℕ → ℕ) → State K V F → K → Option ℕ
  number_at home s k = number_in cmp (s.slot (home (hash k)) (hash k % 2 ^ home (hash k))) k

  -- how many values were written to the bin of k's class
  abbrev pub writes_at : (ℕ → ℕ) → State K V F → K → ℕ
  writes_at home s k = writes_in (s.slot (home (hash k)) (hash k % 2 ^ home (hash k)))

  -- What a read tells of its class now, where b says that nothing has touched the class since: it bears the number that was read,
  -- or else none, a newer one or the greatest, at which the numbers stay.
  pub record JudgesRead (b : Bool) (z : Seen K V) (number : Option ℕ) (writes : ℕ) : Type 0 where
    pub known : z.number ≤ writes
    pub same_number : b ≡ true → number ≡ Some z.number
    pub new_number : b ≡ false → (newer number z.number ≡ true) ⊎ (number ≡ Some (2 ^ 64 - 1))

  -- a class's number is at most the count of its bin's writes, and every read is judged by it
  pub record WriteNumbers (home : ℕ → ℕ) (s : State K V F) : Type 0 where
    pub bounded : (k : K) (m : ℕ) → number_at home s k ≡ Some m → m ≤ writes_at home s k
    pub limit : (k : K) → writes_at home s k ≤ 2 ^ 64 - 1
    pub small : (k : K) → writes_at home s k ≤ length s.trace
    pub fresh : (w : ℕ) (z : Seen K V) → s.seen w ≡ Some z → JudgesRead (is_untouched cmp hash gives s.trace w z.key) z (number_at home s z.key) (writes_at home s z.key)
    pub pending : (p w : ℕ) (z : Seen K V) → s.began_from p ≡ Some w → s.call p ≡ Some (RemoveSeen z) → JudgesRead (untouched_for cmp hash gives s.trace p w z.key) z (number_at home s z.key) (writes_at home s z.key)

-- NAMED BINS
abbrev pub key_in : {K V F : Type 0} → Option (Call K V F) → Option K
key_in None = None
key_in (Some c) = key_of c

-- each frame names a bin of a table that has come to be there
abbrev pub AreNotUnborn : {K : Type 0} → (ℕ → ℕ) → ℕ → List (Frame K) → Type 0
AreNotUnborn home start [] = ⊤
AreNotUnborn home start (f ∷ fs) = ((start ≤ f.table) × (f.index < 2 ^ f.table) × ((h : ℕ) → h % 2 ^ f.table ≡ f.index → f.table ≤ home h)) × AreNotUnborn home start fs

module _ {K V F : Type 0} (hash : K → ℕ) where
  -- the bins that a party names, now or later, are no longer unborn
  abbrev pub NamesNoUnborn : Bool → (ℕ → ℕ) → ℕ → Option (Call K V F) → Mode K V → Type 0
  NamesNoUnborn made home start call (Looking e) = (made ≡ true) × (start ≤ e) × ((k : K) → key_in call ≡ Some k → e ≤ home (hash k))
  NamesNoUnborn made home start call (Walking e i fs) = (made ≡ true) × (start ≤ e) × ((h : ℕ) → e ≤ home h) × AreNotUnborn home start fs
  NamesNoUnborn made home start call (Clearing wiped e i fs) = (made ≡ true) × (start ≤ e) × ((h : ℕ) → e ≤ home h) × AreNotUnborn home start fs
  NamesNoUnborn made home start call m = ⊤

-- COUNT
module _ {K V F : Type 0} (cmp : K → K → Ordering) (hash : K → ℕ) where
  -- the number of pairs is the count and what the parties owe, as their modes say
  pub record IsCounted (s : State K V F) : Type 0 where
    pub unique : Unique cmp (pairs cmp hash s.trace)
    pub balance : pos (length (pairs cmp hash s.trace)) ≡ s.count +ℤ pos (total (λ p. owes_added (s.mode p)) s.parties) -ℤ pos (total (λ p. owes_removed (s.mode p)) s.parties)
    -- a label adds one pair at most, so neither side outgrows the labels
    pub size_bound : length (pairs cmp hash s.trace) + total (λ p. owes_removed (s.mode p)) s.parties ≤ length s.trace
    pub debt_bound : total (λ p. owes_added (s.mode p)) s.parties ≤ length s.trace

-- LOOK-UPS
module _ {K V F : Type 0} where
  -- an undecided look-up has done one step to find a table, and at most one for each table below the one that it is at
  abbrev pub Waits : Option (Call K V F) → Mode K V → ℕ → Type 0
  Waits call mode steps = is_lookup call ≡ true → (mode ≡ Locating → steps ≡ 0) × ((e : ℕ) → mode ≡ Looking e → steps ≤ suc e) × ((added removed : ℕ) → mode ≡ Done None added removed → ⊥)

module _ {K V F : Type 0} (cmp : K → K → Ordering) (hash : K → ℕ) (gives : F → K → Option V → Verdict V → Type 0) where
  -- A look-up has decided or was refused by its 32nd step, one to find a table and one at each table, and its step after the decision
  -- is its reply. An attempt that was lost is no step.
  pub record LooksUp (s : State K V F) (p : ℕ) : Type 0 where
    pub in_time : is_lookup (s.call p) ≡ true → decision s.trace p ≡ None → has_closed s.trace p ≡ false → s.steps p < TABLES + 1
    pub replies_next : is_lookup (s.call p) ≡ true → (r : KeptReply K V) → decision s.trace p ≡ Some r → has_replied s.trace p ≡ false
        → (l : Transition K V F) → Enabled cmp hash gives s p l → (l ≡ Replies r) ⊎ (l ≡ Loses)

-- ALL OF IT
module _ {K V F : Type 0} (cmp : K → K → Ordering) (hash : K → ℕ) (gives : F → K → Option V → Verdict V → Type 0) where
  -- what is true of every state: its parties, tables, ranges, labels, walks, counts, look-ups, laws, write numbers and removals
  pub record Inv (first : Option ℕ) (home : ℕ → ℕ) (s : State K V F) : Type 0 where
    pub parties : (p : ℕ) → IsParty s p
    pub tables : Tables cmp hash home s
    pub cut : IsPartition s
    pub grown : HasGrown first s
    pub progress : (p : ℕ) → Progress cmp hash gives (s.call p) (s.mode p) s.trace p
    pub named : (p : ℕ) → NamesNoUnborn {F = F} hash (is_some s.published) home s.start (s.call p) (s.mode p)
    pub counted : IsCounted cmp hash s
    pub waits : (p : ℕ) → Waits (s.call p) (s.mode p) (s.steps p)
    pub lookups : (p : ℕ) → LooksUp cmp hash gives s p
    -- each step adds a label, so that a counter of a party's steps holds them
    pub few_steps : (p : ℕ) → s.steps p ≤ length s.trace
    pub legal : Legal cmp hash gives first s.trace
    pub origins : Origins s
    pub numbers : WriteNumbers cmp hash gives home s
    -- conditional removals, of which the trace alone does not tell with which walk they began
    pub removals : EachMay (RemovalMay cmp hash gives s.began_from) s.trace

-- A NEW WORLD
-- nobody has begun; with table e, where b is true, and else without a table
abbrev pub new_world : {K V F : Type 0} → ℕ → Bool → State K V F
new_world e b = record {
  start = e;
  published = if b then Some e else None;
  growth = None;
  slot = λ d j. if b && (e == d && nat_lt j (2 ^ e)) then Live [] 0 else Unborn;
  parties = 0;
  call = λ _. None;
  mode = λ _. Finished;
  claim = λ _. None;
  told = λ _. None;
  count = pos 0;
  seen = λ _. None;
  began_from = λ _. None;
  steps = λ _. 0;
  trace = [];
}

-- RUNS
module _ {K V F : Type 0} (cmp : K → K → Ordering) (hash : K → ℕ) (gives : F → K → Option V → Verdict V → Type 0) where
  -- the state after these steps of parties, the newest first
  abbrev pub after_all : State K V F → List (ℕ × Transition K V F) → State K V F
  after_all s [] = s
  after_all s (x ∷ steps) = next_state cmp hash gives (after_all s steps) x.0 x.1

  -- each of these steps can be done after those before it
  abbrev pub CanAll : State K V F → List (ℕ × Transition K V F) → Type 0
  CanAll s [] = ⊤
  CanAll s (x ∷ steps) = Enabled cmp hash gives (after_all s steps) x.0 x.1 × CanAll s steps
