-- The machine: its state, the transitions that one step may be, and what each does. It leaves open what no law hangs on: when a
-- party counts, and for whom, when it helps or begins a growth, and whether memory is refused where it may be.
use Rattle.std.specs.Prelude.{⊤, length, ℕ, ℤ, pos, ◌+ℤ◌, ◌-ℤ◌, zero, suc, ◌+◌, ◌-◌, ◌%◌, ◌^◌, ◌<◌, ◌≤◌, ◌==◌, nat_lt, Bool, true, false, ◌&&◌, List, [], ◌∷◌, Option, Some, None, is_some, IsSome, IsNone, if◌then◌else◌, ◌≡◌, ◌⊎◌}
use Rattle.std.specs.declared.cmp.Ordering.{Ordering}
use Rattle.flurry_base.specs.OneKey.{key_of}
use Rattle.flurry_steps_theory.specs.Map.{same, find, after, Allows, CanBeRefused}
use Rattle.flurry_steps_theory.specs.Trace.{is_lookup, Trace}
use Rattle.flurry_steps_theory.specs.Bin.{Entry, number_of, bump, has_number, pairs_of, first_past, IsAscending, InRegion, half}
use Rattle.flurry_steps_theory.specs.Legal.{IsOneKey, IsWalk, IsClear, changes, removes}
use Rattle.flurry_base.specs.declared.call.Seen.{Seen}
use Rattle.flurry_base.specs.declared.call.Call.{Call}
use Rattle.flurry_base.specs.declared.call.Call.TheVariants.{RemoveSeen, Insert, TryInsert, Alter, Reserve, Clear, Walk}
use Rattle.flurry_base.specs.declared.reply.KeptReply.{KeptReply}
use Rattle.flurry_base.specs.declared.verdict.Verdict.{Verdict}
use Rattle.flurry_steps_theory.specs.declared.Label.{Label}
use Rattle.flurry_steps_theory.specs.declared.Label.TheVariants.{Begin, Decide, Reply as Replied, Refused, Wipe, Read, End, Opened, Placed, Moved as MovedBin, Published, Silent}
use Rattle.flurry_base.specs.declared.sizes.TheConstants.{FIRST_TABLE, MAX_TABLE}

-- a bin of a table; writes counts the values written to it
pub data Slot (K V : Type 0) : Type 0 where
  Live : (entries : List (Entry K V)) (writes : ℕ) → Slot K V
  Moved : Slot K V
  Unborn : Slot K V

-- the part of a bin's region that a walk or a clear has yet to go over: what lies past the bound
pub record Frame (K : Type 0) : Type 0 where
  pub table : ℕ
  pub index : ℕ
  pub bound : Option K

-- the bins of a table from low up to high; those from left on are moved
pub record Claim : Type 0 where
  pub table : ℕ
  pub low : ℕ
  pub left : ℕ
  pub high : ℕ

-- what a party does next, beside helping
pub data Mode (K V : Type 0) : Type 0 where
  Locating : Mode K V
  -- at the bin of its key in table e, undecided
  Looking : (e : ℕ) → Mode K V
  -- in base bin i of table e
  Walking : (e i : ℕ) (frames : List (Frame K)) → Mode K V
  -- and how many pairs the clear has removed
  Clearing : (wiped e i : ℕ) (frames : List (Frame K)) → Mode K V
  -- Its own work is done, for a one-key call with this decision. It owes the control the count of the pairs that it added and removed,
  -- until some party has counted them, and may grow and help before its closing label.
  Done : (reply : Option (KeptReply K V)) (added removed : ℕ) → Mode K V
  Finished : Mode K V

-- a growth of the published table: bins below unclaimed are unclaimed
pub record Growth : Type 0 where
  pub unclaimed : ℕ
  pub reported : ℕ

-- every bin of table e is reported
abbrev pub is_complete : ℕ → Growth → Bool
is_complete e g = g.reported == 2 ^ e

-- the growth with the bins of a claim reported
abbrev pub with_report : Growth → Claim → Growth
with_report g a = record { unclaimed = g.unclaimed; reported = g.reported + (a.high - a.low) }

-- all that the laws speak of: the control, the bins, the parties and the labels
pub record State (K V F : Type 0) : Type 0 where
  pub start : ℕ  -- the exponent of the first table
  pub published : Option ℕ
  pub growth : Option Growth
  pub slot : ℕ → ℕ → Slot K V
  pub parties : ℕ  -- how many have begun: their numbers are those below
  pub call : ℕ → Option (Call K V F)
  pub mode : ℕ → Mode K V
  pub claim : ℕ → Option Claim
  pub told : ℕ → Option ℕ  -- the table whose growth a party is to publish: from the report that was the last until it does
  pub count : ℤ  -- the control's: the pairs that were counted as added, less those as removed
  pub seen : ℕ → Option (Seen K V)  -- a walk's last read
  pub began_from : ℕ → Option ℕ  -- the walk with whose last read a party began
  pub steps : ℕ → ℕ  -- the steps that a party has done since it began
  pub trace : Trace K V F  -- the newest label first

-- f with another value at one place
abbrev pub update : {X : Type 0} → (ℕ → X) → ℕ → X → ℕ → X
update f p x q = if p == q then x else f q

-- f with another value at one bin of one table
abbrev pub update2 : {X : Type 0} → (ℕ → ℕ → X) → ℕ → ℕ → X → ℕ → ℕ → X
update2 f e i x d j = if e == d && i == j then x else f d j

-- the sum of f at the numbers below n
abbrev pub total : (ℕ → ℕ) → ℕ → ℕ
total f zero = 0
total f (suc n) = total f n + f n

-- the transitions, with what each leaves open
pub data Transition (K V F : Type 0) : Type 0 where
  Begins : (c : Call K V F) (from : Option ℕ) → Transition K V F
  -- changes nothing
  Quiet : Transition K V F
  -- An attempt of the party was lost to another party's. It changes nothing, and is no step of the party.
  Loses : Transition K V F
  -- counts what the parties that pass the test owe, its own or others'
  Counts : (whose : ℕ → Bool) → Transition K V F
  Finds : (e : ℕ) → Transition K V F
  Opens : (e : ℕ) → Transition K V F
  FindsNothing : Transition K V F
  IsRefused : Transition K V F
  DecidesEmpty : (c : Call K V F) (r : KeptReply K V) → Transition K V F
  Passes : (e : ℕ) → Transition K V F
  Decides : (c : Call K V F) (k : K) (e : ℕ) (es : List (Entry K V)) (n : ℕ) (r : KeptReply K V) (fs : List (Entry K V)) (m : ℕ) → Transition K V F
  Places : (e : ℕ) → Transition K V F
  Claims : (e : ℕ) (g : Growth) (low : ℕ) → Transition K V F
  Moves : (a : Claim) (i : ℕ) (es : List (Entry K V)) (n : ℕ) → Transition K V F
  -- the party whose report is the last is told to publish
  Reports : (a : Claim) (g : Growth) → Transition K V F
  -- the publication by the party that was told to
  Publishes : (e : ℕ) (g : Growth) → Transition K V F
  Reads : (e i : ℕ) (f : Frame K) (fs : List (Frame K)) (es : List (Entry K V)) (n : ℕ) (x : Entry K V) → Transition K V F
  Leaves : (e i : ℕ) (f : Frame K) (fs : List (Frame K)) (es : List (Entry K V)) (n : ℕ) → Transition K V F
  Splits : (e i : ℕ) (f : Frame K) (fs : List (Frame K)) → Transition K V F
  Wipes : (wiped e i : ℕ) (f : Frame K) (fs : List (Frame K)) (es : List (Entry K V)) (n : ℕ) → Transition K V F
  SplitsClear : (wiped e i : ℕ) (f : Frame K) (fs : List (Frame K)) → Transition K V F
  Replies : (r : KeptReply K V) → Transition K V F
  Ends : Transition K V F

-- the walk, or the clear, goes on behind a frame that is done, or is at its end
abbrev pub onward : {K V : Type 0} → (ℕ → ℕ → List (Frame K) → Mode K V) → Mode K V → ℕ → ℕ → List (Frame K) → Mode K V
onward to end e i (f ∷ fs) = to e i (f ∷ fs)
onward to end e i [] = if nat_lt (suc i) (2 ^ e) then to e (suc i) (record { table = e; index = suc i; bound = None } ∷ []) else end

-- what a party owes in this mode: the pairs that it has added, and nobody has counted
abbrev pub owes_added : {K V : Type 0} → Mode K V → ℕ
owes_added (Done r added removed) = added
owes_added m = 0

-- and the pairs that it has removed, and nobody has counted
abbrev pub owes_removed : {K V : Type 0} → Mode K V → ℕ
owes_removed (Clearing wiped e i fs) = wiped
owes_removed (Done r added removed) = removed
owes_removed m = 0

-- the mode once what it owes is counted
abbrev pub mode_after_count : {K V : Type 0} → Mode K V → Mode K V
mode_after_count (Clearing wiped e i fs) = Clearing 0 e i fs
mode_after_count (Done r added removed) = Done r 0 0
mode_after_count m = m

-- the two halves of a frame whose bin has moved
abbrev pub halves : {K : Type 0} → Frame K → List (Frame K) → List (Frame K)
halves f fs = record { table = suc f.table; index = f.index; bound = f.bound } ∷ record { table = suc f.table; index = f.index + 2 ^ f.table; bound = f.bound } ∷ fs

module _ {K V F : Type 0} where
  -- where a call goes on that has found table e
  abbrev pub mode_at_table : ℕ → Call K V F → Mode K V
  mode_at_table e (Reserve n) = Done None 0 0
  mode_at_table e Clear = Clearing 0 e 0 (record { table = e; index = 0; bound = None } ∷ [])
  mode_at_table e Walk = Walking e 0 (record { table = e; index = 0; bound = None } ∷ [])
  mode_at_table e c = Looking e

  -- may open the first table
  abbrev pub MayOpen : Call K V F → ℕ → Type 0
  MayOpen (Insert k v) e = e ≡ FIRST_TABLE
  MayOpen (TryInsert k v) e = e ≡ FIRST_TABLE
  MayOpen (Alter k true f) e = e ≡ FIRST_TABLE
  MayOpen (Reserve n) e = e ≤ MAX_TABLE
  MayOpen c e = ⊥

  -- what the parties that pass the test owe is counted, and they owe nothing more
  abbrev pub settle : (ℕ → Bool) → State K V F → State K V F
  settle whose s = record s {
    count = s.count +ℤ pos (total (λ q. if whose q then owes_added (s.mode q) else 0) s.parties) -ℤ pos (total (λ q. if whose q then owes_removed (s.mode q) else 0) s.parties);
    mode = λ q. if whose q then mode_after_count (s.mode q) else s.mode q;
  }

  -- a call that may add a pair to an empty map
  abbrev pub Adds : Call K V F → Type 0
  Adds (Insert k v) = ⊤
  Adds (TryInsert k v) = ⊤
  Adds (Alter k true f) = ⊤
  Adds c = ⊥

  module _ (cmp : K → K → Ordering) (hash : K → ℕ) (gives : F → K → Option V → Verdict V → Type 0) where
    -- A call's step at a live bin, with this reply: the bin's pairs become what the call leaves of them. A written value bears the
    -- count of writes after it; a conditional removal removes exactly if the number is the one seen, below the greatest.
    pub record BinDid (c : Call K V F) (r : KeptReply K V) (es : List (Entry K V)) (n : ℕ) (fs : List (Entry K V)) (m : ℕ) : Type 0 where
      pub allowed : Allows cmp gives c (pairs_of es) r
      pub ascending : IsAscending cmp hash fs
      pub after : (j : K) → find cmp (pairs_of fs) j ≡ find cmp (after cmp c r (pairs_of es)) j
      pub count : (m ≡ n) ⊎ (m ≡ bump n)
      pub other_numbers : (k j : K) → key_of c ≡ Some k → same cmp k j ≡ false → number_of cmp fs j ≡ number_of cmp es j
      pub kept_numbers : changes cmp hash gives c r ≡ false → (j : K) → number_of cmp fs j ≡ number_of cmp es j
      pub new_number : changes cmp hash gives c r ≡ true → (k : K) → key_of c ≡ Some k → (number_of cmp fs k ≡ None) ⊎ ((number_of cmp fs k ≡ Some m) × (m ≡ bump n))
      pub conditional : (z : Seen K V) → c ≡ RemoveSeen z → removes cmp hash gives r ≡ has_number (number_of cmp es z.key) z.number

    -- An exponent that was once published: a call may begin there, since the bins of older tables are moved and lead on. So it may be
    -- read from a hint that lags behind the published exponent.
    abbrev pub WasPublished : State K V F → ℕ → Type 0
    WasPublished s e = (s.start ≤ e) × (f : ℕ) × (s.published ≡ Some f) × (e ≤ f)

    -- Where a party of this call and mode may be refused memory: at a first table, which could not be made; at the live bin of its key,
    -- as that bin's pairs allow; as a walk, for the pair that it reads or the bound that both halves need; as a reserve, at a larger table.
    abbrev pub RefusedAt : State K V F → Call K V F → Mode K V → Type 0
    RefusedAt s c Locating = (s.published ≡ None) × (e : ℕ) × MayOpen c e
    RefusedAt s c (Looking e) = (k : K) × (es : List (Entry K V)) × (n : ℕ) × (key_of c ≡ Some k) × (s.slot e (hash k % 2 ^ e) ≡ Live es n) × CanBeRefused cmp gives c (pairs_of es)
    RefusedAt s c (Walking e i (f ∷ fs)) = ((es : List (Entry K V)) × (n : ℕ) × (s.slot f.table f.index ≡ Live es n) × IsSome (first_past cmp hash f.bound es)) ⊎ ((s.slot f.table f.index ≡ Moved) × IsSome f.bound)
    RefusedAt s c (Done None added removed) = (n e : ℕ) × (c ≡ Reserve n) × (added ≡ 0) × (removed ≡ 0) × (s.published ≡ Some e) × (s.growth ≡ None) × (e < MAX_TABLE)
    RefusedAt s c m = ⊥

    -- when party p may do this transition
    abbrev pub Enabled : State K V F → ℕ → Transition K V F → Type 0
    Enabled s p (Begins c from) = (p ≡ s.parties) × ((w : ℕ) → from ≡ Some w → (z : Seen K V) × (s.seen w ≡ Some z) × (c ≡ RemoveSeen z))
    Enabled s p Quiet = is_lookup (s.call p) ≡ true → s.mode p ≡ Finished
    Enabled s p Loses = ⊤
    Enabled s p (Counts whose) = is_lookup (s.call p) ≡ false
    Enabled s p (Finds e) = (c : Call K V F) × (s.call p ≡ Some c) × (s.mode p ≡ Locating) × WasPublished s e
    Enabled s p (Opens e) = (c : Call K V F) × (s.call p ≡ Some c) × (s.mode p ≡ Locating) × (s.published ≡ None) × MayOpen c e
    Enabled s p FindsNothing = (c : Call K V F) × (s.call p ≡ Some c) × (s.mode p ≡ Locating) × (s.published ≡ None) × (IsWalk c ⊎ IsClear c)
    Enabled s p IsRefused = (c : Call K V F) × (s.call p ≡ Some c) × (s.claim p ≡ None) × RefusedAt s c (s.mode p)
    Enabled s p (DecidesEmpty c r) = (s.call p ≡ Some c) × (s.mode p ≡ Locating) × (s.published ≡ None) × (Adds c → ⊥) × Allows cmp gives c [] r
    Enabled s p (Passes e) = (c : Call K V F) × (k : K) × (s.call p ≡ Some c) × (key_of c ≡ Some k) × (s.mode p ≡ Looking e) × (s.slot e (hash k % 2 ^ e) ≡ Moved)
    Enabled s p (Decides c k e es n r fs m) = (s.call p ≡ Some c) × (key_of c ≡ Some k) × (s.mode p ≡ Looking e) × (s.claim p ≡ None) × (s.slot e (hash k % 2 ^ e) ≡ Live es n) × BinDid c r es n fs m × InRegion hash e (hash k % 2 ^ e) fs
    Enabled s p (Places e) = (s.published ≡ Some e) × (s.growth ≡ None) × (e < MAX_TABLE) × (is_lookup (s.call p) ≡ false)
    Enabled s p (Claims e g low) = (s.claim p ≡ None) × (p < s.parties) × (s.published ≡ Some e) × (s.growth ≡ Some g) × (low < g.unclaimed) × (is_lookup (s.call p) ≡ false)
    Enabled s p (Moves a i es n) = (s.claim p ≡ Some a) × (a.low ≤ i) × (a.left ≡ suc i) × (s.slot a.table i ≡ Live es n) × (is_lookup (s.call p) ≡ false)
    Enabled s p (Reports a g) = (s.claim p ≡ Some a) × (a.left ≡ a.low) × (s.growth ≡ Some g) × (is_lookup (s.call p) ≡ false)
    Enabled s p (Publishes e g) = (s.told p ≡ Some e) × (s.published ≡ Some e) × (s.growth ≡ Some g) × (is_lookup (s.call p) ≡ false)
    Enabled s p (Reads e i f fs es n x) = (s.mode p ≡ Walking e i (f ∷ fs)) × (s.slot f.table f.index ≡ Live es n) × (first_past cmp hash f.bound es ≡ Some x)
    Enabled s p (Leaves e i f fs es n) = (s.mode p ≡ Walking e i (f ∷ fs)) × (s.slot f.table f.index ≡ Live es n) × (first_past cmp hash f.bound es ≡ None)
    Enabled s p (Splits e i f fs) = (s.mode p ≡ Walking e i (f ∷ fs)) × (s.slot f.table f.index ≡ Moved)
    Enabled s p (Wipes wiped e i f fs es n) = (s.mode p ≡ Clearing wiped e i (f ∷ fs)) × (s.slot f.table f.index ≡ Live es n)
    Enabled s p (SplitsClear wiped e i f fs) = (s.mode p ≡ Clearing wiped e i (f ∷ fs)) × (s.slot f.table f.index ≡ Moved)
    Enabled s p (Replies r) = (c : Call K V F) × (s.call p ≡ Some c) × IsOneKey c × (s.mode p ≡ Done (Some r) 0 0) × (s.claim p ≡ None)
    Enabled s p Ends = (c : Call K V F) × (s.call p ≡ Some c) × IsNone (key_of c) × (s.mode p ≡ Done None 0 0) × (s.claim p ≡ None)

    -- where a party goes on that has found table e; nowhere without a call
    abbrev pub found_by : Option (Call K V F) → ℕ → Mode K V
    found_by None e = Finished
    found_by (Some c) e = mode_at_table e c

    -- the party in another mode
    abbrev pub goes : State K V F → ℕ → Mode K V → State K V F
    goes s p m = record s { mode = update s.mode p m }

    -- what the transition does, beside its label
    abbrev pub effect : State K V F → ℕ → Transition K V F → State K V F
    effect s p (Begins c from) = record s {
      seen = update s.seen p None;
      began_from = update s.began_from p from;
      parties = suc p;
      call = update s.call p (Some c);
      mode = update s.mode p Locating;
      claim = update s.claim p None;
      told = update s.told p None;
    }
    effect s p Quiet = s
    effect s p Loses = s
    effect s p (Counts whose) = settle whose s
    effect s p (Finds e) = goes s p (found_by (s.call p) e)
    effect s p (Opens e) = record s { start = e; published = Some e; slot = λ d j. if e == d && nat_lt j (2 ^ e) then Live [] 0 else s.slot d j; mode = update s.mode p (found_by (s.call p) e) }
    effect s p FindsNothing = goes s p (Done None 0 0)
    effect s p IsRefused = goes s p Finished
    effect s p (DecidesEmpty c r) = goes s p (Done (Some r) 0 0)
    effect s p (Passes e) = goes s p (Looking (suc e))
    effect s p (Decides c k e es n r fs m) = record s { slot = update2 s.slot e (hash k % 2 ^ e) (Live fs m); mode = update s.mode p (Done (Some r) (length fs - length es) (length es - length fs)) }
    effect s p (Places e) = record s { growth = Some (record { unclaimed = 2 ^ e; reported = 0 }) }
    effect s p (Claims e g low) = record s { growth = Some (record { unclaimed = low; reported = g.reported }); claim = update s.claim p (Some (record { table = e; low = low; left = g.unclaimed; high = g.unclaimed })) }
    effect s p (Moves a i es n) = record s {
      slot = update2 (update2 (update2 s.slot a.table i Moved) (suc a.table) i (Live (half hash (suc a.table) i es) n)) (suc a.table) (i + 2 ^ a.table) (Live (half hash (suc a.table) (i + 2 ^ a.table) es) n);
      claim = update s.claim p (Some (record { table = a.table; low = a.low; left = i; high = a.high }));
    }
    effect s p (Reports a g) = record s {
      growth = Some (with_report g a);
      claim = update s.claim p None;
      told = if is_complete a.table (with_report g a) then update s.told p (Some a.table) else s.told;
    }
    effect s p (Publishes e g) = record s { published = Some (suc e); growth = None; told = update s.told p None }
    effect s p (Reads e i f fs es n x) = record s { seen = update s.seen p (Some (record { key = x.key; value = x.value; number = x.number })); mode = update s.mode p (Walking e i (record { table = f.table; index = f.index; bound = Some x.key } ∷ fs)) }
    effect s p (Leaves e i f fs es n) = goes s p (onward Walking (Done None 0 0) e i fs)
    effect s p (Splits e i f fs) = goes s p (Walking e i (halves f fs))
    effect s p (Wipes wiped e i f fs es n) = record s { slot = update2 s.slot f.table f.index (Live [] n); mode = update s.mode p (onward (Clearing (wiped + length es)) (Done None 0 (wiped + length es)) e i fs) }
    effect s p (SplitsClear wiped e i f fs) = goes s p (Clearing wiped e i (halves f fs))
    effect s p (Replies r) = goes s p Finished
    effect s p Ends = goes s p Finished

    -- the label that the transition adds
    abbrev pub label : ℕ → Transition K V F → Label K V F
    label p (Begins c from) = Begin p c
    label p (Opens e) = Opened e
    label p IsRefused = Refused p
    label p (DecidesEmpty c r) = Decide p r
    label p (Decides c k e es n r fs m) = Decide p r
    label p (Places e) = Placed (suc e)
    label p (Moves a i es n) = MovedBin a.table i
    label p (Publishes e g) = Published (suc e)
    label p (Reads e i f fs es n x) = Read p x.key x.value
    label p (Wipes wiped e i f fs es n) = Wipe p f.table f.index
    label p (Replies r) = Replied p r
    label p Ends = End p
    label p l = Silent p

    -- how many steps the party has done after the transition: its beginning is none of them, nor is an attempt that was lost
    abbrev pub steps_after : State K V F → ℕ → Transition K V F → ℕ
    steps_after s p (Begins c from) = 0
    steps_after s p Loses = s.steps p
    steps_after s p l = if is_some (s.call p) then suc (s.steps p) else s.steps p

    -- the transition, as it is done: what it does, the steps of its party, and its label
    abbrev pub next_state : State K V F → ℕ → Transition K V F → State K V F
    next_state s p l = record (effect s p l) { steps = update s.steps p (steps_after s p l); trace = label p l ∷ s.trace }

    -- one step of party p, or its beginning
    abbrev pub Steps : State K V F → ℕ → State K V F → Type 0
    Steps s p z = (l : Transition K V F) × Enabled s p l × (z ≡ next_state s p l)
