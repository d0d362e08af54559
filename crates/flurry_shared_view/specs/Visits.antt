-- What contracts say of calls that go over a shared map: what a walk read, in the order in which it read it, and what was done at each.
use Rattle.std.specs.Prelude.{⊤, ℕ, ◌≡◌, ◌⊎◌, Bool, true, false, List, [], ◌∷◌, ◌++◌, Option, Some, None}
use Rattle.std.specs.List.{FoldsTo}
use Rattle.std.specs.Borrow.{Bor}
use Rattle.std.specs.declared.cmp.Ordering.{Ordering}
use Rattle.flurry_base.specs.Keeps.{CalledAtPair}
use Rattle.flurry_base.specs.declared.call.Call.TheVariants.{Get, Remove, RemoveSeen}
use Rattle.flurry_base.specs.declared.call.Seen.{Seen}
use Rattle.flurry_base.specs.declared.reply.KeptReply.TheVariants.{Value}
use Rattle.flurry_steps_sweep.specs.Outcome.{OutcomeReply, OutcomeEnded}
use Rattle.flurry_steps_sweep.specs.Sweep.{SweepState, pair_seen}
use Rattle.flurry_shared_view.specs.SharedAnswers.{MapSettings, IsAnswerOf}
use Rattle.flurry_shared_view.specs.Walks.{IteratorState, Begins, ReadsNext, EndsWith}

module _ {K V : Type 0} (cmp : K → K → Ordering) where
  -- the walk reads these, one after another
  pub data ReadsEach : SweepState K V → List (Seen K V) → SweepState K V → Type 0 where
    read_none : {p : SweepState K V} → ReadsEach p [] p
    read_more : {p q p' : SweepState K V} {reads : List (Seen K V)} {x : Seen K V} → ReadsEach p reads q → ReadsNext cmp q p' → p'.last ≡ Some x → ReadsEach p (reads ++ x ∷ []) p'

  -- a walk has read these since it began, and is there now
  pub record HasRead (reads : List (Seen K V)) (p : SweepState K V) : Type 0 where
    pub first : IteratorState K V
    pub begins : Begins cmp first
    pub each : ReadsEach first.walk reads p

  -- a walk has read these, and has come to its end
  pub record IsWholeWalk (reads : List (Seen K V)) : Type 0 where
    pub last : SweepState K V
    pub end : SweepState K V
    pub has_read : HasRead reads last
    pub ends : EndsWith cmp last OutcomeEnded end

  -- from one state to another, by one thing done at each pair of a whole walk
  pub record FoldsWalk {S : Type 0} (act : S → Seen K V → S → Type 0) (first last : S) : Type 0 where
    pub reads : List (Seen K V)
    pub walk : IsWholeWalk reads
    pub acts : FoldsTo act first reads last

  -- from one state to another, by one thing done at each pair that a walk read before it was left, and then another at the next pair
  pub record StopsAt {S : Type 0} (act stop : S → Seen K V → S → Type 0) (first last : S) : Type 0 where
    pub before : List (Seen K V)
    pub at : Seen K V
    pub now : SweepState K V
    pub walk : HasRead (before ++ at ∷ []) now
    pub passed : S
    pub acts : FoldsTo act first before passed
    pub stops : stop passed at last

-- a call of a function that returns nothing, at references to the key and the value that were read
abbrev pub VisitsPair : {F K V : Type 0} → (F → Bor K → Bor V → ⊤ → F → Type 0) → F → Seen K V → F → Type 0
VisitsPair {K = K} {V = V} step f x g = (k : Bor K) × (v : Bor V) × (k.now ≡ x.key) × (v.now ≡ x.value) × step f k v tt g

-- a call that is given one value and returns the next
abbrev pub FoldsPair : {F B K V : Type 0} → (F → B → Bor K → Bor V → B → F → Type 0) → F × B → Seen K V → F × B → Type 0
FoldsPair {K = K} {V = V} step s x t = (k : Bor K) × (v : Bor V) × (k.now ≡ x.key) × (v.now ≡ x.value) × step s.0 s.1 k v t.1 t.0

-- a call that returns this
abbrev pub SaysOfPair : {F K V : Type 0} → (F → Bor K → Bor V → Bool → F → Type 0) → Bool → F → Seen K V → F → Type 0
SaysOfPair step answer f x g = CalledAtPair step f (pair_seen x) answer g

module _ {K V : Type 0} (cmp : K → K → Ordering) where
  -- what a search for a pair says: it found one, at which the function returned true after it returned false at those before; or the
  -- function returned false at each pair of a whole walk
  abbrev pub Searches : {F : Type 0} → (F → Bor K → Bor V → Bool → F → Type 0) → F → Bool → Type 0
  Searches {F} step f true = (last : F) × StopsAt cmp (SaysOfPair step false) (SaysOfPair step true) f last
  Searches {F} step f false = (last : F) × FoldsWalk cmp (SaysOfPair step false) f last

-- the function returned true, or what was read was removed
abbrev pub KeepsOrRemoves : {F K V : Type 0} → (F → Bor K → Bor V → Bool → F → Type 0) → (Seen K V → Type 0) → F → Seen K V → F → Type 0
KeepsOrRemoves step removes f x g = SaysOfPair step true f x g ⊎ (SaysOfPair step false f x g × removes x)

-- there is a value, and it is equal
abbrev pub is_equal_to : {V : Type 0} → (V → V → Bool) → V → Option V → Bool
is_equal_to equal v None = false
is_equal_to equal v (Some w) = equal v w

module _ {K V S : Type 0} (cmp : K → K → Ordering) (hash_of : S → K → ℕ) (m : MapSettings K V S) where
  -- a call of the map removed what was read, unless it was written or removed since; or the key, with any value
  abbrev pub RemovesSeen : Seen K V → Type 0
  RemovesSeen s = (r : Option V) × IsAnswerOf cmp hash_of m (RemoveSeen s) (OutcomeReply (Value r))

  abbrev pub RemovesKey : Seen K V → Type 0
  RemovesKey s = (r : Option V) × IsAnswerOf cmp hash_of m (Remove s.key) (OutcomeReply (Value r))

  -- a look-up of the key that was read found an equal value, or not
  abbrev pub LooksUpEqual : (V → V → Bool) → Bool → ⊤ → Seen K V → ⊤ → Type 0
  LooksUpEqual equal answer u s w = (found : Option V) × IsAnswerOf cmp hash_of m (Get s.key) (OutcomeReply (Value found)) × (is_equal_to equal s.value found ≡ answer)
