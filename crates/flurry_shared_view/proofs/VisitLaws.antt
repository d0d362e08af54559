-- Laws of loops over the pairs of a shared map that do something at each.
use Rattle.std.proofs.Common.{◌≡◌, ℕ, Bool, true, List, [], ◌∷◌, ◌++◌, Some, None, Result, Ok, Option, refl, sym, ◌∙◌, ap, subst}
use Rattle.std.specs.Bool.{⊤}
use Rattle.std.specs.List.{FoldsTo}
use Rattle.std.specs.Option.{option_map}
use Rattle.std.specs.Borrow.{Bor}
use Rattle.std.specs.declared.cmp.Ordering.{Ordering}
use Rattle.std.proofs.lemmas.Fn.{FoldsTo-push}
use Rattle.flurry_base.specs.declared.call.Call.TheVariants.{Get}
use Rattle.flurry_base.specs.declared.call.Seen.{Seen}
use Rattle.flurry_base.specs.declared.reply.KeptReply.TheVariants.{Value}
use Rattle.flurry_steps_sweep.specs.Outcome.{OutcomeReply}
use Rattle.flurry_steps_sweep.specs.Sweep.{pair_seen}
use Rattle.flurry_shared_view.specs.SharedAnswers.{MapSettings, IsAnswerOf}
use Rattle.flurry_shared_view.specs.Walks.{IteratorState, WalkAnswers, Begins, Gives, IsOpen, ReadsNext}
use Rattle.flurry_shared_view.specs.Visits.{read_none, read_more, HasRead, FoldsWalk, StopsAt, VisitsPair, FoldsPair, SaysOfPair, LooksUpEqual, is_equal_to}
use Rattle.flurry_shared_view.proofs.WalkLaws.{opens, stays_open}

module _ {K V S : Type 0} (cmp : K → K → Ordering) (act : S → Seen K V → S → Type 0) where
  -- an iterator has read some pairs, and something was done at each
  pub record HasVisited (first now : S) (it : IteratorState K V) : Type 0 where
    pub is_open : IsOpen cmp it
    pub reads : List (Seen K V)
    pub has_read : HasRead cmp reads it.walk
    pub acts : FoldsTo act first reads now

  pub has_visited_none : (s : S) (it : IteratorState K V) → Begins cmp it → HasVisited s s it
  has_visited_none s it h = record { is_open = opens cmp it h; reads = []; has_read = record { first = it; begins = h; each = read_none }; acts = refl }

  module _ {X Y E : Type 0} (told : X → Y) (seen : Seen K V → Y) (it it' : IteratorState K V) (r : Result (Option X) E) (h : Gives cmp told seen it r it') where
    answers_at : (z : Result (Option X) E) → r ≡ z → IsOpen cmp it → WalkAnswers cmp told seen it.walk z it'.walk
    answers_at z e is = subst (λ y. WalkAnswers cmp told seen it.walk y it'.walk) e (h.answers is.goes_on)

    -- what it gives is what its walk has read
    as_read : (o : Option (Seen K V)) (x : X) → option_map seen o ≡ Some (told x) → (y : Seen K V) × (o ≡ Some y) × (seen y ≡ told x)
    as_read None x e = cc
    as_read (Some y) x e = (y, refl, cc)

    module _ (x : X) (e : r ≡ Ok (Some x)) (is : IsOpen cmp it) where
      next : ReadsNext cmp it.walk it'.walk
      next = (answers_at (Ok (Some x)) e is).0

      read : (y : Seen K V) × (it'.walk.last ≡ Some y) × (seen y ≡ told x)
      read = as_read it'.walk.last x (answers_at (Ok (Some x)) e is).1

      reads_more : (reads : List (Seen K V)) → HasRead cmp reads it.walk → HasRead cmp (reads ++ read.0 ∷ []) it'.walk
      reads_more reads before = record { first = before.first; begins = before.begins; each = read_more before.each next read.1 }

    -- it gives one more, at which something is done
    pub has_visited_more : (x : X) → r ≡ Ok (Some x) → (first s s' : S) → HasVisited first s it → ((y : Seen K V) → seen y ≡ told x → act s y s') → HasVisited first s' it'
    has_visited_more x e first s s' v acts =
        let y = read x e v.is_open in record {
          is_open = stays_open cmp told seen it it' r x e v.is_open h;
          reads = v.reads ++ y.0 ∷ [];
          has_read = reads_more x e v.is_open v.reads v.has_read;
          acts = FoldsTo-push act first v.reads s y.0 s' v.acts (acts y.0 y.2);
        }

    -- it is at its end
    pub has_visited_all : r ≡ Ok None → (first s : S) → HasVisited first s it → FoldsWalk cmp act first s
    has_visited_all e first s v = record {
      reads = v.reads;
      walk = record { last = it.walk; end = it'.walk; has_read = v.has_read; ends = answers_at (Ok None) e v.is_open };
      acts = v.acts;
    }

    -- it is left at what it gives
    pub stops_at : (stop : S → Seen K V → S → Type 0) (x : X) → r ≡ Ok (Some x) → (first s last : S) → HasVisited first s it → ((y : Seen K V) → seen y ≡ told x → stop s y last) → StopsAt cmp act stop first last
    stops_at stop x e first s last v stops =
        let y = read x e v.is_open in record {
          before = v.reads;
          at = y.0;
          now = it'.walk;
          walk = reads_more x e v.is_open v.reads v.has_read;
          passed = s;
          acts = v.acts;
          stops = stops y.0 y.2;
        }

-- calls at references to the key and the value of a pair, of which the walk has read the same
module _ {K V : Type 0} {k : Bor K} {v : Bor V} {x : K × V} (is_key : k.now ≡ x.0) (is_value : v.now ≡ x.1) (y : Seen K V) (same : pair_seen y ≡ x) where
  pub visits_pair : {F : Type 0} (step : F → Bor K → Bor V → ⊤ → F → Type 0) (f g : F) (r : ⊤) → step f k v r g → VisitsPair step f y g
  visits_pair step f g r called = (k, v, is_key ∙ sym (ap (λ (p : K × V). p.0) same), is_value ∙ sym (ap (λ (p : K × V). p.1) same), subst (λ (u : ⊤). step f k v u g) refl called)

  pub folds_pair : {F B : Type 0} (step : F → B → Bor K → Bor V → B → F → Type 0) (f g : F) (b d : B) → step f b k v d g → FoldsPair step (f, b) y (g, d)
  folds_pair step f g b d called = (k, v, is_key ∙ sym (ap (λ (p : K × V). p.0) same), is_value ∙ sym (ap (λ (p : K × V). p.1) same), called)

  pub says_of_pair : {F : Type 0} (step : F → Bor K → Bor V → Bool → F → Type 0) (f g : F) (says answer : Bool) → says ≡ answer → step f k v says g → SaysOfPair step answer f y g
  says_of_pair step f g says answer is called = record {
    key = k;
    value = v;
    shows_key = is_key ∙ sym (ap (λ (p : K × V). p.0) same);
    shows_value = is_value ∙ sym (ap (λ (p : K × V). p.1) same);
    called = subst (λ b. step f k v b g) is called;
  }

-- what is known of the key of a pair, of which the walk has read the same
pub at_key_read : {K V : Type 0} (k : K) (x : K × V) → k ≡ x.0 → (y : Seen K V) → pair_seen y ≡ x → (Q : K → Type 0) → Q k → Q y.key
at_key_read {K = K} {V = V} k x is_key y same Q known = subst Q (is_key ∙ sym (ap (λ (p : K × V). p.0) same)) known

-- a look-up found an equal value at the key of a pair, of which the walk has read the same
pub looks_up_equal : {K V S : Type 0} (cmp : K → K → Ordering) (hash_of : S → K → ℕ) (m : MapSettings K V S) (equal : V → V → Bool) (k : K) (v : V) (x : K × V) → k ≡ x.0 → v ≡ x.1 → (y : Seen K V) → pair_seen y ≡ x → (answer : Bool) → answer ≡ true
    → (found : Option V) × IsAnswerOf cmp hash_of m (Get k) (OutcomeReply (Value found)) × (is_equal_to equal v found ≡ answer) → LooksUpEqual cmp hash_of m equal true tt y tt
looks_up_equal {K = K} {V = V} cmp hash_of m equal k v x is_key is_value y same answer is h =
    let value_is : v ≡ y.value = is_value ∙ sym (ap (λ (p : K × V). p.1) same) in
    (h.0, at_key_read k x is_key y same (λ z. IsAnswerOf cmp hash_of m (Get z) (OutcomeReply (Value h.0))) h.1, ap (λ z. is_equal_to equal z h.0) (sym value_is) ∙ h.2 ∙ is)
