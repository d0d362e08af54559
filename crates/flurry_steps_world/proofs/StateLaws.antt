-- The state after a step, against what a transition of the machine does.
use Rattle.std.specs.Prelude.{Option, ℕ, suc, zero, ◌<◌, ◌==◌, Bool, true, false, cond, List, [], ◌∷◌, ◌++◌, length, reverse, slice_get, slice_set, Some, option_map, ◌≡◌, unwrap_or}
use Rattle.std.specs.declared.cmp.Ordering.{Ordering}
use Rattle.std.proofs.Common.{arith, refl, sym, ◌∙◌, ap}
use Rattle.std.proofs.lemmas.Bool.{eqb-true, eqb-false, eq-eqb, ne_eqb}
use Rattle.std.proofs.lemmas.List.{reverse-append, length-set}
use Rattle.std.proofs.lemmas.Option.{slice_get_within}
use Rattle.flurry_steps_theory.specs.Machine.{State, Claim, Transition, update, effect, next_state, label, steps_after, Begins, Loses}
use Rattle.flurry_base.specs.declared.call.Call.{Call}
use Rattle.flurry_base.specs.declared.verdict.Verdict.{Verdict}
use Rattle.flurry_steps_theory.specs.declared.Label.{Label}
use Rattle.flurry_steps_control.specs.Control.{ControlState}
use Rattle.flurry_steps_stages.specs.Stage.{Stage, last_seen}
use Rattle.flurry_steps.specs.Party.{PartyState}
use Rattle.flurry_steps_world.specs.Entries.{slot_of}
use Rattle.flurry_steps_world.specs.Tables.{Tables, content_at}
use Rattle.flurry_steps_world.specs.World.{PartyRecord, WorldState, state_of, start_of, growth_of, mode_in, claim_in, told_in, seen_in, began_from_in, steps_in, mode_of_stage, claim_of_stage, told_of_stage, history}
use Rattle.flurry_steps_world.specs.Steps.{with_step}

-- equal options hold equal values
pub same_some : {X : Type 0} {a b : X} → Some a ≡ Some b → a ≡ b
same_some {a = a} h = ap (λ o. unwrap_or o a) h

eqb_suc : (p q : ℕ) → (p == q) ≡ (suc p == suc q)
eqb_suc p q = grind (arith, eqb-true, eqb-false, eq-eqb, ne_eqb)

pub get_set : {X : Type 0} (xs : List X) (p q : ℕ) (x : X) → p < length xs → slice_get (slice_set xs p x) q ≡ cond (p == q) (Some x) (slice_get xs q)
get_set [] p q x l = absurd (omega (arith, l))
get_set (y ∷ ys) zero zero x l = refl
get_set (y ∷ ys) zero (suc q) x l = grind (arith, eqb-true)
get_set (y ∷ ys) (suc p) zero x l = grind (arith, eqb-true)
get_set (y ∷ ys) (suc p) (suc q) x l = get_set ys p q x (omega (arith, l)) ∙ ap (λ b. cond b (Some x) (slice_get ys q)) (eqb_suc p q)

-- what is read of one that was set
pub read_set : {X Y : Type 0} (f : Option X → Y) (xs : List X) (p q : ℕ) (x : X) → p < length xs → f (slice_get (slice_set xs p x) q) ≡ update (λ n. f (slice_get xs n)) p (f (Some x)) q
read_set f xs p q x l = ap f (get_set xs p q x l) ∙ through (p == q)
  where
    through : (b : Bool) → f (cond b (Some x) (slice_get xs q)) ≡ cond b (f (Some x)) (f (slice_get xs q))
    through true = refl
    through false = refl

-- what is at its place already
pub same_place : {Y : Type 0} (f : ℕ → Y) (p : ℕ) (y : Y) → f p ≡ y → (q : ℕ) → update f p y q ≡ f q
same_place f p y h q = through (p == q) refl
  where
    through : (b : Bool) → (p == q) ≡ b → cond b y (f q) ≡ f q
    through true e = sym h ∙ ap f (eqb-true p q e)
    through false e = refl

-- what a stage holds of a growth: bins, or that it was told to publish
abbrev pub held_of_stage : {K V F : Type 0} → Stage K V F → Option Claim × Option ℕ
held_of_stage s = (claim_of_stage s, told_of_stage s)

-- a beginning is no step of its party, nor is an attempt that was lost
abbrev pub is_step : {K V F : Type 0} → Transition K V F → Bool
is_step (Begins c from) = false
is_step Loses = false
is_step l = true

module _ {K V F : Type 0} (cmp : K → K → Ordering) (hash : K → ℕ) (gives : F → K → Option V → Verdict V → Type 0) where
  -- any other transition is one more step of its party
  pub one_more_step : (s : State K V F) (p n : ℕ) (c : Call K V F) (l : Transition K V F) → s.call p ≡ Some c → s.steps p ≡ n → is_step l ≡ true → steps_after cmp hash gives s p l ≡ suc n
  one_more_step s p n c (Begins d f) h k own = absurd (grind (arith, own))
  one_more_step s p n c Loses h k own = absurd (grind (arith, own))
  one_more_step s p n c l h k own = grind (arith, h, k)

module _ {K V F S : Type 0} (cmp : K → K → Ordering) (hash : K → ℕ) (gives : F → K → Option V → Verdict V → Type 0) where
  -- what a transition has to do, so that it is a step of party p that leaves the control b, the tables t and its call at c
  pub record IsTransition (w : WorldState K V F S) (p : ℕ) (b : ControlState) (t : Tables K V) (c : PartyState K V F) (lab : Label K V F) (l : Transition K V F) : Type 0 where
    pub label_is : lab ≡ label cmp hash gives p l
    pub steps_are : steps_after cmp hash gives (state_of w) p l ≡ suc ((state_of w).steps p)
    pub start : start_of w.first (lab ∷ history w) ≡ (effect cmp hash gives (state_of w) p l).start
    pub published : b.published ≡ (effect cmp hash gives (state_of w) p l).published
    pub growth : growth_of b.growth t ≡ (effect cmp hash gives (state_of w) p l).growth
    pub slot : (d j : ℕ) → slot_of (content_at t d j) ≡ (effect cmp hash gives (state_of w) p l).slot d j
    pub parties : (state_of w).parties ≡ (effect cmp hash gives (state_of w) p l).parties
    pub call : (q : ℕ) → (state_of w).call q ≡ (effect cmp hash gives (state_of w) p l).call q
    pub mode : (q : ℕ) → update (state_of w).mode p (mode_of_stage c.stage) q ≡ (effect cmp hash gives (state_of w) p l).mode q
    pub claim : (q : ℕ) → update (state_of w).claim p (claim_of_stage c.stage) q ≡ (effect cmp hash gives (state_of w) p l).claim q
    pub told : (q : ℕ) → update (state_of w).told p (told_of_stage c.stage) q ≡ (effect cmp hash gives (state_of w) p l).told q
    pub count : b.count ≡ (effect cmp hash gives (state_of w) p l).count
    pub seen : (q : ℕ) → (state_of w).seen q ≡ (effect cmp hash gives (state_of w) p l).seen q
    pub began_from : (q : ℕ) → (state_of w).began_from q ≡ (effect cmp hash gives (state_of w) p l).began_from q

  pub does_transition : (w : WorldState K V F S) (p : ℕ) (x : PartyRecord K V F) (b : ControlState) (t : Tables K V) (c : PartyState K V F) (lab : Label K V F) (l : Transition K V F) → slice_get w.party_records p ≡ Some x → last_seen c.stage ≡ last_seen x.party_state.stage → IsTransition w p b t c lab l
      → state_of (with_step w p x b t c lab) ≡ next_state cmp hash gives (state_of w) p l
  does_transition w p x b t c lab l h last is = λ i. record {
    start = (ap (start_of w.first) after_field_step ∙ is.start) i;
    published = is.published i;
    growth = is.growth i;
    slot = λ d j. is.slot d j i;
    parties = (length-set w.party_records p y ∙ is.parties) i;
    call = λ q. (calls q ∙ is.call q) i;
    mode = λ q. (read_set mode_in w.party_records p q y below ∙ is.mode q) i;
    claim = λ q. (read_set claim_in w.party_records p q y below ∙ is.claim q) i;
    told = λ q. (read_set told_in w.party_records p q y below ∙ is.told q) i;
    count = is.count i;
    seen = λ q. (read_set seen_in w.party_records p q y below ∙ same_place (state_of w).seen p (last_seen c.stage) (ap seen_in h ∙ sym last) q ∙ is.seen q) i;
    began_from = λ q. (read_set began_from_in w.party_records p q y below ∙ same_place (state_of w).began_from p x.began_from (ap began_from_in h) q ∙ is.began_from q) i;
    steps = λ q. (read_set steps_in w.party_records p q y below ∙ ap (λ n. update (state_of w).steps p n q) (ap suc (sym (ap steps_in h)) ∙ sym is.steps_are)) i;
    trace = (after_field_step ∙ ap (λ m. m ∷ history w) is.label_is) i;
  }
    where
      y : PartyRecord K V F
      y = record { call = x.call; began_from = x.began_from; party_state = c; steps = suc x.steps }

      below : p < length w.party_records
      below = slice_get_within w.party_records p x h

      after_field_step : reverse (w.trace ++ lab ∷ []) ≡ lab ∷ history w
      after_field_step = reverse-append w.trace (lab ∷ [])

      calls : (q : ℕ) → option_map (λ (z : PartyRecord K V F). z.call) (slice_get (slice_set w.party_records p y) q) ≡ (state_of w).call q
      calls q = read_set (option_map (λ (z : PartyRecord K V F). z.call)) w.party_records p q y below ∙ same_place (state_of w).call p (Some x.call) (ap (option_map (λ (z : PartyRecord K V F). z.call)) h) q
