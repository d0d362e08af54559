-- What a driven call answers and leaves, over an exclusive field, whose parts nobody else changes.
use Rattle.std.specs.Prelude.{◌≡◌, ℕ, ◌+◌, ◌≤◌, Bool, [], length, Option, Some}
use Rattle.std.specs.declared.cmp.Ordering.{Ordering}
use Rattle.std.specs.declared.cmp.Ordering.TheVariants.{Equal}
use Rattle.flurry_steps.specs.Field.{Loan}
use Rattle.flurry_steps_sweep.specs.Outcome.{Outcome, OutcomeReply, OutcomeEnded, OutcomeRefused}
use Rattle.flurry_steps_sweep.specs.Part.{Part}
use Rattle.flurry_steps_stages.specs.Stage.{stage_of_call}
use Rattle.flurry_steps.specs.Party.{PartyState}
use Rattle.flurry_base.specs.OneKey.{key_of}
use Rattle.flurry_steps_theory.specs.Map.{Pairs, after, Allows, CanBeRefused}
use Rattle.flurry_steps_theory.specs.Trace.{pairs}
use Rattle.flurry_base.specs.declared.call.Call.{Call}
use Rattle.flurry_base.specs.declared.call.Call.TheVariants as call
use Rattle.flurry_steps_world.specs.Parts.{Parts}
use Rattle.flurry_steps_world.specs.Tables.{Tables}
use Rattle.flurry_steps_world.specs.World.{WorldState, Near, IsWorld, history}
use Rattle.flurry_steps_drive.specs.IsExclusive.{IsExclusive}
use Rattle.flurry_base.specs.declared.sizes.TheConstants.{MAX_LABELS}
use Rattle.flurry_base.specs.declared.verdict.Verdict.{Verdict}

module _ {K V F : Type 0} where
  -- how many pairs the call counts at most, on the map m
  abbrev pub most_counted : Call K V F → Pairs K V → ℕ
  most_counted (call.Reserve a) m = 0
  most_counted call.Clear m = length m
  most_counted call.Walk m = 0
  most_counted c m = 1

  -- what a call without a key leaves of the map m, once it has ended: a clear no pair, and the others all
  abbrev pub EndsOn : Call K V F → Pairs K V → Pairs K V → Type 0
  EndsOn (call.Reserve a) m m' = m' ≡ m
  EndsOn call.Clear m m' = m' ≡ []
  EndsOn call.Walk m m' = m' ≡ m
  EndsOn c m m' = ⊥

module _ {K V F : Type 0} (cmp : K → K → Ordering) (hash : K → ℕ) (changes : F → K → Option V → Verdict V → Type 0) where
  -- The parts stand as a world keeps them, whatever calls have begun there and wherever these stand. They hold the map m, and their
  -- count of pairs is at most n from 0.
  pub record Holds (n : ℕ) (s : Parts K V) (m : Pairs K V) : Type 0 where
    pub world : WorldState K V F (Unit {0})
    pub is_world : IsWorld cmp hash changes world
    pub control_state : world.control_state ≡ s.control_state
    pub tables : world.tables ≡ s.tables
    pub map : pairs cmp hash (history world) ≡ m
    pub near : Near n s.control_state.count

  -- the call c, on the map m, answers r and leaves m'. A call of one key replies and leaves what the finite map does; any call that is
  -- refused leaves the map, and may be refused.
  abbrev pub OutcomeAnswers : Call K V F → Pairs K V → Outcome K V → Pairs K V → Type 0
  OutcomeAnswers c m (OutcomeReply r) m' = Allows cmp changes c m r × (m' ≡ after cmp c r m)
  OutcomeAnswers c m OutcomeEnded m' = EndsOn c m m'
  OutcomeAnswers c m OutcomeRefused m' = CanBeRefused cmp changes c m × (m' ≡ m)

  -- the call c before its first step, with the hash of its key
  pub record IsFresh (c : Call K V F) (p : PartyState K V F) : Type 0 where
    pub stage : p.stage ≡ stage_of_call c
    pub hash_is : (k : K) → key_of c ≡ Some k → p.hash ≡ hash k

  -- driven over the parts s, the call c answers r and leaves the parts s'
  abbrev pub DrivesTo : Call K V F → ℕ → Parts K V → Pairs K V → Outcome K V → Parts K V → Type 0
  DrivesTo c n s m r s' = (m' : Pairs K V) × OutcomeAnswers c m r m' × Holds (n + most_counted c m) s' m'

-- over an exclusive field, whose parts stand as a world keeps them, a call that did no step yet does what the finite map does
abbrev pub IsExact : {S R K V F : Type 0} (place : R → ℕ → Option ℕ → Bool → R → Type 0) (cmp : K → K → Ordering) (changes : F → K → Option V → Verdict V → Type 0) (lends : S → Loan K V R → S → Type 0) (lacks : S → Part → Type 0) → S → PartyState K V F → Outcome K V → S → Type 0
IsExact {S} {R} {K} {V} {F} place cmp changes lends lacks s p r s' =
    (parts : S → Parts K V) (room : R → Tables K V) → IsExclusive parts room place lends lacks
    → (hash : K → ℕ) → ((j k : K) → cmp j k ≡ Equal → hash j ≡ hash k)
    → (c : Call K V F) → IsFresh cmp hash changes c p
    → (n : ℕ) (m : Pairs K V) → n + most_counted c m ≤ MAX_LABELS → Holds cmp hash changes n (parts s) m
    → DrivesTo cmp hash changes c n (parts s) m r (parts s')
