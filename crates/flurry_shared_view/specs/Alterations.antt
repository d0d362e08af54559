-- What the functions of calls may make of the pair of a key, and what such a call returns.
use Rattle.std.specs.Prelude.{◌≡◌, Bool, false, if◌then◌else◌, Option, Some, None, Result, Ok, Err}
use Rattle.std.specs.Option.{option_map}
use Rattle.std.specs.Arc.{arc_value}
use Rattle.std.specs.declared.sync.Arc.{Arc}
use Rattle.std.specs.Borrow.{Bor}
use Rattle.std.specs.Fn.{Once}
use Rattle.flurry_base.specs.Verdicts.{verdict_of}
use Rattle.flurry_base.specs.declared.change.Change.{Change}
use Rattle.flurry_base.specs.declared.change.Change.TheVariants as change
use Rattle.flurry_base.specs.declared.reply.KeptReply.TheVariants.{Pair, Contains, New, Changed}
use Rattle.flurry_base.specs.declared.verdict.Verdict.{Verdict}
use Rattle.flurry_base.specs.declared.verdict.Verdict.TheVariants.{Keep, Set, Remove}
use Rattle.flurry_steps_sweep.specs.Outcome.{Outcome, OutcomeReply, OutcomeRefused}

-- ---- what a function may make of a pair

abbrev pub replacement : {V : Type 0} → Option V → Verdict V
replacement None = Keep
replacement (Some w) = Set w

-- a call of the function at references to a key and a value may return r
pub record CalledAt {F K V R : Type 0} (calls : Once F (Bor K × (Bor V × Unit {0})) R) (f : F) (k : K) (x : V) (r : R) : Type 0 where
  pub key : Bor K
  pub value : Bor V
  pub shows : (key.now ≡ k) × (value.now ≡ x)
  pub answered : calls.post f (key, (value, tt)) r

-- and so at a reference to a key, and at one to a value or at none
pub record CalledOn {F K V R : Type 0} (calls : Once F (Bor K × (Option (Bor V) × Unit {0})) R) (f : F) (k : K) (x : Option V) (r : R) : Type 0 where
  pub key : Bor K
  pub value : Option (Bor V)
  pub shows : (key.now ≡ k) × (option_map (λ (b : Bor V). b.now) value ≡ x)
  pub answered : calls.post f (key, (value, tt)) r

module _ {F K V : Type 0} where
  -- what it returns is to stand; if it returns none, no pair is
  abbrev pub ComputesBy : Once F (Bor K × (Option (Bor V) × Unit {0})) (Option V) → F → K → Option V → Verdict V → Type 0
  ComputesBy calls f k x v = (o : Option V) × (v ≡ verdict_of o) × CalledOn calls f k x o

  -- a value stands where there was none; else what the function returns for the value that there was and this one
  abbrev pub MergesBy : Once F (Bor V × (V × Unit {0})) (Option V) → V × F → K → Option V → Verdict V → Type 0
  MergesBy calls p k None v = v ≡ Set p.0
  MergesBy calls p k (Some x) v = (o : Option V) × (v ≡ verdict_of o) × ((old : Bor V) × (old.now ≡ x) × calls.post p.1 (old, (p.0, tt)) o)

  -- what it returns for a pair is the new value
  abbrev pub UpdatesBy : Once F (Bor K × (Bor V × Unit {0})) V → F → K → Option V → Verdict V → Type 0
  UpdatesBy calls f k None v = v ≡ Keep
  UpdatesBy calls f k (Some x) v = (w : V) × (v ≡ Set w) × CalledAt calls f k x w

  -- a pair is removed if the function returns true for it
  abbrev pub RemovesIf : Once F (Bor K × (Bor V × Unit {0})) Bool → F → K → Option V → Verdict V → Type 0
  RemovesIf calls f k None v = v ≡ Keep
  RemovesIf calls f k (Some x) v = (says : Bool) × (v ≡ (if says then Remove else Keep)) × CalledAt calls f k x says

  -- a value, if there is one, takes the place of another if the function returns true for the pair
  abbrev pub ReplacesIf : Once F (Bor K × (Bor V × Unit {0})) Bool → Option V × F → K → Option V → Verdict V → Type 0
  ReplacesIf calls p k None v = v ≡ Keep
  ReplacesIf calls p k (Some x) v = (says : Bool) × (v ≡ (if says then replacement p.0 else Keep)) × CalledAt calls p.1 k x says

-- ---- what a call returns, by its answer

module _ {K V A : Type 0} where
  -- what was done to the pair
  abbrev pub TellsChange : {E : Type 0} → Result (Change V A) E → Outcome K V → Type 0
  TellsChange (Ok change.Absent) r = r ≡ OutcomeReply (Contains false)
  TellsChange (Ok (change.Added a)) r = r ≡ OutcomeReply (New (arc_value a))
  TellsChange (Ok (change.Changed a)) r = (old : V) × (r ≡ OutcomeReply (Changed (arc_value a) old))
  TellsChange (Ok (change.Removed a)) r = (k : K) × (r ≡ OutcomeReply (Pair (Some (k, arc_value a))))
  TellsChange (Err e) r = r ≡ OutcomeRefused

  -- the new value, or that the key is absent
  abbrev pub TellsUpdate : {E : Type 0} → Result (Option (Arc V A)) E → Outcome K V → Type 0
  TellsUpdate (Ok None) r = r ≡ OutcomeReply (Contains false)
  TellsUpdate (Ok (Some a)) r = (old : V) × (r ≡ OutcomeReply (Changed (arc_value a) old))
  TellsUpdate (Err e) r = r ≡ OutcomeRefused

  -- the value that was removed, or that nothing was; this is never refused
  abbrev pub TellsRemoval : Option (Arc V A) → Outcome K V → Type 0
  TellsRemoval None r = (present : Bool) × (r ≡ OutcomeReply (Contains present))
  TellsRemoval (Some a) r = (k : K) × (r ≡ OutcomeReply (Pair (Some (k, arc_value a))))

  -- the value that was replaced, or that nothing was
  abbrev pub TellsReplacement : {E : Type 0} → Result (Option (Arc V A)) E → Outcome K V → Type 0
  TellsReplacement (Ok None) r = (present : Bool) × (r ≡ OutcomeReply (Contains present))
  TellsReplacement (Ok (Some a)) r = (new : V) × (r ≡ OutcomeReply (Changed new (arc_value a)))
  TellsReplacement (Err e) r = r ≡ OutcomeRefused
