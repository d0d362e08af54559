-- What a call of a shared map can answer, whatever other calls do between its steps.
use Rattle.std.specs.Prelude.{◌≡◌, ◌⊎◌, Bool, true, false, Option, Some, None, MatchBool, ⊤}
use Rattle.flurry_base.specs.declared.reply.KeptReply.{KeptReply}
use Rattle.flurry_base.specs.declared.reply.KeptReply.TheVariants.{Value, Pair, Contains, New, Changed, Exists}
use Rattle.flurry_base.specs.declared.verdict.Verdict.{Verdict}
use Rattle.flurry_base.specs.declared.verdict.Verdict.TheVariants.{Keep, Set, Remove}
use Rattle.flurry_steps_sweep.specs.Outcome.{Outcome, OutcomeReply, OutcomeEnded, OutcomeRefused}
use Rattle.flurry_steps_sweep.specs.Sweep.{SweepKind, Reads, Wipes}
use Rattle.flurry_steps_stages.specs.Stage.{AnswerForm, TheValue, ThePair, Presence, Task, Finds, Removes, RemovesSeen, Inserts, Adds, Computes, Alters, Stage, AtLocate, AtReserve, AtSweep}

-- what is told by a further owner can want memory
abbrev pub NeedsOwner : AnswerForm → Type 0
NeedsOwner Presence = ⊥
NeedsOwner _ = ⊤

module _ {K V : Type 0} where
  -- a reply of that form
  abbrev pub HasForm : AnswerForm → KeptReply K V → Type 0
  HasForm TheValue (Value v) = ⊤
  HasForm ThePair (Pair p) = ⊤
  HasForm Presence (Contains b) = ⊤
  HasForm _ _ = ⊥

  abbrev pub CanFind : AnswerForm → Outcome K V → Type 0
  CanFind w (OutcomeReply r) = HasForm w r
  CanFind w OutcomeEnded = ⊥
  CanFind w OutcomeRefused = NeedsOwner w

  -- a removal hands out what the map owned, and is never refused
  abbrev pub CanRemove : AnswerForm → Outcome K V → Type 0
  CanRemove w (OutcomeReply r) = HasForm w r
  CanRemove w _ = ⊥

  abbrev pub CanInsert : Outcome K V → Type 0
  CanInsert (OutcomeReply r) = HasForm TheValue r
  CanInsert OutcomeEnded = ⊥
  CanInsert OutcomeRefused = ⊤

  -- the value that was handed in is the new one, or comes back
  abbrev pub IsAdded : V → KeptReply K V → Type 0
  IsAdded v (New w) = w ≡ v
  IsAdded v (Exists current w) = w ≡ v
  IsAdded v _ = ⊥

  abbrev pub CanAdd : V → Outcome K V → Type 0
  CanAdd v (OutcomeReply r) = IsAdded v r
  CanAdd v OutcomeEnded = ⊥
  CanAdd v OutcomeRefused = ⊤

  -- a reserve has no reply
  abbrev pub CanReserve : Outcome K V → Type 0
  CanReserve (OutcomeReply r) = ⊥
  CanReserve OutcomeEnded = ⊤
  CanReserve OutcomeRefused = ⊤

  -- neither a walk nor a clear has a reply; a walk can be refused a further owner, and a clear never is
  abbrev pub CanWalk : Outcome K V → Type 0
  CanWalk (OutcomeReply r) = ⊥
  CanWalk OutcomeEnded = ⊤
  CanWalk OutcomeRefused = ⊤

  abbrev pub CanClear : Outcome K V → Type 0
  CanClear (OutcomeReply r) = ⊥
  CanClear OutcomeEnded = ⊤
  CanClear OutcomeRefused = ⊥

  abbrev pub CanSweep : SweepKind → Outcome K V → Type 0
  CanSweep Reads r = CanWalk r
  CanSweep (Wipes n) r = CanClear r

  -- `changes k x v` says that the function may make v of the pair of k, which is x or none: a value that is answered is one that it
  -- answered
  module _ (changes : K → Option V → Verdict V → Type 0) where
    abbrev pub IsComputed : KeptReply K V → Type 0
    IsComputed (Value None) = ⊤
    IsComputed (Value (Some w)) = (k : K) × (v : V) × changes k (Some v) (Set w)
    IsComputed _ = ⊥

    abbrev pub CanCompute : Outcome K V → Type 0
    CanCompute (OutcomeReply r) = IsComputed r
    CanCompute OutcomeEnded = ⊥
    CanCompute OutcomeRefused = (k : K) × (v w : V) × changes k (Some v) (Set w)

    -- what is answered is what came of a verdict of the function, on the key that was handed in and none, or on a stored pair
    abbrev pub IsAltered : K → Bool → KeptReply K V → Type 0
    IsAltered k may_add (Contains false) = MatchBool may_add (changes k None Keep ⊎ changes k None Remove) ⊤
    IsAltered k may_add (Contains true) = (j : K) × (v : V) × changes j (Some v) Keep
    IsAltered k may_add (New w) = (may_add ≡ true) × changes k None (Set w)
    IsAltered k may_add (Changed w v) = (j : K) × changes j (Some v) (Set w)
    IsAltered k may_add (Pair (Some p)) = changes p.0 (Some p.1) Remove
    IsAltered k may_add _ = ⊥

    -- where a pair may be added, memory can be wanting also for a first table
    abbrev pub CanAlter : K → Bool → Outcome K V → Type 0
    CanAlter k may_add (OutcomeReply r) = IsAltered k may_add r
    CanAlter k may_add OutcomeEnded = ⊥
    CanAlter k true OutcomeRefused = ⊤
    CanAlter k false OutcomeRefused = (j : K) × (v w : V) × changes j (Some v) (Set w)

module _ {K V F : Type 0} (changes : F → K → Option V → Verdict V → Type 0) where
  -- what a call of one key can answer
  abbrev pub CanAnswer : Task K V F → Outcome K V → Type 0
  CanAnswer (Finds w k) r = CanFind w r
  CanAnswer (Removes w k) r = CanRemove w r
  CanAnswer (RemovesSeen z) r = CanRemove TheValue r
  CanAnswer (Inserts k v) r = CanInsert r
  CanAnswer (Adds k v) r = CanAdd v r
  CanAnswer (Computes k f) r = CanCompute (changes f) r
  CanAnswer (Alters k may_add f) r = CanAlter (changes f) k may_add r

  -- what a call can answer that has not done a step yet
  abbrev pub CanAnswerFrom : Stage K V F → Outcome K V → Type 0
  CanAnswerFrom (AtLocate t) r = CanAnswer t r
  CanAnswerFrom (AtReserve a) r = CanReserve r
  CanAnswerFrom (AtSweep w) r = CanSweep w.kind r
  CanAnswerFrom _ r = ⊥
