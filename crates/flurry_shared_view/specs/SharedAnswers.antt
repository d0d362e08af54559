-- What contracts say of the answer of a call of a shared map.
use Rattle.std.specs.Prelude.{◌≡◌, ℕ, Bool, Option, None, Result, Ok, Err}
use Rattle.std.specs.Option.{option_map}
use Rattle.std.specs.Arc.{arc_value}
use Rattle.std.specs.declared.cmp.Ordering.{Ordering}
use Rattle.std.specs.declared.sync.Arc.{Arc}
use Rattle.flurry_base.specs.OneKey.{hash_of_call}
use Rattle.flurry_base.specs.declared.call.Call.{Call}
use Rattle.flurry_base.specs.declared.reply.KeptReply.TheVariants as kept
use Rattle.flurry_base.specs.declared.try_insert.TryInsertError.{TryInsertError}
use Rattle.flurry_base.specs.declared.verdict.Verdict.{Verdict}
use Rattle.flurry_base.specs.declared.verdict.Verdict.TheVariants.{Remove}
use Rattle.flurry_bins_slots.specs.declared.compute_fn.NoFn.{NoFn}
use Rattle.flurry_steps_sweep.specs.Outcome.{Outcome, OutcomeReply, OutcomeEnded, OutcomeRefused}
use Rattle.flurry_steps_sweep.specs.OutcomeView.{pair_value}
use Rattle.flurry_steps_stages.specs.Stage.{stage_of_call}
use Rattle.flurry_steps.specs.Party.{PartyState}
use Rattle.flurry_shared_replies.specs.Replies.{IsReplyOf, new_party}

-- what of a shared map of such keys and values stays as it is
pub record MapSettings (K V S : Type 0) : Type 0 where
  pub hasher : S
  pub processors : ℕ

-- ---- the answer that a call returns

module _ {K V A : Type 0} where
  -- a value, or that there is none
  abbrev pub value_answer : Option (Arc V A) → Outcome K V
  value_answer v = OutcomeReply (kept.Value (option_map arc_value v))

  -- a stored key and its value, or that there is none
  abbrev pub pair_answer : Option (Arc K A × Arc V A) → Outcome K V
  pair_answer p = OutcomeReply (kept.Pair (option_map pair_value p))

  -- the value that was inserted at an absent key; or the one of a present key, and the one that was not inserted
  abbrev pub added_answer : Result (Arc V A) (TryInsertError V A) → Outcome K V
  added_answer (Ok v) = OutcomeReply (kept.New (arc_value v))
  added_answer (Err e) = OutcomeReply (kept.Exists (arc_value e.current) e.not_inserted)

module _ {K V : Type 0} where
  -- whether the key is present
  abbrev pub contains_answer : Bool → Outcome K V
  contains_answer b = OutcomeReply (kept.Contains b)

  -- that the call has ended
  abbrev pub ended_answer : Unit {0} → Outcome K V
  ended_answer u = OutcomeEnded

  -- an answer, or that memory could not be allocated
  abbrev pub or_refused : {X E : Type 0} → (X → Outcome K V) → Result X E → Outcome K V
  or_refused answer (Ok x) = answer x
  or_refused answer (Err e) = OutcomeRefused

-- ---- the answers that a call can give

-- what a call without a function changes
abbrev pub no_changes : {K V : Type 0} → NoFn → K → Option V → Verdict V → Type 0
no_changes f k x v = v ≡ Remove

-- a call of the map before its first step; it has the hash of its key, or 0 if it has no key
abbrev pub fresh_call : {K V F S : Type 0} → (S → K → ℕ) → MapSettings K V S → Call K V F → PartyState K V F
fresh_call hash_of m c = new_party (hash_of_call (hash_of m.hasher) c) m.processors (stage_of_call c)

-- The answer r is one that the own steps of the call c can give, over a map of the settings m. Each step is done at a part of the map
-- that is lent to it under the part's lock; what other threads do between two steps may have left there anything of its type.
-- `changes f k x v` says that the function f of the call, called on a key and on its value or none, may make v of the pair.
abbrev pub IsAnswerWith : {K V F S : Type 0} → (F → K → Option V → Verdict V → Type 0) → (K → K → Ordering) → (S → K → ℕ) → MapSettings K V S → Call K V F → Outcome K V → Type 0
IsAnswerWith changes cmp hash_of m c r = IsReplyOf cmp changes (fresh_call hash_of m c) r

-- the same of a call without a function
abbrev pub IsAnswerOf : {K V S : Type 0} → (K → K → Ordering) → (S → K → ℕ) → MapSettings K V S → Call K V NoFn → Outcome K V → Type 0
IsAnswerOf cmp hash_of m c r = IsAnswerWith no_changes cmp hash_of m c r
