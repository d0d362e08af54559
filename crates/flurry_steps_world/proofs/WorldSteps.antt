-- The steps of a world, as its code does them.
use Rattle.std.specs.Prelude.{ℕ, suc, ◌^◌, ◌≤◌, ◌<◌, ◌+◌, true, false, List, [], ◌∷◌, ◌++◌, length, slice_get, slice_index_or, slice_set, Option, Some, None, MatchOption, ◌≡◌}
use Rattle.std.specs.declared.cmp.Ordering.{Ordering}
use Rattle.std.specs.declared.cmp.Ordering.TheVariants.{Less, Equal, Greater}
use Rattle.std.specs.Cmp.{IsTotalOrder}
use Rattle.std.proofs.Common.{arith, refl, sym, ◌∙◌, ap, subst}
use Rattle.std.proofs.lemmas.Int.{ints}
use Rattle.std.proofs.lemmas.List.{length-append, length-reverse}
use Rattle.flurry_steps_theory.proofs.Counts.{count_within}
use Rattle.std.proofs.lemmas.Option.{slice_get_past, slice_get-get_or}
use Rattle.flurry_steps_control.specs.Control.{ControlState}
use Rattle.flurry_steps.specs.Party.{PartyState, wanted_part}
use Rattle.flurry_steps.specs.PartyBoard.{lost}
use Rattle.flurry_base.specs.declared.call.Call.{Call}
use Rattle.flurry_base.specs.declared.call.Call.TheVariants as call
use Rattle.flurry_base.specs.declared.call.Seen.{Seen}
use Rattle.flurry_steps_theory.specs.Map.{same}
use Rattle.flurry_steps_theory.specs.declared.Label.{Label}
use Rattle.flurry_steps_theory.specs.declared.Label.TheVariants as label
use Rattle.flurry_steps_world.specs.Tables.{Tables}
use Rattle.flurry_steps_world.specs.Parts.{IsGoing, IsThere}
use Rattle.flurry_steps_world.specs.World.{PartyRecord, WorldState, Near, state_of, seen_in, steps_in, IsWorld, IsBounded, DoesTransition, history}
use Rattle.flurry_steps_world.specs.Steps.{with_label, with_party_record, with_loss, with_step, StageStep, RecordStep, WorldStep, WorldLoses}
use Rattle.flurry_steps_world.proofs.BeginLaws.{IsBeginning}
use Rattle.flurry_steps_world.proofs.WorldLaws.{silent, silent_line, loses, loss_line, began, begin_line, stepped, one_line}
use Rattle.flurry_steps_world.proofs.ThereLaws.{is_there}
use Rattle.flurry_base.specs.declared.sizes.TheConstants.{MAX_LABELS}
use Rattle.flurry_base.specs.declared.verdict.Verdict.{Verdict}

-- keys that compare as equal are of one class
pub alike_class : {K : Type 0} (cmp : K → K → Ordering) (hash : K → ℕ) → ((j k : K) → cmp j k ≡ Equal → hash j ≡ hash k) → (j k : K) → same cmp j k ≡ true → hash j ≡ hash k
alike_class cmp hash alike j k h = by_order (cmp j k) refl
  where
    by_order : (o : Ordering) → cmp j k ≡ o → hash j ≡ hash k
    by_order Less e = let no : same cmp j k ≡ false = grind (arith, e) in cc
    by_order Equal e = alike j k e
    by_order Greater e = let no : same cmp j k ≡ false = grind (arith, e) in cc

-- an element that was lent
pub lent_at : {X : Type 0} (xs : List X) (p : ℕ) (x y : X) → p < length xs → x ≡ slice_index_or xs p x → y ≡ x → slice_get xs p ≡ Some y
lent_at xs p x y l is shows = slice_get-get_or xs p x l ∙ ap Some (sym is ∙ sym shows)

module _ {K V F S : Type 0} (cmp : K → K → Ordering) (total : IsTotalOrder cmp) (hash : K → ℕ) (alike : (j k : K) → cmp j k ≡ Equal → hash j ≡ hash k) (gives : F → K → Option V → Verdict V → Type 0) (w : WorldState K V F S) (k : IsBounded cmp hash gives w) where
  -- the count is at most as far from 0 as there are labels
  pub near : Near (2 ^ 62) w.control_state.count
  near =
      let bounds = count_within cmp total hash (alike_class cmp hash alike) gives (state_of w) k.world.state.1.counted in
      let long : length (state_of w).trace ≡ length w.trace = length-reverse w.trace in
      record { most = omega (arith, ints, bounds.0, long, k.few); least = omega (arith, ints, bounds.1, long, k.few) }

  -- an unknown party's step
  pub unknown_step : (before : List (Label K V F)) → before ≡ w.trace → length before < MAX_LABELS → (p : ℕ) → length w.party_records ≤ p → (t : List (Label K V F)) → t ≡ before ++ label.Silent p ∷ []
      → IsBounded cmp hash gives (record { hasher = w.hasher; processors = w.processors; first = w.first; control_state = w.control_state; tables = w.tables; party_records = w.party_records; trace = t })
      × WorldStep cmp gives w p (record { hasher = w.hasher; processors = w.processors; first = w.first; control_state = w.control_state; tables = w.tables; party_records = w.party_records; trace = t })
      × DoesTransition cmp hash gives w p (record { hasher = w.hasher; processors = w.processors; first = w.first; control_state = w.control_state; tables = w.tables; party_records = w.party_records; trace = t })
  unknown_step before is short p past t added = (
    subst (λ u. IsBounded cmp hash gives (record { hasher = w.hasher; processors = w.processors; first = w.first; control_state = w.control_state; tables = w.tables; party_records = w.party_records; trace = u })) (sym e) (record { world = silent cmp total hash (alike_class cmp hash alike) gives w k.world near p unknown; few = omega (arith, length-append w.trace (label.Silent p ∷ []), few) }),
    subst (λ o. MatchOption o (shown ≡ with_label w (label.Silent p)) (λ x. RecordStep cmp gives w p x shown)) (sym unknown) (ap (λ u. record { hasher = w.hasher; processors = w.processors; first = w.first; control_state = w.control_state; tables = w.tables; party_records = w.party_records; trace = u }) e),
    subst (λ u. DoesTransition cmp hash gives w p (record { hasher = w.hasher; processors = w.processors; first = w.first; control_state = w.control_state; tables = w.tables; party_records = w.party_records; trace = u })) (sym e) (silent_line cmp total hash (alike_class cmp hash alike) gives w k.world near p unknown),
  )
    where
      few : length w.trace < MAX_LABELS
      few = subst (λ u. length u < MAX_LABELS) is short

      e : t ≡ w.trace ++ label.Silent p ∷ []
      e = added ∙ ap (λ u. u ++ label.Silent p ∷ []) is

      unknown : slice_get w.party_records p ≡ None
      unknown = slice_get_past w.party_records p past

      shown : WorldState K V F S
      shown = record { hasher = w.hasher; processors = w.processors; first = w.first; control_state = w.control_state; tables = w.tables; party_records = w.party_records; trace = t }

  -- an unknown party's loss
  pub unknown_loss : (before : List (Label K V F)) → before ≡ w.trace → length before < MAX_LABELS → (p : ℕ) → length w.party_records ≤ p → (t : List (Label K V F)) → t ≡ before ++ label.Silent p ∷ []
      → IsBounded cmp hash gives (record { hasher = w.hasher; processors = w.processors; first = w.first; control_state = w.control_state; tables = w.tables; party_records = w.party_records; trace = t })
      × WorldLoses w p (record { hasher = w.hasher; processors = w.processors; first = w.first; control_state = w.control_state; tables = w.tables; party_records = w.party_records; trace = t })
      × DoesTransition cmp hash gives w p (record { hasher = w.hasher; processors = w.processors; first = w.first; control_state = w.control_state; tables = w.tables; party_records = w.party_records; trace = t })
  unknown_loss before is short p past t added =
      let (bounded, stepped, line) = unknown_step before is short p past t added in
      let unknown : slice_get w.party_records p ≡ None = slice_get_past w.party_records p past in
      (bounded, subst (λ o. MatchOption o (shown ≡ with_label w (label.Silent p)) (λ x. shown ≡ with_loss w p x)) (sym unknown) (subst (λ o. MatchOption o (shown ≡ with_label w (label.Silent p)) (λ x. RecordStep cmp gives w p x shown)) unknown stepped), line)
    where
      shown : WorldState K V F S
      shown = record { hasher = w.hasher; processors = w.processors; first = w.first; control_state = w.control_state; tables = w.tables; party_records = w.party_records; trace = t }

  -- a loss of a known party
  pub loss_step : (before : List (Label K V F)) → before ≡ w.trace → length before < MAX_LABELS → (p : ℕ) (x : PartyRecord K V F) → slice_get w.party_records p ≡ Some x → (c : PartyState K V F) → c ≡ lost x.party_state
      → (party_records : List (PartyRecord K V F)) → party_records ≡ slice_set w.party_records p (record { call = x.call; began_from = x.began_from; party_state = c; steps = x.steps }) → (trace : List (Label K V F)) → trace ≡ before ++ label.Silent p ∷ []
      → IsBounded cmp hash gives (record { hasher = w.hasher; processors = w.processors; first = w.first; control_state = w.control_state; tables = w.tables; party_records = party_records; trace = trace })
      × WorldLoses w p (record { hasher = w.hasher; processors = w.processors; first = w.first; control_state = w.control_state; tables = w.tables; party_records = party_records; trace = trace })
      × DoesTransition cmp hash gives w p (record { hasher = w.hasher; processors = w.processors; first = w.first; control_state = w.control_state; tables = w.tables; party_records = party_records; trace = trace })
  loss_step before is short p x at c goes party_records d trace added = (
    subst (IsBounded cmp hash gives) (sym after) (record { world = loses cmp total hash (alike_class cmp hash alike) gives w k.world near p x at; few = omega (arith, length-append w.trace (label.Silent p ∷ []), few) }),
    subst (λ o. MatchOption o (shown ≡ with_label w (label.Silent p)) (λ x. shown ≡ with_loss w p x)) (sym at) after,
    subst (DoesTransition cmp hash gives w p) (sym after) (loss_line cmp total hash (alike_class cmp hash alike) gives w k.world near p x at),
  )
    where
      few : length w.trace < MAX_LABELS
      few = subst (λ u. length u < MAX_LABELS) is short

      shown : WorldState K V F S
      shown = record { hasher = w.hasher; processors = w.processors; first = w.first; control_state = w.control_state; tables = w.tables; party_records = party_records; trace = trace }

      after : shown ≡ with_loss w p x
      after = λ i. record {
        hasher = w.hasher;
        processors = w.processors;
        first = w.first;
        control_state = w.control_state;
        tables = w.tables;
        party_records = (d ∙ ap (λ z. slice_set w.party_records p (record { call = x.call; began_from = x.began_from; party_state = z; steps = x.steps })) goes) i;
        trace = (added ∙ ap (λ u. u ++ label.Silent p ∷ []) is) i;
      }

  -- a party has done no more steps than there are labels
  pub steps_within : (p : ℕ) (x : PartyRecord K V F) → slice_get w.party_records p ≡ Some x → x.steps ≤ 2 ^ 62
  steps_within p x at =
      let own : (state_of w).steps p ≡ x.steps = ap steps_in at in
      let most : (state_of w).steps p ≤ length (history w) = k.world.state.1.few_steps p in
      omega (arith, own, most, length-reverse w.trace, k.few)

  -- the part that a party wants is there
  pub part_there : (p : ℕ) (x : PartyRecord K V F) → slice_get w.party_records p ≡ Some x → IsGoing x.party_state.stage → IsThere w.tables (wanted_part x.party_state)
  part_there p x at g = is_there cmp total hash (alike_class cmp hash alike) gives w k.world p x at g

  -- a party's step
  pub party_step : (before : List (Label K V F)) → before ≡ w.trace → length before < MAX_LABELS → (p : ℕ) (x : PartyRecord K V F) → slice_get w.party_records p ≡ Some x → (c : PartyState K V F) (b : ControlState) (t : Tables K V) (l : Label K V F) → StageStep cmp gives p x.party_state.stage x.party_state w.control_state w.tables l c b t
      → (party_records : List (PartyRecord K V F)) → party_records ≡ slice_set w.party_records p (record { call = x.call; began_from = x.began_from; party_state = c; steps = x.steps + 1 }) → (trace : List (Label K V F)) → trace ≡ before ++ l ∷ []
      → IsBounded cmp hash gives (record { hasher = w.hasher; processors = w.processors; first = w.first; control_state = b; tables = t; party_records = party_records; trace = trace })
      × WorldStep cmp gives w p (record { hasher = w.hasher; processors = w.processors; first = w.first; control_state = b; tables = t; party_records = party_records; trace = trace })
      × DoesTransition cmp hash gives w p (record { hasher = w.hasher; processors = w.processors; first = w.first; control_state = b; tables = t; party_records = party_records; trace = trace })
  party_step before is short p x at c b t l does party_records d trace added = (
    subst (IsBounded cmp hash gives) (sym after) (record { world = stepped cmp total hash (alike_class cmp hash alike) gives w k.world near k.few p x at l c b t does; few = omega (arith, length-append w.trace (l ∷ []), few) }),
    subst (λ o. MatchOption o (shown ≡ with_label w (label.Silent p)) (λ x. RecordStep cmp gives w p x shown)) (sym at) (record { step_label = l; party_state = c; control_state = b; tables = t; stage_step = does; after = after }),
    subst (DoesTransition cmp hash gives w p) (sym after) (one_line cmp total hash (alike_class cmp hash alike) gives w k.world near k.few p x at l c b t does),
  )
    where
      few : length w.trace < MAX_LABELS
      few = subst (λ u. length u < MAX_LABELS) is short

      e : trace ≡ w.trace ++ l ∷ []
      e = added ∙ ap (λ u. u ++ l ∷ []) is

      shown : WorldState K V F S
      shown = record { hasher = w.hasher; processors = w.processors; first = w.first; control_state = b; tables = t; party_records = party_records; trace = trace }

      one_more : x.steps + 1 ≡ suc x.steps
      one_more = omega arith

      after : shown ≡ with_step w p x b t c l
      after = ap (λ u. record { hasher = w.hasher; processors = w.processors; first = w.first; control_state = b; tables = t; party_records = u; trace = trace }) (d ∙ ap (λ n. slice_set w.party_records p (record { call = x.call; began_from = x.began_from; party_state = c; steps = n })) one_more)
          ∙ ap (λ u. record { hasher = w.hasher; processors = w.processors; first = w.first; control_state = b; tables = t; party_records = slice_set w.party_records p (record { call = x.call; began_from = x.began_from; party_state = c; steps = suc x.steps }); trace = u }) e

  -- the beginning of a call
  module _ (d : Call K V F) (from : Option ℕ) (origin : (v : ℕ) → from ≡ Some v → (z : Seen K V) × (seen_in (slice_get w.party_records v) ≡ Some z) × (d ≡ call.RemoveSeen z)) (c : PartyState K V F) (fresh : IsBeginning hash d c) where
    pub party_begins : (before : List (Label K V F)) → before ≡ w.trace → length before < MAX_LABELS → (parties : List (PartyRecord K V F)) → parties ≡ w.party_records → (party_records : List (PartyRecord K V F))
        → party_records ≡ parties ++ record { call = d; began_from = from; party_state = c; steps = 0 } ∷ [] → (n : ℕ) → n ≡ length w.party_records
        → (trace : List (Label K V F)) → trace ≡ before ++ label.Begin n d ∷ []
        → IsBounded cmp hash gives (record { hasher = w.hasher; processors = w.processors; first = w.first; control_state = w.control_state; tables = w.tables; party_records = party_records; trace = trace })
        × (◌≡◌ {A = WorldState K V F S} (record { hasher = w.hasher; processors = w.processors; first = w.first; control_state = w.control_state; tables = w.tables; party_records = party_records; trace = trace }) (with_party_record w d from c))
        × DoesTransition cmp hash gives w n (record { hasher = w.hasher; processors = w.processors; first = w.first; control_state = w.control_state; tables = w.tables; party_records = party_records; trace = trace })
    party_begins before is short parties are party_records put n number trace added = (
      subst (IsBounded cmp hash gives) (sym after) (record { world = begins; few = omega (arith, length-append w.trace (label.Begin (length w.party_records) d ∷ []), few) }),
      after,
      subst (DoesTransition cmp hash gives w n) (sym after) (subst (λ m. DoesTransition cmp hash gives w m (with_party_record w d from c)) (sym number) (begin_line cmp total hash (alike_class cmp hash alike) gives w k.world near d from origin c fresh.mode fresh.plain_entries fresh.unread)),
    )
      where
        few : length w.trace < MAX_LABELS
        few = subst (λ u. length u < MAX_LABELS) is short

        after : ◌≡◌ {A = WorldState K V F S} (record { hasher = w.hasher; processors = w.processors; first = w.first; control_state = w.control_state; tables = w.tables; party_records = party_records; trace = trace }) (with_party_record w d from c)
        after = ap (λ u. record { hasher = w.hasher; processors = w.processors; first = w.first; control_state = w.control_state; tables = w.tables; party_records = u; trace = trace }) (put ∙ ap (λ u. u ++ record { call = d; began_from = from; party_state = c; steps = 0 } ∷ []) are)
            ∙ ap (λ u. record { hasher = w.hasher; processors = w.processors; first = w.first; control_state = w.control_state; tables = w.tables; party_records = w.party_records ++ record { call = d; began_from = from; party_state = c; steps = 0 } ∷ []; trace = u })
            (added ∙ ap (λ u. u ++ label.Begin n d ∷ []) is ∙ ap (λ m. w.trace ++ label.Begin m d ∷ []) number)

        begins : IsWorld cmp hash gives (with_party_record w d from c)
        begins = began cmp total hash (alike_class cmp hash alike) gives w k.world near d from origin c fresh.mode fresh.plain_entries fresh.unread fresh.own_hash fresh.follows
