-- Parts that hold a map, and calls before their first step.
use Rattle.flurry_base.specs.OneKey.{hash_of_call}
use Rattle.flurry_base.specs.declared.verdict.Verdict.{Verdict}
use Rattle.std.specs.Prelude.{◌≡◌, ℕ, [], Option, None}
use Rattle.std.specs.Cmp.{IsTotalOrder}
use Rattle.std.specs.declared.cmp.Ordering.{Ordering}
use Rattle.std.specs.declared.cmp.Ordering.TheVariants.{Equal}
use Rattle.std.proofs.Common.{arith, refl, ◌∙◌, ap}
use Rattle.std.proofs.lemmas.Int.{ints}
use Rattle.flurry_steps_stages.specs.Stage.{stage_of_call}
use Rattle.flurry_steps.specs.Party.{PartyState}
use Rattle.flurry_steps_stages.specs.CallView.{plain_of_owned}
use Rattle.flurry_steps_stages.specs.declared.call.OwnedCall.{OwnedCall}
use Rattle.flurry_steps_theory.specs.Trace.{pairs}
use Rattle.flurry_steps_world.specs.Parts.{OwnLends, OwnLacks, no_parts}
use Rattle.flurry_steps_world.specs.Steps.{fresh_world}
use Rattle.flurry_steps_world.specs.Tables.{PlaceGives, no_tables}
use Rattle.flurry_steps_world.specs.World.{WorldState, Near, IsWorld, history}
use Rattle.flurry_steps_world.proofs.BeginLaws.{own_hash}
use Rattle.flurry_steps_world.proofs.NewLaws.{new_without}
use Rattle.flurry_steps_world.proofs.WorldSteps.{alike_class}
use Rattle.flurry_steps_drive.specs.Exact.{Holds, IsFresh}
use Rattle.flurry_steps_drive.specs.IsExclusive.{IsExclusive}

-- who is alone with the parts is told them
pub own_tells : {K V : Type 0} → IsExclusive {K = K} {V = V} (λ s. s) (λ r. r) PlaceGives OwnLends OwnLacks
own_tells = record { places = λ r e growth ok r' h. h; lends_own = λ s l s' h. h.1; lacks_only = λ s p h. h }

module _ {K V F : Type 0} (cmp : K → K → Ordering) (hash : K → ℕ) (changes : F → K → Option V → Verdict V → Type 0) where
  -- a call that has its key, before its first step
  pub fresh : (c : OwnedCall K V F) (i n : ℕ) (p : PartyState K V F) → p ≡ record { hash = i; processors = n; helped = None; stage = stage_of_call (plain_of_owned c) } → i ≡ hash_of_call hash (plain_of_owned c) → IsFresh cmp hash changes (plain_of_owned c) p
  fresh c i n p is hashed = record { stage = ap (λ z. z.stage) is; hash_is = λ k h. ap (λ z. z.hash) is ∙ hashed ∙ own_hash hash c k h }

  -- the parts of a world hold its map
  pub holds_world : {S : Type 0} (w : WorldState K V F S) (n : ℕ) → IsWorld cmp hash changes w → Near n w.control_state.count → Holds cmp hash changes n (record { control_state = w.control_state; tables = w.tables }) (pairs cmp hash (history w))
  holds_world w n k near = record {
    world = record { hasher = tt; processors = w.processors; first = w.first; control_state = w.control_state; tables = w.tables; party_records = w.party_records; trace = w.trace };
    is_world = record { state = k.state; party_records = k.party_records; hashed = k.hashed; control_state = k.control_state; tables = k.tables; no_table = k.no_table; next = k.next; running = k.running; over = k.over };
    control_state = refl;
    tables = refl;
    map = refl;
    near = near;
  }

  -- and no parts hold nothing
  pub holds_nothing : IsTotalOrder cmp → ((j k : K) → cmp j k ≡ Equal → hash j ≡ hash k) → Holds {V = V} {F = F} cmp hash changes 0 no_parts []
  holds_nothing total alike = holds_world (fresh_world (tt {0}) 1 None no_tables) 0 (new_without cmp total hash (alike_class cmp hash alike) changes (tt {0}) 1) (record { most = omega (arith, ints); least = omega (arith, ints) })
