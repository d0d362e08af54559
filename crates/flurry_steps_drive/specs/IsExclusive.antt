-- Exclusive fields.
use Rattle.std.specs.Prelude.{◌≡◌, ◌⊎◌, ℕ, Bool, true, Option}
use Rattle.std.specs.declared.cmp.Ordering.{Ordering}
use Rattle.flurry_steps.specs.Field.{Loan}
use Rattle.flurry_steps_sweep.specs.Part.{Part}
use Rattle.flurry_steps_stages.specs.Stage.{is_locating, published_stage}
use Rattle.flurry_steps.specs.Party.{PartyState, wanted_part, with_stage}
use Rattle.flurry_steps_sweep.specs.declared.step.Event.{Event}
use Rattle.flurry_steps_sweep.specs.declared.step.Event.TheVariants as event
use Rattle.flurry_steps_world.specs.Parts.{Parts, IsPublishedTable, IsOwn, IsThere, PartStep}
use Rattle.flurry_steps_world.specs.Tables.{Tables, PlaceGives}
use Rattle.flurry_base.specs.declared.verdict.Verdict.{Verdict}

module _ {K V : Type 0} where
  module _ {F : Type 0} (cmp : K → K → Ordering) (changes : F → K → Option V → Verdict V → Type 0) where
    -- a call that only asks for the published table goes on at a table where a call may begin
    pub record PublishedTableStep (c : PartyState K V F) (s : Parts K V) (ev : Event) (c' : PartyState K V F) (s' : Parts K V) : Type 0 where
      pub table : ℕ
      pub start : IsPublishedTable s table
      pub asks : is_locating c.stage ≡ true
      pub silent : ev ≡ event.Silent
      pub party_state : c' ≡ with_stage c (published_stage table c.stage)
      pub parts : s' ≡ s

    -- one step of the call c over the parts s: at the part that it wants, where every other part stays, or at a table where it may begin
    abbrev pub StepsIn : PartyState K V F → Parts K V → Event → PartyState K V F → Parts K V → Type 0
    StepsIn c s ev c' s' = PartStep cmp changes (wanted_part c) c s.control_state s.tables ev c' s'.control_state s'.tables ⊎ PublishedTableStep c s ev c' s'

  -- A field whose parts, and a room whose tables, are these: what the field lends is its own, and what it lacks is not there. Nobody
  -- else changes them, since the parts before a loan are those that the loan before it left.
  pub record IsExclusive {S R : Type 0} (parts : S → Parts K V) (room : R → Tables K V) (place : R → ℕ → Option ℕ → Bool → R → Type 0) (lends : S → Loan K V R → S → Type 0) (lacks : S → Part → Type 0) : Type 0 where
    pub places : (r : R) (e : ℕ) (growth : Option ℕ) (ok : Bool) (r' : R) → place r e growth ok r' → PlaceGives (room r) e growth ok (room r')
    pub lends_own : (s : S) (l : Loan K V R) (s' : S) → lends s l s' → IsOwn room (parts s) l (parts s')
    pub lacks_only : (s : S) (p : Part) → lacks s p → IsThere (parts s).tables p → ⊥
