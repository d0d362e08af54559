-- The answers that the calls of a shared set return, as answers of calls of the map below it.
use Rattle.std.specs.Prelude.{◌≡◌, ◌⊎◌, Bool, true, false, Option, Some, None}
use Rattle.std.specs.Borrow.{Bor}
use Rattle.std.specs.Option.{option_map}
use Rattle.std.specs.Arc.{arc_value}
use Rattle.std.specs.declared.sync.Arc.{Arc}
use Rattle.flurry_base.specs.declared.call.Seen.{Seen}
use Rattle.flurry_base.specs.declared.reply.KeptReply.TheVariants.{Value, Pair, New, Exists}
use Rattle.flurry_steps_sweep.specs.Outcome.{Outcome, OutcomeReply}

module _ {T A : Type 0} where
  -- a stored element, or that there is none
  abbrev pub element_answer : Option (Arc T A) → Outcome T (Unit {0})
  element_answer e = OutcomeReply (Pair (option_map (λ (x : Arc T A). (arc_value x, tt)) e))

module _ {T : Type 0} where
  -- whether an element was removed
  abbrev pub removed_answer : Bool → Outcome T (Unit {0})
  removed_answer true = OutcomeReply (Value (Some tt))
  removed_answer false = OutcomeReply (Value None)

  -- whether an element is new
  abbrev pub inserted_answer : Bool → Outcome T (Unit {0})
  inserted_answer true = OutcomeReply (New tt)
  inserted_answer false = OutcomeReply (Exists tt tt)

-- a call of a function of elements, which returned this
abbrev pub SaysOfElement : {F T : Type 0} → (F → Bor T → Bool → F → Type 0) → Bool → F → Seen T (Unit {0}) → F → Type 0
SaysOfElement {T = T} step answer f x g = (e : Bor T) × (e.now ≡ x.key) × step f e answer g

-- the function returned true, or what was read was removed
abbrev pub KeepsOrRemovesElement : {F T : Type 0} → (F → Bor T → Bool → F → Type 0) → (Seen T (Unit {0}) → Type 0) → F → Seen T (Unit {0}) → F → Type 0
KeepsOrRemovesElement step removes f x g = SaysOfElement step true f x g ⊎ (SaysOfElement step false f x g × removes x)
