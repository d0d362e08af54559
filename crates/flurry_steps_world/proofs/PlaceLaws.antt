-- What a place of tables is after a table was asked for there.
use Rattle.std.specs.Prelude.{ℕ, Bool, true, false, List, [], ◌∷◌, Option, ◌≡◌}
use Rattle.std.proofs.Common.{refl, ap}
use Rattle.flurry_bins_slots.specs.Slot.{Live, Content, IsLive, HasMoved, IsUnborn, SlotState}
use Rattle.flurry_steps_world.specs.Tables.{Tables, slots_of, is_made, MadeGives, PlaceGives}

module _ {K V : Type 0} where
  -- a table that was not made has no slots
  pub unmade_empty : (s : List (SlotState K V)) → is_made s ≡ false → s ≡ []
  unmade_empty [] h = refl
  unmade_empty (q ∷ s) h = cc

  -- a table that is refused leaves the tables
  pub refused_place : (t : Tables K V) (e : ℕ) (g : Option ℕ) (t' : Tables K V) → PlaceGives t e g false t' → t' ≡ t
  refused_place t e g t' h = by_made (is_made (slots_of t e)) h
    where
      by_made : (b : Bool) → MadeGives b t e g false t' → t' ≡ t
      by_made true h = cc
      by_made false h = h

  -- equal contents hold equal bins
  pub same_live : {a b : Live K V} → IsLive a ≡ IsLive b → a ≡ b
  same_live {a} h = ap live_or h
    where
      live_or : Content K V → Live K V
      live_or (IsLive z) = z
      live_or HasMoved = a
      live_or IsUnborn = a
