-- A step at a slot and its halves, of what is seen as a part of another thing.
use Rattle.std.specs.Prelude.{◌≡◌}
use Rattle.std.proofs.Common.{ap, ◌∙◌, inl, inr}
use Rattle.flurry_bins_slots.specs.Slot.{SlotState}
use Rattle.flurry_steps_sweep.specs.declared.step.Event.{Event}
use Rattle.flurry_steps_sweep.specs.declared.step.Event.TheVariants as event
use Rattle.flurry_steps_stages.specs.Help.{MovesOn}

module _ {P S K V : Type 0} (on : P → P) (at : S → S) (in_it : P → S) (law : (p : P) → in_it (on p) ≡ at (in_it p)) (p : P) (q low high : SlotState K V) where
  pub moves_in : (ev : Event) (p' : P) (q' low' high' : SlotState K V) → MovesOn on p q low high ev p' q' low' high' → MovesOn at (in_it p) q low high ev (in_it p') q' low' high'
  moves_in (event.Moved e i) p' q' low' high' (x, y, z, u) = (x, y, z, ap in_it u ∙ law p)
  moves_in event.Silent p' q' low' high' (x, y, z, inl (m, u)) = (x, y, z, inl (m, ap in_it u ∙ law p))
  moves_in event.Silent p' q' low' high' (x, y, z, inr (m, u)) = (x, y, z, inr (m, ap in_it u))
  moves_in event.Decide p' q' low' high' h = absurd h
  moves_in event.Read p' q' low' high' h = absurd h
  moves_in (event.Wipe e i) p' q' low' high' h = absurd h
  moves_in event.Refused p' q' low' high' h = absurd h
  moves_in (event.Opened e) p' q' low' high' h = absurd h
  moves_in (event.Placed e) p' q' low' high' h = absurd h
  moves_in (event.Published e) p' q' low' high' h = absurd h
