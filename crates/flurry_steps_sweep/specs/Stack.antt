-- What contracts see of a stack of a few places: its items, the newest first.
use Rattle.std.specs.Prelude.{◌≡◌, ◌⊎◌, ℕ, ◌≤◌, List, [], ◌∷◌, ◌++◌, length, Option, Some, None}
use Rattle.flurry_steps_sweep.specs.declared.stack.Twice.{Twice}

abbrev pub place_items : {T : Type 0} → Option T → List T
place_items None = []
place_items (Some x) = x ∷ []

module _ {S T : Type 0} (items : S → List T) where
  abbrev pub twice_items : Twice S → List T
  twice_items t = items t.newer ++ items t.older

  -- the older half is full before the newer one is begun, and neither has more items than places
  pub record TwiceFillsUp (places : ℕ) (FillsUp : S → Type 0) (t : Twice S) : Type 0 where
    pub older : FillsUp t.older
    pub newer : FillsUp t.newer
    pub older_few : length (items t.older) ≤ places
    pub newer_few : length (items t.newer) ≤ places
    pub first : (items t.newer ≡ []) ⊎ (length (items t.older) ≡ places)
