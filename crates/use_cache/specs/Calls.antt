-- What a list of calls on a cache may reply.
use Rattle.std.specs.Prelude.{◌≡◌, ℕ, List, [], ◌∷◌, Option, Some, nat_eq}
use Rattle.std.specs.Map.{update}
use Rattle.use_cache.specs.Cache.{IsLastOrNone}
use Rattle.use_cache.specs.declared.cache.Call.{Call}
use Rattle.use_cache.specs.declared.cache.Call.TheVariants.{Put, Get}

-- where last says what was put last under each key: each look-up gives nothing, or that
abbrev pub AreLawful : (ℕ → Option ℕ) → List Call → List (Option ℕ) → Type 0
AreLawful last [] rs = rs ≡ []
AreLawful last (Put k v ∷ cs) rs = AreLawful (update nat_eq last k (Some v)) cs rs
AreLawful last (Get k ∷ cs) [] = ⊥
AreLawful last (Get k ∷ cs) (r ∷ rs) = IsLastOrNone (last k) r × AreLawful last cs rs
