-- A finite map whose keys are vectors of bytes depends on their bytes alone.
use Rattle.std.proofs.Common.{◌≡◌, ℕ, Bool, true, false, cond, List, [], ◌∷◌, length, map, ap, refl, sym, subst, ◌∙◌, Some, None, Option, MatchOption, option_map, Ordering, Less, Equal, Greater, is_eq}
use Rattle.std.proofs.lemmas.List.{length-map}
use Rattle.std.specs.Global.{Vec}
use Rattle.std.specs.Ordering.{match_ordering}
use Rattle.flurry_base.specs.FiniteMap.{pair_at, value_at, with_pair, without}
use Rattle.flurry_seq.specs.Contents.{Contents}
use Rattle.flurry_c_base.specs.ByteMaps.{bytes_of_pair, KeepsOrAdds}
use Rattle.flurry_c_base.specs.ByteStrings.{byte_order}
use Rattle.flurry_c_base.proofs.ByteOrder.{vec_order}

-- The same at the first pair, given the same at the rest: each is by a test of the first key, whatever it gives.
module _ (p : Vec ℕ × Vec ℕ) (m : List (Vec ℕ × Vec ℕ)) (k v : Vec ℕ) where
  value_first : value_at byte_order (map bytes_of_pair m) k.items ≡ option_map (λ (v : Vec ℕ). v.items) (value_at vec_order m k) → (b : Bool)
      → option_map (λ (q : List ℕ × List ℕ). q.1) (cond b (Some (bytes_of_pair p)) (pair_at byte_order (map bytes_of_pair m) k.items))
      ≡ option_map (λ (v : Vec ℕ). v.items) (option_map (λ (q : Vec ℕ × Vec ℕ). q.1) (cond b (Some p) (pair_at vec_order m k)))
  value_first rest true = refl
  value_first rest false = rest

  pair_first : map bytes_of_pair (with_pair vec_order m k v) ≡ with_pair byte_order (map bytes_of_pair m) k.items v.items → (o : Ordering)
      → map bytes_of_pair (match_ordering o ((k, v) ∷ p ∷ m) ((p.0, v) ∷ m) (p ∷ with_pair vec_order m k v))
      ≡ match_ordering o ((k.items, v.items) ∷ map bytes_of_pair (p ∷ m)) ((p.0.items, v.items) ∷ map bytes_of_pair m) (bytes_of_pair p ∷ with_pair byte_order (map bytes_of_pair m) k.items v.items)
  pair_first rest Less = refl
  pair_first rest Equal = refl
  pair_first rest Greater = ap (λ (ps : List (List ℕ × List ℕ)). bytes_of_pair p ∷ ps) rest

  without_first : map bytes_of_pair (without vec_order m k) ≡ without byte_order (map bytes_of_pair m) k.items → (b : Bool)
      → map bytes_of_pair (cond b m (p ∷ without vec_order m k)) ≡ cond b (map bytes_of_pair m) (bytes_of_pair p ∷ without byte_order (map bytes_of_pair m) k.items)
  without_first rest true = refl
  without_first rest false = ap (λ (ps : List (List ℕ × List ℕ)). bytes_of_pair p ∷ ps) rest

pub value_at_bytes : (m : List (Vec ℕ × Vec ℕ)) (k : Vec ℕ) → value_at byte_order (map bytes_of_pair m) k.items ≡ option_map (λ (v : Vec ℕ). v.items) (value_at vec_order m k)
value_at_bytes [] k = refl
value_at_bytes (p ∷ m) k = value_first p m k k (value_at_bytes m k) (is_eq (vec_order k p.0))

pub with_pair_bytes : (m : List (Vec ℕ × Vec ℕ)) (k v : Vec ℕ) → map bytes_of_pair (with_pair vec_order m k v) ≡ with_pair byte_order (map bytes_of_pair m) k.items v.items
with_pair_bytes [] k v = refl
with_pair_bytes (p ∷ m) k v = pair_first p m k v (with_pair_bytes m k v) (vec_order k p.0)

pub without_bytes : (m : List (Vec ℕ × Vec ℕ)) (k : Vec ℕ) → map bytes_of_pair (without vec_order m k) ≡ without byte_order (map bytes_of_pair m) k.items
without_bytes [] k = refl
without_bytes (p ∷ m) k = without_first p m k k (without_bytes m k) (is_eq (vec_order k p.0))

pub length_bytes : (m : List (Vec ℕ × Vec ℕ)) → length (map bytes_of_pair m) ≡ length m
length_bytes m = length-map m bytes_of_pair

-- what an insertion that wants a new key did, told of the bytes
module _ {S : Type 0} (old new : Contents (Vec ℕ) (Vec ℕ) S) (k v : Vec ℕ) where
  abbrev Did : Type 0 → (Vec ℕ → Type 0) → Option (Vec ℕ) → Type 0
  Did P Q value = MatchOption value (P × (new.pairs ≡ with_pair vec_order old.pairs k v)) (λ current. Q current × (new ≡ old))

  abbrev Told : Option (List ℕ) → Type 0
  Told value = MatchOption value (map bytes_of_pair new.pairs ≡ with_pair byte_order (map bytes_of_pair old.pairs) k.items v.items)
      (λ _. map bytes_of_pair new.pairs ≡ map bytes_of_pair old.pairs)

  told : (P : Type 0) (Q : Vec ℕ → Type 0) (value : Option (Vec ℕ)) → Did P Q value → Told (option_map (λ (v : Vec ℕ). v.items) value)
  told P Q None did = ap (map bytes_of_pair) did.1 ∙ with_pair_bytes old.pairs k v
  told P Q (Some current) did = ap (λ (m : Contents (Vec ℕ) (Vec ℕ) S). map bytes_of_pair m.pairs) did.1

  pub keeps_or_adds : (P : Type 0) (Q : Vec ℕ → Type 0) → Did P Q (value_at vec_order old.pairs k)
      → KeepsOrAdds (map bytes_of_pair old.pairs) k.items v.items (map bytes_of_pair new.pairs)
  keeps_or_adds P Q did = subst Told (sym (value_at_bytes old.pairs k)) (told P Q (value_at vec_order old.pairs k) did)
