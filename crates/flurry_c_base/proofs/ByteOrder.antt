-- Vectors of bytes that ascend, and their bytes.
use Rattle.std.proofs.Common.{◌≡◌, ℕ, List, [], ◌∷◌, map, ap, refl, subst, Ordering, Less, nat_cmp}
use Rattle.std.specs.Cmp.Lexicographic.{slice_cmp}
use Rattle.std.specs.Global.{Vec}
use Rattle.std.specs.List.{AllByRecursion}
use Rattle.std.specs.List.Sorted.{IsStrictlySortedBy}
use Rattle.std.specs.Map.{keys_of}
use Rattle.flurry_base.specs.FiniteMap.{IsFiniteMap}
use Rattle.flurry_base.specs.FiniteSet.{IsFiniteSet}
use Rattle.flurry_c_base.specs.ByteMaps.{bytes_of_pair}
use Rattle.flurry_c_base.specs.ByteStrings.{byte_order, bytes_of}

abbrev pub vec_order : Vec ℕ → Vec ℕ → Ordering
vec_order x y = slice_cmp nat_cmp x.items y.items

above_bytes : (e : Vec ℕ) (s : List (Vec ℕ)) → AllByRecursion (λ y. vec_order e y ≡ Less) s → AllByRecursion (λ y. byte_order (bytes_of e) y ≡ Less) (map bytes_of s)
above_bytes e [] all = tt
above_bytes e (y ∷ s) all = (all.0, above_bytes e s all.1)

pub ascend_bytes : (s : List (Vec ℕ)) → IsFiniteSet vec_order s → IsFiniteSet byte_order (map bytes_of s)
unfolding IsStrictlySortedBy
ascend_bytes [] ascend = tt
ascend_bytes (e ∷ s) ascend = (above_bytes e s ascend.0, ascend_bytes s ascend.1)

keys_bytes : (m : List (Vec ℕ × Vec ℕ)) → map bytes_of (keys_of m) ≡ keys_of (map bytes_of_pair m)
keys_bytes [] = refl
keys_bytes (p ∷ m) = ap (λ (ks : List (List ℕ)). bytes_of p.0 ∷ ks) (keys_bytes m)

pub ascend_keys : (m : List (Vec ℕ × Vec ℕ)) → IsFiniteMap vec_order m → IsFiniteMap byte_order (map bytes_of_pair m)
ascend_keys m ascend = subst (IsStrictlySortedBy byte_order) (keys_bytes m) (ascend_bytes (keys_of m) ascend)
