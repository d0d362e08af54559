-- What is found by the bytes of a slice is found by the vector that they stand for.
use Rattle.std.proofs.Common.{◌≡◌, ℕ, List, ◌^◌, ◌<◌, length, map, ap, refl, sym, ◌∙◌, is_some, option_map}
use Rattle.std.specs.Global.{Vec}
use Rattle.std.proofs.lemmas.Bool.{lt-ltb}
use Rattle.flurry_base.specs.FiniteMap.{value_at, without}
use Rattle.flurry_base.specs.FiniteSet.{element_at, without_element}
use Rattle.flurry_c_base.specs.ByteMaps.{bytes_of_pair}
use Rattle.flurry_c_base.specs.ByteStrings.{byte_order, bytes_of}
use Rattle.flurry_c_base.specs.ByteQuery.{slice_bytes, vec_of}
use Rattle.flurry_c_base.proofs.ByteLaws.{value_at_bytes, without_bytes}
use Rattle.flurry_c_base.proofs.ByteOrder.{vec_order}
use Rattle.flurry_c_base.proofs.ByteSetLaws.{has_element_bytes, without_element_bytes}

bytes_of_slice : (bs : List ℕ) → length bs < 2 ^ 63 → bs ≡ slice_bytes bs
bytes_of_slice bs small = sym (rw (lt-ltb _ _ small) refl)

module _ (m : List (Vec ℕ × Vec ℕ)) (bs : List ℕ) (small : length bs < 2 ^ 63) where
  pub value_by_bytes : value_at byte_order (map bytes_of_pair m) bs ≡ option_map bytes_of (value_at vec_order m (vec_of bs))
  value_by_bytes = ap (value_at byte_order (map bytes_of_pair m)) (bytes_of_slice bs small) ∙ value_at_bytes m (vec_of bs)

  pub without_by_bytes : map bytes_of_pair (without vec_order m (vec_of bs)) ≡ without byte_order (map bytes_of_pair m) bs
  without_by_bytes = without_bytes m (vec_of bs) ∙ sym (ap (without byte_order (map bytes_of_pair m)) (bytes_of_slice bs small))

module _ (s : List (Vec ℕ)) (bs : List ℕ) (small : length bs < 2 ^ 63) where
  pub element_by_bytes : is_some (element_at byte_order (map bytes_of s) bs) ≡ is_some (element_at vec_order s (vec_of bs))
  element_by_bytes = ap (λ (x : List ℕ). is_some (element_at byte_order (map bytes_of s) x)) (bytes_of_slice bs small) ∙ has_element_bytes s (vec_of bs)

  pub without_element_by_bytes : map bytes_of (without_element vec_order s (vec_of bs)) ≡ without_element byte_order (map bytes_of s) bs
  without_element_by_bytes = without_element_bytes s (vec_of bs) ∙ sym (ap (without_element byte_order (map bytes_of s)) (bytes_of_slice bs small))
