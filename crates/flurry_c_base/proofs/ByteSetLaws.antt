-- A finite set whose elements are vectors of bytes depends on their bytes alone.
use Rattle.std.proofs.Common.{◌≡◌, ℕ, Bool, true, false, cond, not, List, [], ◌∷◌, IsPermutation, length, map, sum_by, ap, refl, ◌∙◌, Some, None, Option, is_none, is_some, option_map, Ordering, Less, Equal, Greater, is_eq}
use Rattle.std.specs.Global.{Vec}
use Rattle.std.specs.Ordering.{match_ordering}
use Rattle.std.proofs.lemmas.List.{length-map}
use Rattle.std.proofs.lemmas.List.Sorted.{sum_by-IsPermutation, IsPermutation-map}
use Rattle.flurry_base.specs.FiniteSet.{element_at, with_element, without_element}
use Rattle.flurry_c_base.specs.ByteStrings.{byte_order, bytes_of}
use Rattle.flurry_c_base.proofs.ByteOrder.{vec_order}

-- The same at the first element, given the same at the rest: each is by a test of that element, whatever it gives.
module _ (e : Vec ℕ) (s : List (Vec ℕ)) (x : Vec ℕ) where
  element_first : element_at byte_order (map bytes_of s) x.items ≡ option_map bytes_of (element_at vec_order s x) → (b : Bool)
      → cond b (Some (bytes_of e)) (element_at byte_order (map bytes_of s) x.items) ≡ option_map bytes_of (cond b (Some e) (element_at vec_order s x))
  element_first rest true = refl
  element_first rest false = rest

  with_first : map bytes_of (with_element vec_order s x) ≡ with_element byte_order (map bytes_of s) x.items → (o : Ordering)
      → map bytes_of (match_ordering o (x ∷ e ∷ s) (e ∷ s) (e ∷ with_element vec_order s x))
      ≡ match_ordering o (x.items ∷ map bytes_of (e ∷ s)) (map bytes_of (e ∷ s)) (bytes_of e ∷ with_element byte_order (map bytes_of s) x.items)
  with_first rest Less = refl
  with_first rest Equal = refl
  with_first rest Greater = ap (λ (es : List (List ℕ)). bytes_of e ∷ es) rest

  without_first : map bytes_of (without_element vec_order s x) ≡ without_element byte_order (map bytes_of s) x.items → (b : Bool)
      → map bytes_of (cond (not b) (e ∷ without_element vec_order s x) (without_element vec_order s x))
      ≡ cond (not b) (bytes_of e ∷ without_element byte_order (map bytes_of s) x.items) (without_element byte_order (map bytes_of s) x.items)
  without_first rest true = rest
  without_first rest false = ap (λ (es : List (List ℕ)). bytes_of e ∷ es) rest

element_at_bytes : (s : List (Vec ℕ)) (x : Vec ℕ) → element_at byte_order (map bytes_of s) x.items ≡ option_map bytes_of (element_at vec_order s x)
element_at_bytes [] x = refl
element_at_bytes (e ∷ s) x = element_first e s x (element_at_bytes s x) (is_eq (vec_order x e))

is_some_mapped : (o : Option (Vec ℕ)) → is_some (option_map bytes_of o) ≡ is_some o
is_some_mapped None = refl
is_some_mapped (Some e) = refl

pub has_element_bytes : (s : List (Vec ℕ)) (x : Vec ℕ) → is_some (element_at byte_order (map bytes_of s) x.items) ≡ is_some (element_at vec_order s x)
has_element_bytes s x = ap is_some (element_at_bytes s x) ∙ is_some_mapped (element_at vec_order s x)

is_none_mapped : (o : Option (Vec ℕ)) → is_none (option_map bytes_of o) ≡ is_none o
is_none_mapped None = refl
is_none_mapped (Some e) = refl

pub lacks_element_bytes : (s : List (Vec ℕ)) (x : Vec ℕ) → is_none (element_at byte_order (map bytes_of s) x.items) ≡ is_none (element_at vec_order s x)
lacks_element_bytes s x = ap is_none (element_at_bytes s x) ∙ is_none_mapped (element_at vec_order s x)

pub with_element_bytes : (s : List (Vec ℕ)) (x : Vec ℕ) → map bytes_of (with_element vec_order s x) ≡ with_element byte_order (map bytes_of s) x.items
with_element_bytes [] x = refl
with_element_bytes (e ∷ s) x = with_first e s x (with_element_bytes s x) (vec_order x e)

pub without_element_bytes : (s : List (Vec ℕ)) (x : Vec ℕ) → map bytes_of (without_element vec_order s x) ≡ without_element byte_order (map bytes_of s) x.items
without_element_bytes [] x = refl
without_element_bytes (e ∷ s) x = without_first e s x (without_element_bytes s x) (is_eq (vec_order x e))

pub length_elements : (s : List (Vec ℕ)) → length (map bytes_of s) ≡ length s
length_elements s = length-map s bytes_of

pub size_of_elements : (m n : List (Vec ℕ)) → IsPermutation m n → sum_by length (map bytes_of n) ≡ sum_by length (map bytes_of m)
size_of_elements m n moved = sum_by-IsPermutation length (map bytes_of m) (map bytes_of n) (IsPermutation-map bytes_of m n moved)
