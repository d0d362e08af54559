-- How many pairs maps have that are made of pieces of a list, and the room that they need.
use Rattle.std.proofs.Common.{◌≡◌, ℕ, ◌+◌, ◌≤◌, List, [], ◌∷◌, ◌++◌, length, map, flat_map, Result, Ok, is_some, inl, inr, subst, Ordering, arith}
use Rattle.std.specs.Cmp.{IsTotalOrder}
use Rattle.std.specs.List.{AllZip}
use Rattle.std.proofs.lemmas.List.{length-append}
use Rattle.flurry_base.specs.FiniteMap.{IsFiniteMap, pair_at, with_pair, with_all}
use Rattle.flurry_base.proofs.FiniteMapLaws.{IsFiniteMap-nil, IsFiniteMap-with_pair, length-with_pair}
use Rattle.flurry_seq.specs.Growth.{HasRoom}
use Rattle.flurry_seq.proofs.RoomLaws.{one_more}

-- room for more is room for fewer
pub room_fewer : (n all few : ℕ) → few ≤ all → HasRoom n all → HasRoom n few
room_fewer n all few le (inl none) = inl (omega arith)
room_fewer n all few le (inr (pos, inl less)) = inr (pos, inl (omega arith))
room_fewer n all few le (inr (pos, inr most)) = inr (pos, inr most)

module _ {K V : Type 0} {cmp : K → K → Ordering} (o : IsTotalOrder cmp) where
  pub few-with_all : (m ps : List (K × V)) → IsFiniteMap cmp m → length (with_all cmp m ps) ≤ length m + length ps
  few-with_all m [] s = omega arith
  few-with_all m (p ∷ ps) s =
      let next = with_pair cmp m p.0 p.1 in
      let one = one_more (is_some (pair_at cmp m p.0)) (length m) (length next) (length-with_pair o m p.0 p.1 s) in
      let rest = few-with_all next ps (IsFiniteMap-with_pair o m p.0 p.1 s) in
      omega (arith, one.1, rest)

module _ {M X : Type 0} (f : M → List X) where
  -- the parts before one, it, and the parts after it
  pub length-around : (xs : List M) (x : M) (ys : List M) → length (flat_map f (xs ++ x ∷ ys)) ≡ length (flat_map f xs) + (length (f x) + length (flat_map f ys))
  length-around [] x ys = let all = length-append (f x) (flat_map f ys) in omega (arith, all)
  length-around (z ∷ xs) x ys =
      let rest = length-around xs x ys in
      let all = length-append (f z) (flat_map f (xs ++ x ∷ ys)) in
      let front = length-append (f z) (flat_map f xs) in
      omega (arith, rest, all, front)

  pub length-pushed : (xs : List M) (x : M) → length (flat_map f (xs ++ x ∷ [])) ≡ length (flat_map f xs) + length (f x)
  length-pushed xs x = let all = length-around xs x [] in omega (arith, all)

module _ {K V P M E : Type 0} {cmp : K → K → Ordering} (o : IsTotalOrder cmp) (items : P → List (K × V)) (pairs : M → List (K × V)) (R : P → Result M E → Type 0) (made : (p : P) (m : M) → R p (Ok m) → pairs m ≡ with_all cmp [] (items p)) where
  few_each : (ps : List P) (ms : List M) → AllZip R ps (map Ok ms) → length (flat_map pairs ms) ≤ length (flat_map items ps)
  few_each [] [] zip = omega arith
  few_each [] (m ∷ ms) zip = absurd zip
  few_each (p ∷ ps) [] zip = absurd zip
  few_each (p ∷ ps) (m ∷ ms) zip =
      let here : length (pairs m) ≤ length (items p) = rw (made p m zip.0) (let few = few-with_all o [] (items p) (IsFiniteMap-nil V cmp) in omega (arith, few)) in
      let rest = few_each ps ms zip.1 in
      let left = length-append (pairs m) (flat_map pairs ms) in
      let right = length-append (items p) (flat_map items ps) in
      omega (arith, here, rest, left, right)

  -- the maps of the pieces of a list have no more pairs than the list
  pub few_built : (ps : List P) (rs : List (Result M E)) (ms : List M) → rs ≡ map Ok ms → AllZip R ps rs → length (flat_map pairs ms) ≤ length (flat_map items ps)
  few_built ps rs ms is zip = few_each ps ms (subst (AllZip R ps) is zip)
