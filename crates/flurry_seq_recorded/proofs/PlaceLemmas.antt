-- The places of receipts: when they ascend, and how they are marked one after another.
use Rattle.std.proofs.Common.{◌≡◌, ◌≤◌, ◌<◌, ◌+◌, ◌-◌, ℕ, zero, suc, Bool, true, false, List, [], ◌∷◌, ◌++◌, get_or, length, ltb, map, take, drop, refl, sym, ap, subst, ◌∙◌, add-one, append_assoc, arith}
use Rattle.std.specs.Prelude.{All}
use Rattle.std.specs.List.Sorted.{IsStrictlyIncreasing}
use Rattle.std.proofs.Math.Seq.{take-suc}
use Rattle.std.proofs.lemmas.Bool.Decides.{Decides-ltb, not_from_Decides}
use Rattle.std.proofs.lemmas.List.{get_or-map, length-map, map-append, take-append-drop, take_all, append-nil}
use Rattle.std.proofs.lemmas.List.Elements.{All-append}
use Rattle.flurry_seq_recorded.specs.Closing.{places}
use Rattle.flurry_seq_recorded.specs.Marks.{AreMarked, AreOnce}
use Rattle.flurry_seq_recorded.specs.declared.share.Receipt.{Receipt}

module _ {K V : Type 0} where
  place_at : (rs : List (Receipt K V)) (i : ℕ) (d : Receipt K V) → i < length rs → get_or (places rs) i 0 ≡ (get_or rs i d).place
  place_at rs i d within = get_or-map (λ (r : Receipt K V). r.place) rs i d 0 within

  pub as_many_places : (rs : List (Receipt K V)) → length (places rs) ≡ length rs
  as_many_places rs = length-map rs (λ (r : Receipt K V). r.place)

  -- a place that is not above the one before it
  pub falls : (rs : List (Receipt K V)) (n : ℕ) (d e : Receipt K V) → 0 < n → n < length rs → (get_or rs n e).place ≤ (get_or rs (n - 1) d).place → ¬ IsStrictlyIncreasing (places rs)
  falls rs n d e some within less up =
      let before = place_at rs (n - 1) d (omega arith) in
      let after = place_at rs n e within in
      let rise = up (n - 1) (omega (arith, as_many_places rs)) in
      let same : n - 1 + 1 ≡ n = omega arith in
      omega (arith, before, after, subst (λ k. get_or (places rs) (n - 1) 0 < get_or (places rs) k 0) same rise)

  -- one place more, above the one before it
  pub rises : (rs : List (Receipt K V)) (n : ℕ) (d e : Receipt K V) → 0 < n → n < length rs → (get_or rs (n - 1) d).place < (get_or rs n e).place
      → ((k : ℕ) → k + 1 < n → get_or (places rs) k 0 < get_or (places rs) (k + 1) 0) → (k : ℕ) → k + 1 < n + 1 → get_or (places rs) k 0 < get_or (places rs) (k + 1) 0
  rises rs n d e some within more below k last = by_case (ltb (k + 1) n) refl
    where
      by_case : (b : Bool) → ltb (k + 1) n ≡ b → get_or (places rs) k 0 < get_or (places rs) (k + 1) 0
      by_case true is = below k ((Decides-ltb (k + 1) n).0 is)
      by_case false is =
          let none = not_from_Decides (ltb (k + 1) n) (Decides-ltb (k + 1) n) is in
          let at : k + 1 ≡ n = omega (arith, none) in
          let here : k ≡ n - 1 = omega arith in
          let before : get_or (places rs) k 0 ≡ (get_or rs (n - 1) d).place = ap (λ i. get_or (places rs) i 0) here ∙ place_at rs (n - 1) d (omega arith) in
          let after : get_or (places rs) (k + 1) 0 ≡ (get_or rs n e).place = ap (λ i. get_or (places rs) i 0) at ∙ place_at rs n e within in
          omega (arith, before, after)

-- The next of a list is x, at i.
module _ {X : Type 0} (xs : List X) (i : ℕ) (x : X) (within : i < length xs) (is : x ≡ get_or xs i x) where
  pub take_next : take (i + 1) xs ≡ take i xs ++ x ∷ []
  take_next = ap (λ n. take n xs) (add-one i) ∙ take-suc xs i x within ∙ ap (λ y. take i xs ++ y ∷ []) (sym is)

  pub parted : xs ≡ (take i xs ++ x ∷ []) ++ drop (i + 1) xs
  parted = sym (take-append-drop (i + 1) xs) ∙ ap (λ l. l ++ drop (i + 1) xs) take_next

  pub all_next : (P : X → Type 0) → All P (take i xs) → P x → All P (take (i + 1) xs)
  all_next P before here = subst (λ l. All P l) (sym take_next) (All-append P (take i xs) (x ∷ []) before one)
    where
      one : All P (x ∷ [])
      one zero e h = here
      one (suc k) e h = absurd (omega arith)

  module _ (f : X → ℕ) where
    -- numbers of which x's cannot be marked, behind others
    pub not_once_in : (n m : ℕ) (ns ys : List ℕ) → n ≡ m → ((zs : List ℕ) → ¬ AreOnce m ((ns ++ map f (take i xs)) ++ f x ∷ [] ++ zs)) → ¬ AreOnce n (ns ++ map f xs ++ ys)
    not_once_in n m ns ys same never once =
        let rest = map f (drop (i + 1) xs) in
        let whole : map f xs ≡ (map f (take i xs) ++ f x ∷ []) ++ rest =
        ap (λ l. map f l) parted ∙ map-append f (take i xs ++ x ∷ []) (drop (i + 1) xs) ∙ ap (λ l. l ++ rest) (map-append f (take i xs) (x ∷ [])) in
        let all : ns ++ map f xs ++ ys ≡ (ns ++ map f (take i xs)) ++ f x ∷ [] ++ (rest ++ ys) = ap (λ l. ns ++ l ++ ys) whole ∙ simp append_assoc in
        never (rest ++ ys) (subst (λ k. AreOnce k ((ns ++ map f (take i xs)) ++ f x ∷ [] ++ (rest ++ ys))) same (subst (λ l. AreOnce n l) all once))

    -- so with none before them
    pub not_once_here : (n m : ℕ) → n ≡ m → ((zs : List ℕ) → ¬ AreOnce m (map f (take i xs) ++ f x ∷ [] ++ zs)) → ¬ AreOnce n (map f xs)
    not_once_here n m same never once = not_once_in n m [] [] same never (subst (λ l. AreOnce n l) (sym (append-nil (map f xs))) once)

    -- x's number has its mark too
    pub marked_next : (marks : List Bool) (ns : List ℕ) → AreMarked marks ((ns ++ map f (take i xs)) ++ f x ∷ []) → AreMarked marks (ns ++ map f (take (i + 1) xs))
    marked_next marks ns marked =
        subst (λ l. AreMarked marks l)
        (append_assoc ns (map f (take i xs)) (f x ∷ []) ∙ ap (λ l. ns ++ l) (sym (ap (λ l. map f l) take_next ∙ map-append f (take i xs) (x ∷ [])))) marked

module _ {X : Type 0} where
  pub all_taken : (P : X → Type 0) (xs : List X) (i : ℕ) → length xs ≤ i → All P (take i xs) → All P xs
  all_taken P xs i past all = subst (λ l. All P l) (take_all i xs past) all

  module _ (f : X → ℕ) where
    pub all_from_map : (P : ℕ → Type 0) (xs : List X) → All P (map f xs) → All (λ x. P (f x)) xs
    all_from_map P xs all k d within = subst P (get_or-map f xs k d (f d) within) (all k (f d) (omega (arith, length-map xs f)))

    -- all have their marks
    pub marked_all : (marks : List Bool) (xs : List X) (i : ℕ) (ns : List ℕ) → length xs ≤ i → AreMarked marks (ns ++ map f (take i xs)) → AreMarked marks (ns ++ map f xs)
    marked_all marks xs i ns past marked = subst (λ l. AreMarked marks (ns ++ map f l)) (take_all i xs past) marked
