-- The pairs of bins in their order, and fronts of what is put.
use Rattle.std.proofs.Common.{◌≡◌, List, [], ◌∷◌, ◌++◌, refl, sym, ap, ◌∙◌, append_assoc}
use Rattle.std.proofs.lemmas.List.{append-nil}
use Rattle.flurry_bins.specs.Bin.{entries_of_bin}
use Rattle.flurry_bins.specs.declared.bin.adaptive.Bin.{Bin}
use Rattle.flurry_seq_par.specs.Joins.{pairs_in, pairs_of_bins}

-- the pairs of bins, and of those that come after them
module _ {K V A : Type 0} {o : _} {e : _} {p : _} where
  pub pairs_of_bins-append : (xs ys : List (Bin K V A o e p)) → pairs_of_bins (xs ++ ys) ≡ pairs_of_bins xs ++ pairs_of_bins ys
  pairs_of_bins-append [] ys = refl
  pairs_of_bins-append (x ∷ xs) ys =
      ap (λ l. pairs_in (entries_of_bin x) ++ l) (pairs_of_bins-append xs ys) ∙ sym (append_assoc (pairs_in (entries_of_bin x)) (pairs_of_bins xs) (pairs_of_bins ys))

  pub pairs_of_bins-push : (xs : List (Bin K V A o e p)) (x : Bin K V A o e p) → pairs_of_bins (xs ++ x ∷ []) ≡ pairs_of_bins xs ++ pairs_in (entries_of_bin x)
  pairs_of_bins-push xs x = pairs_of_bins-append xs (x ∷ []) ∙ ap (λ l. pairs_of_bins xs ++ l) (append-nil (pairs_in (entries_of_bin x)))

-- where things are put one after another, to put a front of some that come after others is to put a front of all
module _ {X M : Type 0} (put : M → List X → M) (puts-append : (m : M) (xs ys : List X) → put m (xs ++ ys) ≡ put (put m xs) ys) where
  abbrev pub PutsFront : M → List X → M → Type 0
  PutsFront old all new = (front rest : List X) × (all ≡ front ++ rest) × (new ≡ put old front)

  pub front_later : (old mid new : M) (all before here after : List X) → all ≡ before ++ (here ++ after) → mid ≡ put old before → PutsFront mid here new → PutsFront old all new
  front_later old mid new all before here after is at h = (
    before ++ h.0,
    h.1 ++ after,
    is ∙ ap (λ l. before ++ (l ++ after)) h.2 ∙ ap (λ l. before ++ l) (append_assoc h.0 h.1 after) ∙ sym (append_assoc before h.0 (h.1 ++ after)),
    h.3 ∙ ap (λ m. put m h.0) at ∙ sym (puts-append old before h.0),
  )
