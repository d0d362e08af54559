-- What lawful replies to the calls that are left say of all calls.
use Rattle.std.proofs.Common.{suc, ◌+◌, ◌<◌, length, get_or, drop, drop-cons, add-one, ◌≡◌, ◌≢◌, ◌⊎◌, ℕ, List, [], ◌∷◌, ◌++◌, Option, Some, None, inl, inr, ap, sym, refl, ◌∙◌, append_assoc, append-nil, subst}
use Rattle.std.specs.Prelude.{nat_eq}
use Rattle.std.specs.Ordering.{nat_cmp}
use Rattle.std.specs.Map.{update}
use Rattle.std.proofs.lemmas.Bool.{cases_eq}
use Rattle.std.proofs.lemmas.Map.{update_here, update_apart}
use Rattle.flurry.specs.FiniteMap.{value_at}
use Rattle.use_cache.specs.Cache.{IsLastOrNone}
use Rattle.use_cache.specs.Calls.{AreLawful}
use Rattle.use_cache.specs.declared.cache.Call.{Call}
use Rattle.use_cache.specs.declared.cache.Call.TheVariants.{Put, Get}

keeps_more : (x y z : Option ℕ) → IsLastOrNone x y → IsLastOrNone y z → IsLastOrNone x z
keeps_more x y z (inl e) (inl f) = inl (f ∙ e)
keeps_more x y z (inl e) (inr f) = inr f
keeps_more x y z (inr e) (inl f) = inr (f ∙ e)
keeps_more x y z (inr e) (inr f) = inr f

-- after the replies rs to the calls before those left: what was put last bounds what the cache m knows, and lawful replies to the
-- calls that are left make lawful replies to all
pub record Follows (all left : List Call) (m : List (ℕ × ℕ)) (rs : List (Option ℕ)) : Type 0 where
  pub last : ℕ → Option ℕ
  pub known : (q : ℕ) → IsLastOrNone (last q) (value_at nat_cmp m q)
  pub told : (more : List (Option ℕ)) → AreLawful last left more → AreLawful (λ _. None) all (rs ++ more)

pub follows_at_first : (all : List Call) → Follows all all [] []
follows_at_first all = record { last = λ _. None; known = λ q. inl refl; told = λ more h. h }

pub follows_put : (all left : List Call) (k v : ℕ) (m n : List (ℕ × ℕ)) (rs : List (Option ℕ)) → Follows all (Put k v ∷ left) m rs → value_at nat_cmp n k ≡ Some v
    → ((q : ℕ) → q ≢ k → IsLastOrNone (value_at nat_cmp m q) (value_at nat_cmp n q)) → Follows all left n rs
follows_put all left k v m n rs f put others = record {
  last = update nat_eq f.last k (Some v);
  known = λ q. by_case q (cases_eq q k);
  told = f.told;
}
  where
    by_case : (q : ℕ) → (q ≡ k) ⊎ (q ≡ k → ⊥) → IsLastOrNone (update nat_eq f.last k (Some v) q) (value_at nat_cmp n q)
    by_case q (inl e) = rw e (inl (put ∙ sym (update_here f.last k (Some v))))
    by_case q (inr ne) = rw (update_apart f.last k (Some v) q ne) (keeps_more _ _ _ (f.known q) (others q ne))

pub follows_get : (all left : List Call) (k : ℕ) (m : List (ℕ × ℕ)) (rs : List (Option ℕ)) → Follows all (Get k ∷ left) m rs → Follows all left m (rs ++ value_at nat_cmp m k ∷ [])
follows_get all left k m rs f = record {
  last = f.last;
  known = f.known;
  told = λ more h. rw append_assoc (f.told (value_at nat_cmp m k ∷ more) (f.known k, h));
}

pub follows_at_last : (all : List Call) (m : List (ℕ × ℕ)) (rs : List (Option ℕ)) → Follows all [] m rs → AreLawful (λ _. None) all rs
follows_at_last all m rs f = subst (AreLawful (λ _. None) all) (append-nil rs) (f.told [] refl)

-- the call at i is the first that is left
pub left_at : (calls : List Call) (i : ℕ) (d x : Call) → i < length calls → get_or calls i d ≡ x → drop i calls ≡ x ∷ drop (i + 1) calls
left_at calls i d x h e = rw add-one (drop-cons calls i d h ∙ ap (λ (y : Call). y ∷ drop (suc i) calls) e)
