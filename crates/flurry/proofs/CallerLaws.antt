-- What a caller of a map or a set says of its pairs or elements after a call.
use Rattle.std.proofs.Common.{◌≡◌, ◌≢◌, ◌⊎◌, not, inl, inr, ◌≤◌, ◌+◌, ◌-◌, ℕ, Bool, true, false, cond, List, [], ◌∷◌, length, map, Option, Some, None, IsSome, is_some, ap, sym, subst, ◌∙◌, refl, Ordering, String, string_bytes, Less, Equal, Greater, arith}
use Rattle.std.specs.String.{string_cmp, string_cmp_total}
use Rattle.std.specs.Cmp.Lexicographic.{bytes_decides}
use Rattle.std.proofs.lemmas.Map.Text.{is_eq-slice_cmp}
use Rattle.std.specs.Ordering.{is_eq, nat_cmp}
use Rattle.std.specs.Cmp.{IsTotalOrder, tied_itself}
use Rattle.std.specs.Option.{option_map}
use Rattle.std.proofs.lemmas.Cmp.{nat_cmp_total}
use Rattle.std.proofs.lemmas.List.{length-map}
use Rattle.std.proofs.lemmas.Map.Lookups.{exact_unsigned}
use Rattle.std.specs.BTreeMap.{is_at}
use Rattle.std.specs.List.{find}
use Rattle.std.specs.Map.{keys_of, lookup}
use Rattle.flurry_base.specs.FiniteMap.{IsFiniteMap, pair_at, value_at, with_pair, without, stored_key}
use Rattle.flurry_base.specs.FiniteSet.{IsFiniteSet, element_at, with_element, without_element}
use Rattle.flurry_base.proofs.BinSizeLaws.{filter_no_longer}
use Rattle.flurry_seq_set.proofs.SetLaws.{length-with_element, has_element-keys, with_element-keys, with_element_present, without_element-keys, same_class}
use Rattle.flurry_base.proofs.FiniteMapLaws.{alike_cond, both_alike, pair_at-without, found_in, length-without, length-with_pair, pair_at-with_pair}

eq_of : (r : Ordering) → is_eq r ≡ true → r ≡ Equal
eq_of Less e = cc
eq_of Equal e = refl
eq_of Greater e = cc

-- different numbers are of different classes
differs : (q x : ℕ) → q ≢ x → is_eq (nat_cmp q x) ≡ false
differs q x ne = by_test (is_eq (nat_cmp q x)) refl
  where
    by_test : (b : Bool) → is_eq (nat_cmp q x) ≡ b → b ≡ false
    by_test true e = absurd (ne (exact_unsigned q x (eq_of _ e)))
    by_test false e = refl

-- texts of one class have the same bytes
same_bytes : {Y : Type 0} (q k : String Y) → is_eq (string_cmp q k) ≡ true → string_bytes q ≡ string_bytes k
same_bytes q k e = (bytes_decides (string_bytes q) (string_bytes k)).0 (sym (is_eq-slice_cmp (string_bytes q) (string_bytes k)) ∙ e)

-- texts of other bytes are of different classes
differs_text : {Y : Type 0} (q k : String Y) → string_bytes q ≢ string_bytes k → is_eq (string_cmp q k) ≡ false
differs_text q k ne = by_test (is_eq (string_cmp q k)) refl
  where
    by_test : (b : Bool) → is_eq (string_cmp q k) ≡ b → b ≡ false
    by_test true e = absurd (ne (same_bytes q k e))
    by_test false e = refl

module _ {K V : Type 0} (cmp : K → K → Ordering) where
  -- the value at a key is what std's look-up finds, so that std's lemmas speak of it
  pub value_at-lookup : (m : List (K × V)) (q : K) → value_at cmp m q ≡ lookup (is_at (cmp q)) m
  value_at-lookup [] q = refl
  value_at-lookup (e ∷ m) q = by_test (is_eq (cmp q e.0)) (pair_at cmp m q) (value_at-lookup m q)
    where
      by_test : (b : Bool) (x : Option (K × V)) {y : Option V} → option_map (λ (p : K × V). p.1) x ≡ y → option_map (λ (p : K × V). p.1) (cond b (Some e) x) ≡ cond b (Some e.1) y
      by_test true x h = refl
      by_test false x h = h

module _ {K V : Type 0} {cmp : K → K → Ordering} (o : IsTotalOrder cmp) where
  value_of : Option (K × V) → Option V
  value_of x = option_map (λ (p : K × V). p.1) x

  first : (b : Bool) (k : K) (v : V) (x : Option (K × V)) → option_map (λ (p : K × V). p.1) (cond b (Some (k, v)) x) ≡ cond b (Some v) (option_map (λ (p : K × V). p.1) x)
  first true k v x = refl
  first false k v x = refl

  in_place : (b c : Bool) (k : K) (v : V) (e : K × V) (x : Option (K × V)) → b ≡ c
      → option_map (λ (p : K × V). p.1) (cond c (Some (k, v)) x) ≡ cond b (Some v) (option_map (λ (p : K × V). p.1) (cond c (Some e) x))
  in_place true true k v e x h = refl
  in_place true false k v e x h = cc
  in_place false true k v e x h = cc
  in_place false false k v e x h = refl

  past : (b c : Bool) (v : V) (e : K × V) (x y : Option (K × V)) → (b ≡ true → c ≡ true → ⊥) → option_map (λ (p : K × V). p.1) y ≡ cond b (Some v) (option_map (λ (p : K × V). p.1) x)
      → option_map (λ (p : K × V). p.1) (cond c (Some e) y) ≡ cond b (Some v) (option_map (λ (p : K × V). p.1) (cond c (Some e) x))
  past true true v e x y h i = absurd (h refl refl)
  past true false v e x y h i = i
  past false true v e x y h i = refl
  past false false v e x y h i = i

  -- it holds of any list of pairs, in whatever order
  pub value_at-with_pair : (m : List (K × V)) (k : K) (v : V) (q : K) → value_at cmp (with_pair cmp m k v) q ≡ cond (is_eq (cmp q k)) (Some v) (value_at cmp m q)
  value_at-with_pair [] k v q = first (is_eq (cmp q k)) k v None
  value_at-with_pair (e ∷ m) k v q = by_order (cmp k e.0) refl (value_at-with_pair m k v q)
    where
      by_order : (r : Ordering) → cmp k e.0 ≡ r → value_at cmp (with_pair cmp m k v) q ≡ cond (is_eq (cmp q k)) (Some v) (value_at cmp m q)
          → value_at cmp (with_pair cmp (e ∷ m) k v) q ≡ cond (is_eq (cmp q k)) (Some v) (value_at cmp (e ∷ m) q)
      by_order Less p ih = rw p (first (is_eq (cmp q k)) k v (pair_at cmp (e ∷ m) q))
      by_order Equal p ih = rw p (in_place (is_eq (cmp q k)) (is_eq (cmp q e.0)) e.0 v e (pair_at cmp m q) (alike_cond o q k e.0 p))
      by_order Greater p ih = rw p (past (is_eq (cmp q k)) (is_eq (cmp q e.0)) v e (pair_at cmp m q) (pair_at cmp (with_pair cmp m k v) q) (λ a b. let x = sym p ∙ both_alike o q k e.0 a b in cc) ih)

  pub value_at-put : (m : List (K × V)) (k : K) (v : V) → value_at cmp (with_pair cmp m k v) k ≡ Some v
  value_at-put m k v = rw (value_at-with_pair m k v k, tied_itself o k) refl

  pub value_at-without : (m : List (K × V)) (k q : K) → IsFiniteMap cmp m → value_at cmp (without cmp m k) q ≡ cond (is_eq (cmp q k)) None (value_at cmp m q)
  value_at-without m k q s = rw (pair_at-without o m k q s) (by_test (is_eq (cmp q k)))
    where
      by_test : (b : Bool) → option_map (λ (p : K × V). p.1) (cond b None (pair_at cmp m q)) ≡ cond b None (value_at cmp m q)
      by_test true = refl
      by_test false = refl

  pub value_at-taken : (m : List (K × V)) (k : K) → IsFiniteMap cmp m → value_at cmp (without cmp m k) k ≡ None
  value_at-taken m k s = rw (value_at-without m k k s, tied_itself o k) refl

  pub length-without-le : (m : List (K × V)) (k : K) → length (without cmp m k) ≤ length m
  length-without-le m k = rw (length-without o m k) (by_test (is_some (pair_at cmp m k)))
    where
      by_test : (b : Bool) → cond b (length m - 1) (length m) ≤ length m
      by_test true = omega arith
      by_test false = omega arith

  -- a removal of a key that is there leaves one pair fewer, and another as many
  pub length-without-exact : (m : List (K × V)) (k : K) → length (without cmp m k) + cond (is_some (pair_at cmp m k)) 1 0 ≡ length m
  length-without-exact m k = rw (length-without o m k) (by_pair (pair_at cmp m k) refl)
    where
      by_pair : (found : Option (K × V)) → pair_at cmp m k ≡ found → cond (is_some found) (length m - 1) (length m) + cond (is_some found) 1 0 ≡ length m
      by_pair None e = omega arith
      by_pair (Some f) e = let some = found_in o m k f e in omega arith

module _ {K V : Type 0} (cmp : K → K → Ordering) where
  pub length-with_pair-le : (m : List (K × V)) (k : K) (v : V) → length (with_pair cmp m k v) ≤ length m + 1
  length-with_pair-le [] k v = omega arith
  length-with_pair-le (e ∷ m) k v = by_order (cmp k e.0) refl (length-with_pair-le m k v)
    where
      by_order : (r : Ordering) → cmp k e.0 ≡ r → length (with_pair cmp m k v) ≤ length m + 1 → length (with_pair cmp (e ∷ m) k v) ≤ length (e ∷ m) + 1
      by_order Less p ih = rw p (omega arith)
      by_order Equal p ih = rw p (omega arith)
      by_order Greater p ih = rw p (omega arith)

-- at keys that are numbers
module _ {V : Type 0} where
  pub put_same : (m : List (ℕ × V)) (k : ℕ) (v : V) → value_at nat_cmp (with_pair nat_cmp m k v) k ≡ Some v
  put_same m k v = value_at-put nat_cmp_total m k v

  pub put_other : (m : List (ℕ × V)) (k : ℕ) (v : V) (q : ℕ) → q ≢ k → value_at nat_cmp (with_pair nat_cmp m k v) q ≡ value_at nat_cmp m q
  put_other m k v q ne = rw (value_at-with_pair nat_cmp_total m k v q, differs q k ne) refl

  pub put_length : (m : List (ℕ × V)) (k : ℕ) (v : V) → length (with_pair nat_cmp m k v) ≤ length m + 1
  put_length m k v = length-with_pair-le nat_cmp m k v

  pub take_same : (m : List (ℕ × V)) (k : ℕ) → IsFiniteMap nat_cmp m → value_at nat_cmp (without nat_cmp m k) k ≡ None
  take_same m k s = value_at-taken nat_cmp_total m k s

  pub take_length : (m : List (ℕ × V)) (k : ℕ) → length (without nat_cmp m k) ≤ length m
  take_length m k = length-without-le nat_cmp_total m k

  pub take_at : (m : List (ℕ × V)) (k q : ℕ) → IsFiniteMap nat_cmp m → ((q ≡ k) × (value_at nat_cmp (without nat_cmp m k) q ≡ None)) ⊎ ((q ≢ k) × (value_at nat_cmp (without nat_cmp m k) q ≡ value_at nat_cmp m q))
  take_at m k q s = rw (value_at-without nat_cmp_total m k q s) (by_test (is_eq (nat_cmp q k)) refl)
    where
      by_test : (b : Bool) → is_eq (nat_cmp q k) ≡ b → ((q ≡ k) × (cond b None (value_at nat_cmp m q) ≡ None)) ⊎ ((q ≢ k) × (cond b None (value_at nat_cmp m q) ≡ value_at nat_cmp m q))
      by_test true e = inl (exact_unsigned q k (eq_of _ e), refl)
      by_test false e = inr ((λ same. let x = sym e ∙ (ap (λ n. is_eq (nat_cmp n k)) same ∙ ap is_eq (tied_itself nat_cmp_total k)) in cc), refl)

  pub put_exact : (m : List (ℕ × V)) (k : ℕ) (v : V) → IsFiniteMap nat_cmp m → length (with_pair nat_cmp m k v) ≡ cond (is_some (pair_at nat_cmp m k)) (length m) (length m + 1)
  put_exact m k v s = length-with_pair nat_cmp_total m k v s

  pub take_exact : (m : List (ℕ × V)) (k : ℕ) → length (without nat_cmp m k) + cond (is_some (pair_at nat_cmp m k)) 1 0 ≡ length m
  take_exact m k = length-without-exact nat_cmp_total m k

pub ruleset map_calls = (put_same, put_other, put_length, put_exact, take_same, take_length, take_at, take_exact)

-- at keys that are texts
module _ {Y V : Type 0} where
  pub put_same_text : (m : List (String Y × V)) (k : String Y) (v : V) → value_at string_cmp (with_pair string_cmp m k v) k ≡ Some v
  put_same_text m k v = value_at-put string_cmp_total m k v

  pub put_other_text : (m : List (String Y × V)) (k : String Y) (v : V) (q : String Y) → string_bytes q ≢ string_bytes k
      → value_at string_cmp (with_pair string_cmp m k v) q ≡ value_at string_cmp m q
  put_other_text m k v q ne = rw (value_at-with_pair string_cmp_total m k v q, differs_text q k ne) refl

  pub put_length_text : (m : List (String Y × V)) (k : String Y) (v : V) → length (with_pair string_cmp m k v) ≤ length m + 1
  put_length_text m k v = length-with_pair-le string_cmp m k v

  pub put_exact_text : (m : List (String Y × V)) (k : String Y) (v : V) → IsFiniteMap string_cmp m
      → length (with_pair string_cmp m k v) ≡ cond (is_some (pair_at string_cmp m k)) (length m) (length m + 1)
  put_exact_text m k v s = length-with_pair string_cmp_total m k v s

  pub take_same_text : (m : List (String Y × V)) (k : String Y) → IsFiniteMap string_cmp m → value_at string_cmp (without string_cmp m k) k ≡ None
  take_same_text m k s = value_at-taken string_cmp_total m k s

  pub take_other_text : (m : List (String Y × V)) (k q : String Y) → IsFiniteMap string_cmp m → string_bytes q ≢ string_bytes k
      → value_at string_cmp (without string_cmp m k) q ≡ value_at string_cmp m q
  take_other_text m k q s ne = rw (value_at-without string_cmp_total m k q s, differs_text q k ne) refl

  pub take_length_text : (m : List (String Y × V)) (k : String Y) → length (without string_cmp m k) ≤ length m
  take_length_text m k = length-without-le string_cmp_total m k

  pub take_exact_text : (m : List (String Y × V)) (k : String Y) → length (without string_cmp m k) + cond (is_some (pair_at string_cmp m k)) 1 0 ≡ length m
  take_exact_text m k = length-without-exact string_cmp_total m k

pub ruleset text_calls = (put_same_text, put_other_text, put_length_text, put_exact_text, take_same_text, take_other_text, take_length_text, take_exact_text)

pub ruleset any_calls = (value_at-put, value_at-with_pair, value_at-taken, value_at-without, length-with_pair-le, length-with_pair, length-without-le, length-without-exact)

module _ {K V : Type 0} {cmp : K → K → Ordering} (o : IsTotalOrder cmp) where
  -- keys of one class find one pair
  pub alike_find : (m : List (K × V)) (q k : K) → cmp q k ≡ Equal → pair_at cmp m q ≡ pair_at cmp m k
  alike_find [] q k e = refl
  alike_find (x ∷ m) q k e = rw (o.congr q k x.0 e, alike_find m q k e) refl

  -- the stored key that is found is of the class that was looked for
  pub found_tied : (m : List (K × V)) (k : K) (p : K × V) → pair_at cmp m k ≡ Some p → cmp k p.0 ≡ Equal
  found_tied [] k p e = cc
  found_tied (x ∷ m) k p e = by_test (is_eq (cmp k x.0)) refl e (found_tied m k p)
    where
      by_test : (b : Bool) → is_eq (cmp k x.0) ≡ b → cond b (Some x) (pair_at cmp m k) ≡ Some p → (pair_at cmp m k ≡ Some p → cmp k p.0 ≡ Equal) → cmp k p.0 ≡ Equal
      by_test true t h rest = let same : x ≡ p = cc in ap (λ (y : K × V). cmp k y.0) (sym same) ∙ eq_of _ t
      by_test false t h rest = rest h

  -- a stored key finds its own pair
  pub pair_at-stored : (m : List (K × V)) (k : K) (p : K × V) → pair_at cmp m k ≡ Some p → pair_at cmp m p.0 ≡ Some p
  pair_at-stored m k p e = sym (alike_find m k p.0 (found_tied m k p e)) ∙ e

  -- a new key is stored
  pub pair_at-new : (m : List (K × V)) (k : K) (v : V) → IsFiniteMap cmp m → pair_at cmp m k ≡ None → pair_at cmp (with_pair cmp m k v) k ≡ Some (k, v)
  pair_at-new m k v s e = rw (pair_at-with_pair o m k v k s, tied_itself o k, e) refl

  -- beside a new key, what is stored stays
  pub pair_at-beside : (m : List (K × V)) (k : K) (v : V) (q : K) → IsFiniteMap cmp m → pair_at cmp m k ≡ None → IsSome (pair_at cmp m q)
      → pair_at cmp (with_pair cmp m k v) q ≡ pair_at cmp m q
  pair_at-beside m k v q s absent there = pair_at-with_pair o m k v q s ∙ by_test (is_eq (cmp q k)) refl
    where
      clash : (x : Option (K × V)) → x ≡ None → IsSome x → ⊥
      clash None e h = cc
      clash (Some x) e h = cc

      by_test : (b : Bool) → is_eq (cmp q k) ≡ b → cond b (Some (stored_key cmp m k, v)) (pair_at cmp m q) ≡ pair_at cmp m q
      by_test true t = absurd (clash _ (alike_find m q k (eq_of _ t) ∙ absent) there)
      by_test false t = refl

-- of the pairs at keys that are texts
module _ {Y V : Type 0} where
  -- what is found has the text that was looked for
  pub found_text : (m : List (String Y × V)) (k : String Y) (p : String Y × V) → pair_at string_cmp m k ≡ Some p → string_bytes p.0 ≡ string_bytes k
  found_text m k p e = sym (same_bytes k p.0 (ap is_eq (found_tied string_cmp_total m k p e)))

  pub stored_text : (m : List (String Y × V)) (k : String Y) (p : String Y × V) → pair_at string_cmp m k ≡ Some p → pair_at string_cmp m p.0 ≡ Some p
  stored_text m k p e = pair_at-stored string_cmp_total m k p e

  pub new_text : (m : List (String Y × V)) (k : String Y) (v : V) → IsFiniteMap string_cmp m → pair_at string_cmp m k ≡ None → pair_at string_cmp (with_pair string_cmp m k v) k ≡ Some (k, v)
  new_text m k v s e = pair_at-new string_cmp_total m k v s e

  pub text_beside : (m : List (String Y × V)) (k : String Y) (v : V) (q : String Y) → IsFiniteMap string_cmp m → pair_at string_cmp m k ≡ None → IsSome (pair_at string_cmp m q)
      → pair_at string_cmp (with_pair string_cmp m k v) q ≡ pair_at string_cmp m q
  text_beside m k v q s absent there = pair_at-beside string_cmp_total m k v q s absent there

pub ruleset text_pairs = (found_text, stored_text, new_text, text_beside)

-- what is found is of the class that was looked for
pub found_alike : {T : Type 0} (cmp : T → T → Ordering) (s : List T) (x y : T) → element_at cmp s x ≡ Some y → is_eq (cmp x y) ≡ true
found_alike cmp [] x y e = cc
found_alike cmp (z ∷ s) x y e = by_test (is_eq (cmp x z)) refl (found_alike cmp s x y)
  where
    by_test : (b : Bool) → is_eq (cmp x z) ≡ b → (element_at cmp s x ≡ Some y → is_eq (cmp x y) ≡ true) → is_eq (cmp x y) ≡ true
    by_test true p ih = let same : Some z ≡ Some y = sym (ap (λ b. cond b (Some z) (find (is_at (cmp x)) s)) p) ∙ e in cc
    by_test false p ih = ih (sym (ap (λ b. cond b (Some z) (find (is_at (cmp x)) s)) p) ∙ e)

-- of sets
module _ {T : Type 0} {cmp : T → T → Ordering} (o : IsTotalOrder cmp) where
  -- what was put is of a class that is there
  pub element_at-put : (s : List T) (x : T) → is_some (element_at cmp (with_element cmp s x) x) ≡ true
  element_at-put [] x = rw (tied_itself o x) refl
  element_at-put (y ∷ s) x = by_order (cmp x y) refl (element_at-put s x)
    where
      by_order : (r : Ordering) → cmp x y ≡ r → is_some (element_at cmp (with_element cmp s x) x) ≡ true → is_some (element_at cmp (with_element cmp (y ∷ s) x) x) ≡ true
      by_order Less p ih = rw (p, tied_itself o x) refl
      by_order Equal p ih = rw (p, p) refl
      by_order Greater p ih = rw (p, p) ih

  -- what is of another class stays
  pub element_at-put_other : (s : List T) (x q : T) → is_eq (cmp q x) ≡ false → element_at cmp (with_element cmp s x) q ≡ element_at cmp s q
  element_at-put_other [] x q other = rw other refl
  element_at-put_other (y ∷ s) x q other = by_order (cmp x y) refl (element_at-put_other s x q other)
    where
      by_order : (r : Ordering) → cmp x y ≡ r → element_at cmp (with_element cmp s x) q ≡ element_at cmp s q → element_at cmp (with_element cmp (y ∷ s) x) q ≡ element_at cmp (y ∷ s) q
      by_order Less p ih = rw (p, other) refl
      by_order Equal p ih = rw p refl
      by_order Greater p ih = rw (p, ih) refl

  -- what is of a class that was taken is not there
  pub element_at-taken : (s : List T) (x : T) → element_at cmp (without_element cmp s x) x ≡ None
  element_at-taken [] x = refl
  element_at-taken (y ∷ s) x = by_test (is_eq (cmp x y)) refl (element_at-taken s x)
    where
      by_test : (b : Bool) → is_eq (cmp x y) ≡ b → element_at cmp (without_element cmp s x) x ≡ None → element_at cmp (without_element cmp (y ∷ s) x) x ≡ None
      by_test true p ih = rw p ih
      by_test false p ih = rw (p, p) ih

  pub element_at-taken_other : (s : List T) (x q : T) → is_eq (cmp q x) ≡ false → element_at cmp (without_element cmp s x) q ≡ element_at cmp s q
  element_at-taken_other [] x q other = refl
  element_at-taken_other (y ∷ s) x q other = by_order (cmp x y) refl (element_at-taken_other s x q other)
    where
      by_order : (r : Ordering) → cmp x y ≡ r → element_at cmp (without_element cmp s x) q ≡ element_at cmp s q → element_at cmp (without_element cmp (y ∷ s) x) q ≡ element_at cmp (y ∷ s) q
      by_order Less p ih = rw (p, ih) refl
      by_order Equal p ih = rw (p, sym (alike_cond o q x y p) ∙ other) ih
      by_order Greater p ih = rw (p, ih) refl

  -- an element that is found finds itself
  pub element_at-stored : (s : List T) (x y : T) → element_at cmp s x ≡ Some y → element_at cmp s y ≡ Some y
  element_at-stored s x y e = sym (same_class o s x y (eq_of _ (found_alike cmp s x y e))) ∙ e

  -- what is stored stays, whatever is put
  pub element_at-kept : (s : List T) (x q : T) → IsFiniteSet cmp s → IsSome (element_at cmp s q) → element_at cmp (with_element cmp s x) q ≡ element_at cmp s q
  element_at-kept s x q f there = by_test (is_eq (cmp q x)) refl
    where
      by_test : (b : Bool) → is_eq (cmp q x) ≡ b → element_at cmp (with_element cmp s x) q ≡ element_at cmp s q
      by_test true p = ap (λ t. element_at cmp t q) (with_element_present o s x f (subst IsSome (same_class o s q x (eq_of _ p)) there))
      by_test false p = element_at-put_other s x q p

  -- ---- how many elements
  pub length-with_element-le : (s : List T) (x : T) → length (with_element cmp s x) ≤ length s + 1
  length-with_element-le s x = (length-with_element cmp s x).1

  pub length-without_element-le : (s : List T) (x : T) → length (without_element cmp s x) ≤ length s
  length-without_element-le s x = filter_no_longer (λ y. not (is_at (cmp x) y)) s

  -- a set as the keys of a map
  abbrev units : List T → List (T × Unit {0})
  units s = map (λ x. (x, tt)) s

  keys_of-units : (s : List T) → keys_of (units s) ≡ s
  keys_of-units [] = refl
  keys_of-units (x ∷ s) = ap (λ l. x ∷ l) (keys_of-units s)

  abbrev IsPutExactly : T → List T → Type 0
  IsPutExactly x s = length (with_element cmp s x) ≡ cond (is_some (element_at cmp s x)) (length s) (length s + 1)

  pub length-with_element-exact : (s : List T) (x : T) → IsFiniteSet cmp s → length (with_element cmp s x) ≡ cond (is_some (element_at cmp s x)) (length s) (length s + 1)
  length-with_element-exact s x f = subst (IsPutExactly x) (keys_of-units s) (of_keys (units s) (subst (IsFiniteSet cmp) (sym (keys_of-units s)) f))
    where
      of_keys : (m : List (T × Unit {0})) → IsFiniteMap cmp m → IsPutExactly x (keys_of m)
      of_keys m g = rw (with_element-keys cmp m x tt, has_element-keys cmp m x, length-map m (λ p. p.0), length-map (with_pair cmp m x tt) (λ p. p.0)) (length-with_pair o m x tt g)

  abbrev IsTakenExactly : T → List T → Type 0
  IsTakenExactly x s = length (without_element cmp s x) + cond (is_some (element_at cmp s x)) 1 0 ≡ length s

  pub length-without_element-exact : (s : List T) (x : T) → IsFiniteSet cmp s → length (without_element cmp s x) + cond (is_some (element_at cmp s x)) 1 0 ≡ length s
  length-without_element-exact s x f = subst (IsTakenExactly x) (keys_of-units s) (of_keys (units s) (subst (IsFiniteSet cmp) (sym (keys_of-units s)) f))
    where
      of_keys : (m : List (T × Unit {0})) → IsFiniteMap cmp m → IsTakenExactly x (keys_of m)
      of_keys m g = rw (without_element-keys o m x g, has_element-keys cmp m x, length-map m (λ p. p.0), length-map (without cmp m x) (λ p. p.0)) (length-without-exact o m x)

pub ruleset any_elements = (element_at-put, element_at-put_other, element_at-taken, element_at-taken_other, element_at-stored, element_at-kept, length-with_element-le, length-with_element-exact, length-without_element-le, length-without_element-exact)

-- sets of numbers
pub put_element : (s : List ℕ) (x : ℕ) → element_at nat_cmp (with_element nat_cmp s x) x ≡ Some x
put_element s x = by_found (element_at nat_cmp (with_element nat_cmp s x) x) refl (element_at-put nat_cmp_total s x)
  where
    by_found : (w : Option ℕ) → element_at nat_cmp (with_element nat_cmp s x) x ≡ w → is_some w ≡ true → w ≡ Some x
    by_found None e h = cc
    by_found (Some y) e h = ap Some (sym (exact_unsigned x y (eq_of _ (found_alike nat_cmp (with_element nat_cmp s x) x y e))))

pub put_other_element : (s : List ℕ) (x q : ℕ) → q ≢ x → element_at nat_cmp (with_element nat_cmp s x) q ≡ element_at nat_cmp s q
put_other_element s x q ne = element_at-put_other nat_cmp_total s x q (differs q x ne)

pub take_element : (s : List ℕ) (x : ℕ) → element_at nat_cmp (without_element nat_cmp s x) x ≡ None
take_element s x = element_at-taken nat_cmp_total s x

pub take_other_element : (s : List ℕ) (x q : ℕ) → q ≢ x → element_at nat_cmp (without_element nat_cmp s x) q ≡ element_at nat_cmp s q
take_other_element s x q ne = element_at-taken_other nat_cmp_total s x q (differs q x ne)

pub put_element_length : (s : List ℕ) (x : ℕ) → length (with_element nat_cmp s x) ≤ length s + 1
put_element_length s x = length-with_element-le nat_cmp_total s x

pub take_element_length : (s : List ℕ) (x : ℕ) → length (without_element nat_cmp s x) ≤ length s
take_element_length s x = length-without_element-le nat_cmp_total s x

pub put_element_exact : (s : List ℕ) (x : ℕ) → IsFiniteSet nat_cmp s → length (with_element nat_cmp s x) ≡ cond (is_some (element_at nat_cmp s x)) (length s) (length s + 1)
put_element_exact s x f = length-with_element-exact nat_cmp_total s x f

pub take_element_exact : (s : List ℕ) (x : ℕ) → IsFiniteSet nat_cmp s → length (without_element nat_cmp s x) + cond (is_some (element_at nat_cmp s x)) 1 0 ≡ length s
take_element_exact s x f = length-without_element-exact nat_cmp_total s x f

pub ruleset set_calls = (put_element, put_other_element, take_element, take_other_element, put_element_length, put_element_exact, take_element_length, take_element_exact)

-- sets of texts
module _ {Y : Type 0} where
  -- what was put has an element of its text
  pub put_element_text : (s : List (String Y)) (x : String Y) → is_some (element_at string_cmp (with_element string_cmp s x) x) ≡ true
  put_element_text s x = element_at-put string_cmp_total s x

  pub put_other_element_text : (s : List (String Y)) (x q : String Y) → string_bytes q ≢ string_bytes x → element_at string_cmp (with_element string_cmp s x) q ≡ element_at string_cmp s q
  put_other_element_text s x q ne = element_at-put_other string_cmp_total s x q (differs_text q x ne)

  -- what is stored stays, whatever is put
  pub kept_element_text : (s : List (String Y)) (x q : String Y) → IsFiniteSet string_cmp s → IsSome (element_at string_cmp s q)
      → element_at string_cmp (with_element string_cmp s x) q ≡ element_at string_cmp s q
  kept_element_text s x q f there = element_at-kept string_cmp_total s x q f there

  -- what is found has the text that was looked for
  pub found_element_text : (s : List (String Y)) (x y : String Y) → element_at string_cmp s x ≡ Some y → string_bytes y ≡ string_bytes x
  found_element_text s x y e = sym (same_bytes x y (found_alike string_cmp s x y e))

  pub stored_element_text : (s : List (String Y)) (x y : String Y) → element_at string_cmp s x ≡ Some y → element_at string_cmp s y ≡ Some y
  stored_element_text s x y e = element_at-stored string_cmp_total s x y e

  pub take_element_text : (s : List (String Y)) (x : String Y) → element_at string_cmp (without_element string_cmp s x) x ≡ None
  take_element_text s x = element_at-taken string_cmp_total s x

  pub take_other_element_text : (s : List (String Y)) (x q : String Y) → string_bytes q ≢ string_bytes x → element_at string_cmp (without_element string_cmp s x) q ≡ element_at string_cmp s q
  take_other_element_text s x q ne = element_at-taken_other string_cmp_total s x q (differs_text q x ne)

  pub put_element_length_text : (s : List (String Y)) (x : String Y) → length (with_element string_cmp s x) ≤ length s + 1
  put_element_length_text s x = length-with_element-le string_cmp_total s x

  pub put_element_exact_text : (s : List (String Y)) (x : String Y) → IsFiniteSet string_cmp s
      → length (with_element string_cmp s x) ≡ cond (is_some (element_at string_cmp s x)) (length s) (length s + 1)
  put_element_exact_text s x f = length-with_element-exact string_cmp_total s x f

  pub take_element_length_text : (s : List (String Y)) (x : String Y) → length (without_element string_cmp s x) ≤ length s
  take_element_length_text s x = length-without_element-le string_cmp_total s x

  pub take_element_exact_text : (s : List (String Y)) (x : String Y) → IsFiniteSet string_cmp s
      → length (without_element string_cmp s x) + cond (is_some (element_at string_cmp s x)) 1 0 ≡ length s
  take_element_exact_text s x f = length-without_element-exact string_cmp_total s x f

pub ruleset text_elements = (put_element_text, put_other_element_text, kept_element_text, found_element_text, stored_element_text, take_element_text, take_other_element_text, put_element_length_text, put_element_exact_text, take_element_length_text, take_element_exact_text)
