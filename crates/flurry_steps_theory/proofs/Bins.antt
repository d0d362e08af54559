-- What a bin's entries and the map's pairs have at a key.
use Rattle.std.specs.Prelude.{unwrap_or, if◌then◌else◌, ℕ, suc, zero, ◌+◌, ◌*◌, ◌/◌, ◌%◌, ◌^◌, ◌<◌, Bool, true, false, not, cond, List, [], ◌∷◌, filter, Option, Some, None, option_map, IsSome, IsTrue, MatchOption, ◌≡◌, ◌⊎◌}
use Rattle.std.specs.declared.cmp.Ordering.{Ordering}
use Rattle.std.specs.declared.cmp.Ordering.TheVariants.{Less, Equal, Greater}
use Rattle.std.specs.Ordering.{ordering_then, ordering_reverse, nat_cmp, is_lt}
use Rattle.std.specs.Cmp.{IsTotalOrder, IsEquivalence}
use Rattle.std.proofs.Common.{arith, refl, ◌∙◌, ap, subst, inl, inr}
use Rattle.std.proofs.lemmas.Cmp.{eq_by_cmp_equiv, then_total, on_total, nat_cmp_total, tied_itself, alike_right}
use Rattle.std.proofs.lemmas.Nat.{mod-pow-add, mod_below, pow_pos, mod_low}
use Rattle.std.proofs.lemmas.Grind.{common_steps, pow_more}
use Rattle.std.proofs.lemmas.Bool.{eqb-true, eq-eqb, ne_eqb}
use Rattle.flurry_base.specs.OneKey.{key_of}
use Rattle.flurry_steps_theory.specs.Map.{Pairs, same, find, without, after, Allows, CanBeRefused}
use Rattle.flurry_steps_theory.specs.Trace.{in_region}
use Rattle.flurry_steps_theory.specs.Bin.{Entry, pairs_of, order, past, first_past, Above, IsAscending, InRegion, half}
use Rattle.flurry_base.specs.declared.call.Call.{Call}
use Rattle.flurry_base.specs.declared.call.Call.TheVariants.{Get, GetKeyValue, Insert, TryInsert, Compute, Alter, Remove, RemoveEntry, RemoveSeen, Reserve, Clear, Walk}
use Rattle.flurry_base.specs.declared.reply.KeptReply.{KeptReply}
use Rattle.flurry_base.specs.declared.reply.KeptReply.TheVariants.{Value, Pair, New, Changed, Exists}
use Rattle.flurry_base.specs.declared.verdict.Verdict.{Verdict}
use Rattle.flurry_base.specs.declared.verdict.Verdict.TheVariants.{Set}
use Rattle.flurry_base.specs.Verdicts.{Judges, verdict_of, verdict_reply}

pub one_class : {K : Type 0} (cmp : K → K → Ordering) → IsTotalOrder cmp → IsEquivalence (same cmp)
one_class cmp total = eq_by_cmp_equiv total

module _ {K V : Type 0} (cmp : K → K → Ordering) (total : IsTotalOrder cmp) where
  -- one class, one pair
  pub find-class : (m : Pairs K V) (j k : K) → same cmp j k ≡ true → find cmp m j ≡ find cmp m k
  find-class [] j k e = refl
  find-class (x ∷ m) j k e = grind (arith, find-class m j k e, (one_class cmp total).symm x.0 j, (one_class cmp total).symm x.0 k, (one_class cmp total).congr j k x.0 e)

  pub find-without : (m : Pairs K V) (k j : K) → find cmp (without cmp m k) j ≡ cond (same cmp k j) None (find cmp m j)
  find-without [] k j = grind arith
  find-without (x ∷ m) k j = grind (arith, find-without m k j, (one_class cmp total).congr x.0 k j, (one_class cmp total).congr k x.0 j, (one_class cmp total).symm x.0 k)

  at_key : (j k : K) (m n : Pairs K V) → Some j ≡ Some k → find cmp m k ≡ find cmp n k → find cmp m j ≡ find cmp n j
  at_key j k m n e h = grind (arith, e, h)

  -- the stored key is of the class
  pub stored_class : (m : Pairs K V) (k : K) → same cmp (unwrap_or (option_map (λ x. x.0) (find cmp m k)) k) k ≡ true
  stored_class [] k = (one_class cmp total).refl k
  stored_class (x ∷ m) k = grind (arith, stored_class m k)

  -- what a call leaves hangs on what the map has at each class
  pub find-after : {F : Type 0} (c : Call K V F) (r : KeptReply K V) (m n : Pairs K V) (j : K) → ((k : K) → key_of c ≡ Some k → find cmp m k ≡ find cmp n k) → find cmp m j ≡ find cmp n j → find cmp (after cmp c r m) j ≡ find cmp (after cmp c r n) j
  find-after (Insert k v) r m n j g h = grind (arith, h, g k refl, find-without m k j, find-without n k j)
  find-after (TryInsert k v) (New w) m n j g h = grind (arith, h, g k refl, find-without m k j, find-without n k j)
  find-after (Compute k f) (Value (Some w)) m n j g h = grind (arith, h, g k refl, find-without m k j, find-without n k j)
  find-after (Compute k f) (Value None) m n j g h = grind (arith, h, g k refl, find-without m k j, find-without n k j)
  find-after (Alter k b f) (New w) m n j g h = grind (arith, h, g k refl, find-without m k j, find-without n k j)
  find-after (Alter k b f) (Changed w o) m n j g h = grind (arith, h, g k refl, find-without m k j, find-without n k j)
  find-after (Alter k b f) (Pair (Some x)) m n j g h = grind (arith, h, g k refl, find-without m k j, find-without n k j)
  find-after (Remove k) r m n j g h = grind (arith, h, g k refl, find-without m k j, find-without n k j)
  find-after (RemoveEntry k) r m n j g h = grind (arith, h, g k refl, find-without m k j, find-without n k j)
  find-after (RemoveSeen s) (Value (Some w)) m n j g h = grind (arith, h, g s.key refl, find-without m s.key j, find-without n s.key j)
  find-after c r m n j g h = h

  -- a call changes no class but its own
  pub find-after_other : {F : Type 0} (c : Call K V F) (r : KeptReply K V) (m : Pairs K V) (k j : K) → key_of c ≡ Some k → same cmp k j ≡ false → find cmp (after cmp c r m) j ≡ find cmp m j
  find-after_other (Insert i v) r m k j e f = grind (arith, find-without m i j, (one_class cmp total).congr _ i j (stored_class m i), e, f)
  find-after_other (TryInsert i v) (New w) m k j e f = grind (arith, find-without m i j, e, f)
  find-after_other (Compute i g) (Value (Some w)) m k j e f = grind (arith, find-without m i j, (one_class cmp total).congr _ i j (stored_class m i), e, f)
  find-after_other (Compute i g) (Value None) m k j e f = grind (arith, find-without m i j)
  find-after_other (Alter i b g) (New w) m k j e f = grind (arith, find-without m i j, e, f)
  find-after_other (Alter i b g) (Changed w o) m k j e f = grind (arith, find-without m i j, (one_class cmp total).congr _ i j (stored_class m i), e, f)
  find-after_other (Alter i b g) (Pair (Some x)) m k j e f = grind (arith, find-without m i j)
  find-after_other (Remove i) r m k j e f = grind (arith, find-without m i j)
  find-after_other (RemoveEntry i) r m k j e f = grind (arith, find-without m i j)
  find-after_other (RemoveSeen s) (Value (Some w)) m k j e f = grind (arith, find-without m s.key j)
  find-after_other c r m k j e f = refl

  -- whether memory may be refused hangs on what the map has at the key's class
  pub CanBeRefused-same : {F : Type 0} (gives : F → K → Option V → Verdict V → Type 0) (c : Call K V F) (m n : Pairs K V) (k : K) → key_of c ≡ Some k → find cmp m k ≡ find cmp n k → CanBeRefused cmp gives c m → CanBeRefused cmp gives c n
  CanBeRefused-same gives (Get j) m n k e h a = subst (λ o. IsSome o) (at_key j k m n e h) a
  CanBeRefused-same gives (GetKeyValue j) m n k e h a = subst (λ o. IsSome o) (at_key j k m n e h) a
  CanBeRefused-same gives (Insert j v) m n k e h a = tt
  CanBeRefused-same gives (TryInsert j v) m n k e h a = tt
  CanBeRefused-same gives (Compute j f) m n k e h a = subst (λ o. MatchOption o ⊥ (λ x. (w : V) × gives f x.0 (Some x.1) (Set w))) (at_key j k m n e h) a
  CanBeRefused-same gives (Alter j b f) m n k e h a = subst (λ o. MatchOption o (IsTrue b) (λ x. (w : V) × gives f x.0 (Some x.1) (Set w))) (at_key j k m n e h) a
  CanBeRefused-same gives (Reserve j) m n k e h a = tt
  CanBeRefused-same gives Walk m n k e h a = tt
  CanBeRefused-same gives c m n k e h a = a

  -- what may be replied hangs on what the map has at the key's class
  pub Allows-same : {F : Type 0} (gives : F → K → Option V → Verdict V → Type 0) (c : Call K V F) (r : KeptReply K V) (m n : Pairs K V) (k : K) → key_of c ≡ Some k → find cmp m k ≡ find cmp n k → Allows cmp gives c m r → Allows cmp gives c n r
  Allows-same gives (TryInsert j v) r m n k e h a = subst (λ o. MatchOption o (r ≡ New v) (λ x. r ≡ Exists x.1 v)) (at_key j k m n e h) a
  Allows-same gives (Compute j f) r m n k e h a = subst (λ o. MatchOption o (r ≡ Value None) (λ x. (w : Option V) × gives f x.0 (Some x.1) (verdict_of w) × (r ≡ Value w))) (at_key j k m n e h) a
  Allows-same gives (Alter j b f) r m n k e h a = subst (λ o. (v : Verdict V) × Judges gives f j b o v × (r ≡ verdict_reply o v)) (at_key j k m n e h) a
  Allows-same gives (Reserve j) r m n k e h a = a
  Allows-same gives Clear r m n k e h a = a
  Allows-same gives Walk r m n k e h a = a
  Allows-same gives c r m n k e h a = grind (arith, e, h, a)

module _ {K : Type 0} (cmp : K → K → Ordering) (total : IsTotalOrder cmp) (hash : K → ℕ) (lawful : (j k : K) → same cmp j k ≡ true → hash j ≡ hash k) where
  pub order_total : IsTotalOrder (order cmp hash)
  order_total = then_total (on_total hash nat_cmp_total) total

  second_equal : (o u : Ordering) → ordering_then o u ≡ Equal → u ≡ Equal
  second_equal Less u h = grind arith
  second_equal Equal u h = h
  second_equal Greater u h = grind arith

  pub same-order : (j k : K) → order cmp hash j k ≡ Equal → same cmp j k ≡ true
  same-order j k h = rw (second_equal (nat_cmp (hash j) (hash k)) (cmp j k) h) refl

  order-same : (j k : K) → same cmp j k ≡ true → order cmp hash j k ≡ Equal
  order-same j k h = grind (arith, h, lawful j k h, tied_itself nat_cmp_total (hash j))

  -- what is greater is of another class
  pub less_differs : (j k : K) → order cmp hash j k ≡ Less → (same cmp j k ≡ false) × (same cmp k j ≡ false)
  less_differs j k h = grind (arith, h, order-same j k, (one_class cmp total).symm j k)

  pub past-same : (b : Option K) (j k : K) → same cmp j k ≡ true → past cmp hash b j ≡ past cmp hash b k
  past-same None j k h = refl
  past-same (Some b) j k h = ap is_lt (alike_right order_total j k b (order-same j k h))

  three_ways : (o u : Ordering) → u ≡ ordering_reverse o → (o ≡ Less) ⊎ ((o ≡ Equal) ⊎ (u ≡ Less))
  three_ways Less u h = grind arith
  three_ways o u h = grind arith

  pub ordered : (j k : K) → (order cmp hash j k ≡ Less) ⊎ ((order cmp hash j k ≡ Equal) ⊎ (order cmp hash k j ≡ Less))
  ordered j k = three_ways (order cmp hash j k) (order cmp hash k j) (order_total.antisymm k j)

  is_less : (o : Ordering) → is_lt o ≡ true → o ≡ Less
  is_less Less h = refl
  is_less Equal h = grind (arith, h)
  is_less Greater h = grind (arith, h)

  -- past a class that is past the bound
  pub past_trans : (b : Option K) (j k : K) → past cmp hash b j ≡ true → past cmp hash (Some j) k ≡ true → past cmp hash b k ≡ true
  past_trans None j k p q = refl
  past_trans (Some b) j k p q = rw (order_total.trans b j k (is_less _ p) (is_less _ q)) refl

  pub past_differs : (j k : K) → past cmp hash (Some j) k ≡ true → same cmp j k ≡ false
  past_differs j k p = (less_differs j k (is_less _ p)).0

  module _ {V : Type 0} where
    above_trans : (j k : K) (es : List (Entry K V)) → order cmp hash j k ≡ Less → Above cmp hash k es → Above cmp hash j es
    above_trans j k [] h a = tt
    above_trans j k (x ∷ es) h a = (order_total.trans j k x.key h a.0, above_trans j k es h a.1)

    -- k's class is in no bin whose entries are all greater
    pub absent_below : (k : K) (es : List (Entry K V)) → Above cmp hash k es → find cmp (pairs_of es) k ≡ None
    absent_below k [] a = refl
    absent_below k (x ∷ es) a = grind (arith, absent_below k es a.1, less_differs k x.key a.0)

    -- a class past the bound that is not past the first entry past it is that entry's, or not there
    pub find-first_past : (b : Option K) (es : List (Entry K V)) (x : Entry K V) (k : K) → IsAscending cmp hash es → first_past cmp hash b es ≡ Some x → past cmp hash b k ≡ true → past cmp hash (Some x.key) k ≡ false
        → (same cmp x.key k ≡ true) ⊎ (find cmp (pairs_of es) k ≡ None)
    find-first_past b [] x k a f p q = grind (arith, f)
    find-first_past b (y ∷ es) x k a f p q = go (λ g. find-first_past b es x k a.1 g p q) (past cmp hash b y.key) refl
      where
        here : y ≡ x → (order cmp hash y.key k ≡ Less) ⊎ ((order cmp hash y.key k ≡ Equal) ⊎ (order cmp hash k y.key ≡ Less)) → (same cmp x.key k ≡ true) ⊎ (find cmp (pairs_of (y ∷ es)) k ≡ None)
        here e (inl h) = grind (arith, e, h, q)
        here e (inr (inl h)) = grind (arith, e, h, same-order y.key k)
        here e (inr (inr h)) = inr (absent_below k (y ∷ es) (h, above_trans k y.key es h a.0))

        go : (first_past cmp hash b es ≡ Some x → (same cmp x.key k ≡ true) ⊎ (find cmp (pairs_of es) k ≡ None)) → (t : Bool) → past cmp hash b y.key ≡ t → (same cmp x.key k ≡ true) ⊎ (find cmp (pairs_of (y ∷ es)) k ≡ None)
        go more true e = here (grind (arith, e, f)) (ordered y.key k)
        go more false e = grind (arith, e, f, more, p, past-same b y.key k)

    pub find-none_past : (b : Option K) (es : List (Entry K V)) (k : K) → first_past cmp hash b es ≡ None → past cmp hash b k ≡ true → find cmp (pairs_of es) k ≡ None
    find-none_past b [] k f p = refl
    find-none_past b (x ∷ es) k f p = grind (arith, f, p, past-same b x.key k, find-none_past b es k)

    pub found-first_past : (b : Option K) (es : List (Entry K V)) (x : Entry K V) → IsAscending cmp hash es → first_past cmp hash b es ≡ Some x → (find cmp (pairs_of es) x.key ≡ Some (x.key, x.value)) × (past cmp hash b x.key ≡ true)
    found-first_past b [] x a f = grind (arith, f)
    found-first_past b (y ∷ es) x a f = go (found-first_past b es x a.1) (past cmp hash b y.key) refl
      where
        go : (first_past cmp hash b es ≡ Some x → (find cmp (pairs_of es) x.key ≡ Some (x.key, x.value)) × (past cmp hash b x.key ≡ true)) → (t : Bool) → past cmp hash b y.key ≡ t → (find cmp (pairs_of (y ∷ es)) x.key ≡ Some (x.key, x.value)) × (past cmp hash b x.key ≡ true)
        go more true e = grind (arith, e, f, (one_class cmp total).refl y.key)
        go more false e = grind (arith, e, f, more, past-same b y.key x.key)

    pub region-first_past : (b : Option K) (es : List (Entry K V)) (x : Entry K V) (e i : ℕ) → InRegion hash e i es → first_past cmp hash b es ≡ Some x → hash x.key % 2 ^ e ≡ i
    region-first_past b [] x e i r f = grind (arith, f)
    region-first_past b (y ∷ es) x e i r f = grind (arith, f, r.0, region-first_past b es x e i r.1)

    pub above-half : (e i : ℕ) (es : List (Entry K V)) (k : K) → Above cmp hash k es → Above cmp hash k (half hash e i es)
    above-half e i [] k h = tt
    above-half e i (x ∷ es) k h = by_test (above-half e i es k h.1) (in_region e i (hash x.key)) refl
      where
        by_test : Above cmp hash k (half hash e i es) → (t : Bool) → in_region e i (hash x.key) ≡ t → Above cmp hash k (half hash e i (x ∷ es))
        by_test more true u = rw u (h.0, more)
        by_test more false u = rw u more

    pub ascending-half : (e i : ℕ) (es : List (Entry K V)) → IsAscending cmp hash es → IsAscending cmp hash (half hash e i es)
    ascending-half e i [] h = tt
    ascending-half e i (x ∷ es) h = by_test (ascending-half e i es h.1) (in_region e i (hash x.key)) refl
      where
        by_test : IsAscending cmp hash (half hash e i es) → (t : Bool) → in_region e i (hash x.key) ≡ t → IsAscending cmp hash (half hash e i (x ∷ es))
        by_test more true u = rw u (above-half e i es x.key h.0, more)
        by_test more false u = rw u more

    -- half a bin
    pub find-half : (e i : ℕ) (es : List (Entry K V)) (k : K) → hash k % 2 ^ e ≡ i → find cmp (pairs_of (half hash e i es)) k ≡ find cmp (pairs_of es) k
    find-half e i [] k h = refl
    find-half e i (x ∷ es) k h = grind (arith, common_steps, find-half e i es k h, lawful x.key k, ne_eqb, eq-eqb)

    pub absent_elsewhere : (e i : ℕ) (es : List (Entry K V)) (k : K) → InRegion hash e i es → (hash k % 2 ^ e ≡ i → ⊥) → find cmp (pairs_of es) k ≡ None
    absent_elsewhere e i [] k r h = refl
    absent_elsewhere e i (x ∷ es) k r h = grind (arith, absent_elsewhere e i es k r.1 h, lawful x.key k, r.0, h)

    pub region-half : (e i : ℕ) (es : List (Entry K V)) → InRegion hash e i (half hash e i es)
    region-half e i [] = tt
    region-half e i (x ∷ es) = by_test (region-half e i es) (in_region e i (hash x.key)) refl
      where
        by_test : InRegion hash e i (half hash e i es) → (t : Bool) → in_region e i (hash x.key) ≡ t → InRegion hash e i (half hash e i (x ∷ es))
        by_test more true u = rw u (eqb-true _ _ u, more)
        by_test more false u = rw u more

    -- what is outside a region is not wiped
    pub find-wiped : (e i : ℕ) (m : Pairs K V) (k : K) → find cmp (filter (λ x. not (in_region e i (hash x.0))) m) k ≡ (if in_region e i (hash k) then None else find cmp m k)
    find-wiped e i [] k = grind arith
    find-wiped e i (x ∷ m) k = grind (arith, common_steps, find-wiped e i m k, lawful x.0 k)

-- a region and its two halves
one_bit : (b x y z : ℕ) → b < 2 → y ≡ b * x + z → (y ≡ z) ⊎ (y ≡ z + x)
one_bit zero x y z l h = inl (omega (arith, h))
one_bit (suc zero) x y z l h = inr (omega (arith, h))
one_bit (suc (suc b)) x y z l h = absurd (omega (arith, l))

next_bit : (h e : ℕ) → (h % 2 ^ suc e ≡ h % 2 ^ e) ⊎ (h % 2 ^ suc e ≡ h % 2 ^ e + 2 ^ e)
next_bit h e = one_bit (h / 2 ^ e % 2) (2 ^ e) (h % 2 ^ suc e) (h % 2 ^ e) (mod_below _ 2 (omega arith)) (ap (λ n. h % 2 ^ n) (let q : suc e ≡ 1 + e = omega arith in q) ∙ mod-pow-add h 1 e)

pub in_a_half : (h e i : ℕ) → h % 2 ^ e ≡ i → (h % 2 ^ suc e ≡ i) ⊎ (h % 2 ^ suc e ≡ i + 2 ^ e)
in_a_half h e i g = grind (arith, next_bit h e, g)

pub in_low_half : (h e i : ℕ) → i < 2 ^ e → h % 2 ^ suc e ≡ i → h % 2 ^ e ≡ i
in_low_half h e i l g = grind (arith, next_bit h e, g, l)

pub in_high_half : (h e i : ℕ) → i < 2 ^ e → h % 2 ^ suc e ≡ i + 2 ^ e → h % 2 ^ e ≡ i
in_high_half h e i l g = grind (arith, next_bit h e, g, l, mod_below h (2 ^ e) (pow_pos e))

pub double : (e : ℕ) → 2 ^ suc e ≡ 2 ^ e + 2 ^ e
double e = omega (arith, pow_more 2 e, ap (λ n. 2 ^ n) (let q : suc e ≡ e + 1 = omega arith in q))

pub small_mod : (e i : ℕ) → i < 2 ^ e → i % 2 ^ e ≡ i
small_mod e i l = ap (λ n. n % 2 ^ e) (let q : i ≡ 0 * 2 ^ e + i = omega arith in q) ∙ mod_low 0 e i l

pub high_mod : (e i : ℕ) → i < 2 ^ e → (i + 2 ^ e) % 2 ^ e ≡ i
high_mod e i l = ap (λ n. n % 2 ^ e) (let q : i + 2 ^ e ≡ 1 * 2 ^ e + i = omega arith in q) ∙ mod_low 1 e i l
