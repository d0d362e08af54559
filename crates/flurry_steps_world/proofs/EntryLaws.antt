-- A bin's entries, as a slot keeps them and as the machine does: what is found, what is written and left out, and what moves.
use Rattle.std.specs.Prelude.{◌≡◌, ℕ, zero, suc, ◌+◌, ◌-◌, ◌*◌, ◌%◌, ◌^◌, ◌<◌, ◌≤◌, ◌==◌, Bool, true, false, List, [], ◌∷◌, length, filter, Option, Some, None, option_map}
use Rattle.std.specs.declared.cmp.Ordering.{Ordering}
use Rattle.std.specs.declared.cmp.Ordering.TheVariants.{Less, Equal, Greater}
use Rattle.std.specs.Ordering.{is_eq, ordering_then, nat_cmp}
use Rattle.std.specs.Cmp.{IsTotalOrder, both_ways}
use Rattle.std.specs.Int.{bit_at}
use Rattle.std.specs.List.{AllByRecursion}
use Rattle.std.specs.Map.{keys_of}
use Rattle.std.proofs.Common.{arith, refl, sym, ◌∙◌, ap}
use Rattle.std.proofs.lemmas.List.{length-map}
use Rattle.std.proofs.lemmas.Map.Keys.{sorted_head, sorted_tail}
use Rattle.std.proofs.lemmas.Cmp.{tied_itself, nat_cmp_total}
use Rattle.std.proofs.lemmas.Bool.{eq-eqb, ne_eqb}
use Rattle.std.proofs.lemmas.Nat.{mod-pow-add, mod_below, pow_pos}
use Rattle.flurry_base.specs.FiniteMap.{IsFiniteMap, pair_at, with_pair, without}
use Rattle.flurry_base.specs.HashOrder.{hash_then_key}
use Rattle.flurry_base.specs.HashOrder as region
use Rattle.flurry_base.proofs.FiniteMapLaws.{pair_at_below, below_all, all_with_pair, all_without, alike_all}
use Rattle.flurry_base.proofs.HashOrderLaws.{hash_then_key_total}
use Rattle.flurry_bins_slots.specs.Slot.{PlainEntry, next_number}
use Rattle.flurry_steps_theory.specs.Map.{same, find}
use Rattle.flurry_steps_theory.specs.Trace.{in_region}
use Rattle.flurry_steps_theory.specs.Bin.{pairs_of, number_of, bump, order, Above, IsAscending, InRegion, half, place, rewrite, leave_out, write_entry}
use Rattle.flurry_steps_theory.proofs.Bins.{one_class, same-order}
use Rattle.flurry_steps_world.specs.Entries.{entry_of_held, machine_entries, IsHashed}

-- the next write number, where the count of writes is at most the greatest number
pub next_number-bump : (n : ℕ) → n ≤ 2 ^ 64 - 1 → next_number n ≡ bump n
next_number-bump n l = grind (arith, l)

module _ {K V : Type 0} where
  pub length-machine_entries : (plain_entries : List (PlainEntry K V)) → length (machine_entries plain_entries) ≡ length plain_entries
  length-machine_entries plain_entries = length-map plain_entries entry_of_held

module _ {K V : Type 0} (hash : K → ℕ) where
  -- each entry that a test leaves has its key's hash
  pub IsHashed-filter : (test : PlainEntry K V → Bool) (plain_entries : List (PlainEntry K V)) → IsHashed hash plain_entries → IsHashed hash (filter test plain_entries)
  IsHashed-filter test [] hd = tt
  IsHashed-filter test (x ∷ plain_entries) hd = by_test (test x) refl (IsHashed-filter test plain_entries hd.1)
    where
      by_test : (b : Bool) → test x ≡ b → IsHashed hash (filter test plain_entries) → IsHashed hash (filter test (x ∷ plain_entries))
      by_test true p ih = rw p (hd.0, ih)
      by_test false p ih = rw p ih

  -- the machine's entries lie in the region of the hashes
  pub InRegion-entries : (e i : ℕ) (plain_entries : List (PlainEntry K V)) → IsHashed hash plain_entries → AllByRecursion (λ (k : ℕ × K). region.InRegion e i k.0) (keys_of plain_entries) → InRegion hash e i (machine_entries plain_entries)
  InRegion-entries e i [] hd r = tt
  InRegion-entries e i (x ∷ plain_entries) hd r = (ap (λ n. n % 2 ^ e) (sym hd.0) ∙ r.0, InRegion-entries e i plain_entries hd.1 r.1)

module _ {K : Type 0} (cmp : K → K → Ordering) (total : IsTotalOrder cmp) (hash : K → ℕ) (lawful : (j k : K) → same cmp j k ≡ true → hash j ≡ hash k) where
  -- the two orders, at keys with their hashes
  pub order_at : (p q : ℕ × K) → p.0 ≡ hash p.1 → q.0 ≡ hash q.1 → hash_then_key cmp p q ≡ order cmp hash p.1 q.1
  order_at p q hp hq = ap (λ n. ordering_then (nat_cmp n q.0) (cmp p.1 q.1)) hp ∙ ap (λ n. ordering_then (nat_cmp (hash p.1) n) (cmp p.1 q.1)) hq

  order-same : (j k : K) → same cmp j k ≡ true → order cmp hash j k ≡ Equal
  order-same j k h = grind (arith, h, lawful j k h, tied_itself nat_cmp_total (hash j))

  is_equal : (o : Ordering) → is_eq o ≡ true → o ≡ Equal
  is_equal Less h = cc
  is_equal Equal h = refl
  is_equal Greater h = cc

  -- an entry is at the place of a key where its key is of that class
  update : (k : K) (q : ℕ × K) → q.0 ≡ hash q.1 → is_eq (hash_then_key cmp (hash k, k) q) ≡ same cmp q.1 k
  update k q h =
      ap is_eq (order_at (hash k, k) q refl h)
      ∙ both_ways _ (same cmp k q.1) (λ e. same-order cmp total hash lawful k q.1 (is_equal _ e)) (λ e. ap is_eq (order-same k q.1 e))
      ∙ (one_class cmp total).symm k q.1

module _ {K V : Type 0} (cmp : K → K → Ordering) (total : IsTotalOrder cmp) (hash : K → ℕ) (lawful : (j k : K) → same cmp j k ≡ true → hash j ≡ hash k) where
  -- ---- what is found

  -- the stored key and the value
  pub find-entries : (plain_entries : List (PlainEntry K V)) (k : K) → IsHashed hash plain_entries → find cmp (pairs_of (machine_entries plain_entries)) k ≡ option_map (λ (x : PlainEntry K V). (x.0.1, x.1.0)) (pair_at (hash_then_key cmp) plain_entries (hash k, k))
  find-entries [] k hd = refl
  find-entries (x ∷ plain_entries) k hd = by_test (same cmp x.0.1 k) refl (find-entries plain_entries k hd.1)
    where
      by_test : (b : Bool) → same cmp x.0.1 k ≡ b → find cmp (pairs_of (machine_entries plain_entries)) k ≡ option_map (λ (x : PlainEntry K V). (x.0.1, x.1.0)) (pair_at (hash_then_key cmp) plain_entries (hash k, k))
          → find cmp (pairs_of (machine_entries (x ∷ plain_entries))) k ≡ option_map (λ (x : PlainEntry K V). (x.0.1, x.1.0)) (pair_at (hash_then_key cmp) (x ∷ plain_entries) (hash k, k))
      by_test true p ih = rw (p, update cmp total hash lawful k x.0 hd.0, p) refl
      by_test false p ih = rw (p, update cmp total hash lawful k x.0 hd.0, p) ih

  -- the number of the write
  pub number-entries : (plain_entries : List (PlainEntry K V)) (k : K) → IsHashed hash plain_entries → number_of cmp (machine_entries plain_entries) k ≡ option_map (λ (x : PlainEntry K V). x.1.1) (pair_at (hash_then_key cmp) plain_entries (hash k, k))
  number-entries [] k hd = refl
  number-entries (x ∷ plain_entries) k hd = by_test (same cmp x.0.1 k) refl (number-entries plain_entries k hd.1)
    where
      by_test : (b : Bool) → same cmp x.0.1 k ≡ b → number_of cmp (machine_entries plain_entries) k ≡ option_map (λ (x : PlainEntry K V). x.1.1) (pair_at (hash_then_key cmp) plain_entries (hash k, k))
          → number_of cmp (machine_entries (x ∷ plain_entries)) k ≡ option_map (λ (x : PlainEntry K V). x.1.1) (pair_at (hash_then_key cmp) (x ∷ plain_entries) (hash k, k))
      by_test true p ih = rw (p, update cmp total hash lawful k x.0 hd.0, p) refl
      by_test false p ih = rw (p, update cmp total hash lawful k x.0 hd.0, p) ih

  -- ---- the order

  Above-entries : (q : ℕ × K) (plain_entries : List (PlainEntry K V)) → q.0 ≡ hash q.1 → IsHashed hash plain_entries → AllByRecursion (λ y. hash_then_key cmp q y ≡ Less) (keys_of plain_entries) → Above cmp hash q.1 (machine_entries plain_entries)
  Above-entries q [] hq hd a = tt
  Above-entries q (x ∷ plain_entries) hq hd a = (sym (order_at cmp total hash lawful q x.0 hq hd.0) ∙ a.0, Above-entries q plain_entries hq hd.1 a.1)

  pub IsAscending-entries : (plain_entries : List (PlainEntry K V)) → IsFiniteMap (hash_then_key cmp) plain_entries → IsHashed hash plain_entries → IsAscending cmp hash (machine_entries plain_entries)
  IsAscending-entries [] up hd = tt
  IsAscending-entries (x ∷ plain_entries) up hd =
      (Above-entries x.0 plain_entries hd.0 hd.1 (sorted_head (hash_then_key cmp) x.0 (keys_of plain_entries) up), IsAscending-entries plain_entries (sorted_tail (hash_then_key cmp) x.0 (keys_of plain_entries) up) hd.1)

  -- ---- what is written and left out

  -- nothing is at the place of a key below the first entry
  none_below : (x : PlainEntry K V) (plain_entries : List (PlainEntry K V)) (q : ℕ × K) → IsFiniteMap (hash_then_key cmp) (x ∷ plain_entries) → hash_then_key cmp q x.0 ≡ Less → pair_at (hash_then_key cmp) (x ∷ plain_entries) q ≡ None
  none_below x plain_entries q up p = pair_at_below (hash_then_key_total total) (x ∷ plain_entries) q (p, below_all (hash_then_key_total total) q x.0 (keys_of plain_entries) p (sorted_head (hash_then_key cmp) x.0 (keys_of plain_entries) up))

  -- a new key comes to its place
  pub place-entries : (plain_entries : List (PlainEntry K V)) (k : K) (v : V) (n : ℕ) → IsHashed hash plain_entries → pair_at (hash_then_key cmp) plain_entries (hash k, k) ≡ None
      → machine_entries (with_pair (hash_then_key cmp) plain_entries (hash k, k) (v, n)) ≡ place cmp hash (record { key = k; value = v; number = n }) (machine_entries plain_entries)
  place-entries [] k v n hd none = refl
  place-entries (x ∷ plain_entries) k v n hd none = by_order (hash_then_key cmp (hash k, k) x.0) refl (place-entries plain_entries k v n hd.1)
    where
      by_order : (r : Ordering) → hash_then_key cmp (hash k, k) x.0 ≡ r
          → (pair_at (hash_then_key cmp) plain_entries (hash k, k) ≡ None → machine_entries (with_pair (hash_then_key cmp) plain_entries (hash k, k) (v, n)) ≡ place cmp hash (record { key = k; value = v; number = n }) (machine_entries plain_entries))
          → machine_entries (with_pair (hash_then_key cmp) (x ∷ plain_entries) (hash k, k) (v, n)) ≡ place cmp hash (record { key = k; value = v; number = n }) (machine_entries (x ∷ plain_entries))
      by_order Less p ih = let o : order cmp hash k x.0.1 ≡ Less = sym (order_at cmp total hash lawful (hash k, k) x.0 refl hd.0) ∙ p in rw (p, o) refl
      by_order Equal p ih = let there = rw p at none in cc
      by_order Greater p ih =
          let o : order cmp hash k x.0.1 ≡ Greater = sym (order_at cmp total hash lawful (hash k, k) x.0 refl hd.0) ∙ p in
          let further = rw p at none in
          rw (p, o) (ap (λ es. entry_of_held x ∷ es) (ih further))

  -- a key that is stored stays, and takes the value
  pub rewrite-entries : (plain_entries : List (PlainEntry K V)) (k : K) (v : V) (n : ℕ) (y : PlainEntry K V) → IsFiniteMap (hash_then_key cmp) plain_entries → IsHashed hash plain_entries → pair_at (hash_then_key cmp) plain_entries (hash k, k) ≡ Some y
      → machine_entries (with_pair (hash_then_key cmp) plain_entries (hash k, k) (v, n)) ≡ rewrite cmp hash k v n (machine_entries plain_entries)
  rewrite-entries [] k v n y up hd some = cc
  rewrite-entries (x ∷ plain_entries) k v n y up hd some = by_order (hash_then_key cmp (hash k, k) x.0) refl (rewrite-entries plain_entries k v n y (sorted_tail (hash_then_key cmp) x.0 (keys_of plain_entries) up) hd.1)
    where
      by_order : (r : Ordering) → hash_then_key cmp (hash k, k) x.0 ≡ r
          → (pair_at (hash_then_key cmp) plain_entries (hash k, k) ≡ Some y → machine_entries (with_pair (hash_then_key cmp) plain_entries (hash k, k) (v, n)) ≡ rewrite cmp hash k v n (machine_entries plain_entries))
          → machine_entries (with_pair (hash_then_key cmp) (x ∷ plain_entries) (hash k, k) (v, n)) ≡ rewrite cmp hash k v n (machine_entries (x ∷ plain_entries))
      by_order Less p ih = let none = none_below x plain_entries (hash k, k) up p in cc
      by_order Equal p ih = let s : same cmp x.0.1 k ≡ true = sym (update cmp total hash lawful k x.0 hd.0) ∙ ap is_eq p in rw (p, s) refl
      by_order Greater p ih =
          let s : same cmp x.0.1 k ≡ false = sym (update cmp total hash lawful k x.0 hd.0) ∙ ap is_eq p in
          let further = rw p at some in
          rw (p, s) (ap (λ es. entry_of_held x ∷ es) (ih further))

  -- so a value is written as the machine writes it
  pub write-entries : (plain_entries : List (PlainEntry K V)) (k : K) (v : V) (n : ℕ) → IsFiniteMap (hash_then_key cmp) plain_entries → IsHashed hash plain_entries
      → machine_entries (with_pair (hash_then_key cmp) plain_entries (hash k, k) (v, n)) ≡ write_entry cmp hash k v n (machine_entries plain_entries)
  write-entries plain_entries k v n up hd = by_found (pair_at (hash_then_key cmp) plain_entries (hash k, k)) refl
    where
      by_found : (o : Option (PlainEntry K V)) → pair_at (hash_then_key cmp) plain_entries (hash k, k) ≡ o → machine_entries (with_pair (hash_then_key cmp) plain_entries (hash k, k) (v, n)) ≡ write_entry cmp hash k v n (machine_entries plain_entries)
      by_found None p = rw (number-entries plain_entries k hd, p) (place-entries plain_entries k v n hd p)
      by_found (Some y) p = rw (number-entries plain_entries k hd, p) (rewrite-entries plain_entries k v n y up hd p)

  -- where no entry is found, none is left out
  pub leave_out-none : (plain_entries : List (PlainEntry K V)) (k : K) → IsHashed hash plain_entries → pair_at (hash_then_key cmp) plain_entries (hash k, k) ≡ None → leave_out cmp hash k (machine_entries plain_entries) ≡ machine_entries plain_entries
  leave_out-none [] k hd none = refl
  leave_out-none (x ∷ plain_entries) k hd none = by_test (same cmp x.0.1 k) refl (leave_out-none plain_entries k hd.1)
    where
      by_test : (b : Bool) → same cmp x.0.1 k ≡ b → (pair_at (hash_then_key cmp) plain_entries (hash k, k) ≡ None → leave_out cmp hash k (machine_entries plain_entries) ≡ machine_entries plain_entries)
          → leave_out cmp hash k (machine_entries (x ∷ plain_entries)) ≡ machine_entries (x ∷ plain_entries)
      by_test true p ih = let there = rw (update cmp total hash lawful k x.0 hd.0, p) at none in cc
      by_test false p ih = let further = rw (update cmp total hash lawful k x.0 hd.0, p) at none in rw p (ap (λ es. entry_of_held x ∷ es) (ih further))

  -- an entry is left out as the machine leaves it out
  pub leave_out-entries : (plain_entries : List (PlainEntry K V)) (k : K) → IsFiniteMap (hash_then_key cmp) plain_entries → IsHashed hash plain_entries
      → machine_entries (without (hash_then_key cmp) plain_entries (hash k, k)) ≡ leave_out cmp hash k (machine_entries plain_entries)
  leave_out-entries [] k up hd = refl
  leave_out-entries (x ∷ plain_entries) k up hd = by_order (hash_then_key cmp (hash k, k) x.0) refl (leave_out-entries plain_entries k (sorted_tail (hash_then_key cmp) x.0 (keys_of plain_entries) up) hd.1)
    where
      by_order : (r : Ordering) → hash_then_key cmp (hash k, k) x.0 ≡ r → machine_entries (without (hash_then_key cmp) plain_entries (hash k, k)) ≡ leave_out cmp hash k (machine_entries plain_entries)
          → machine_entries (without (hash_then_key cmp) (x ∷ plain_entries) (hash k, k)) ≡ leave_out cmp hash k (machine_entries (x ∷ plain_entries))
      by_order Less p ih = let s : same cmp x.0.1 k ≡ false = sym (update cmp total hash lawful k x.0 hd.0) ∙ ap is_eq p in rw (p, s) (ap (λ es. entry_of_held x ∷ es) ih)
      by_order Greater p ih = let s : same cmp x.0.1 k ≡ false = sym (update cmp total hash lawful k x.0 hd.0) ∙ ap is_eq p in rw (p, s) (ap (λ es. entry_of_held x ∷ es) ih)
      by_order Equal p ih =
          let s : same cmp x.0.1 k ≡ true = sym (update cmp total hash lawful k x.0 hd.0) ∙ ap is_eq p in
          rw (p, s)
          (sym (leave_out-none plain_entries k hd.1
          (pair_at_below (hash_then_key_total total) plain_entries (hash k, k)
          (alike_all (hash_then_key_total total) (keys_of plain_entries) (hash k, k) x.0 p (sorted_head (hash_then_key cmp) x.0 (keys_of plain_entries) up)))))

  -- each key keeps its hash
  pub IsHashed-with_pair : (plain_entries : List (PlainEntry K V)) (k : K) (v : V) (n : ℕ) → IsHashed hash plain_entries → IsHashed hash (with_pair (hash_then_key cmp) plain_entries (hash k, k) (v, n))
  IsHashed-with_pair plain_entries k v n hd = all_with_pair (hash_then_key_total total) (λ (q : ℕ × K). q.0 ≡ hash q.1) plain_entries (hash k, k) (v, n) refl hd

  pub IsHashed-without : (plain_entries : List (PlainEntry K V)) (k : K) → IsHashed hash plain_entries → IsHashed hash (without (hash_then_key cmp) plain_entries (hash k, k))
  IsHashed-without plain_entries k hd = all_without (hash_then_key_total total) (λ (q : ℕ × K). q.0 ≡ hash q.1) plain_entries (hash k, k) hd

-- ---- halves

-- the remainder by twice x, where b is the bit at x
low_bit : (b x y z : ℕ) → b < 2 → 0 < x → y ≡ b * x + z → (b == 0) ≡ (y == z)
low_bit zero x y z l p h = sym (eq-eqb y z (omega (arith, h)))
low_bit (suc zero) x y z l p h = sym (ne_eqb y z (λ e. omega (arith, h, e, p)))
low_bit (suc (suc b)) x y z l p h = absurd (omega (arith, l))

high_bit : (b x y z : ℕ) → b < 2 → 0 < x → y ≡ b * x + z → (b == 1) ≡ (y == z + x)
high_bit zero x y z l p h = sym (ne_eqb y (z + x) (λ e. omega (arith, h, e, p)))
high_bit (suc zero) x y z l p h = sym (eq-eqb y (z + x) (omega (arith, h)))
high_bit (suc (suc b)) x y z l p h = absurd (omega (arith, l))

next_mod : (h e : ℕ) → h % 2 ^ suc e ≡ bit_at h e * 2 ^ e + h % 2 ^ e
next_mod h e = ap (λ n. h % 2 ^ n) (let q : suc e ≡ 1 + e = omega arith in q) ∙ mod-pow-add h 1 e

low_half : (h e i : ℕ) → h % 2 ^ e ≡ i → (bit_at h e == 0) ≡ in_region (suc e) i h
low_half h e i g = low_bit (bit_at h e) (2 ^ e) (h % 2 ^ suc e) (h % 2 ^ e) (mod_below _ 2 (omega arith)) (pow_pos e) (next_mod h e) ∙ ap (λ n. h % 2 ^ suc e == n) g

high_half : (h e i : ℕ) → h % 2 ^ e ≡ i → (bit_at h e == 1) ≡ in_region (suc e) (i + 2 ^ e) h
high_half h e i g = high_bit (bit_at h e) (2 ^ e) (h % 2 ^ suc e) (h % 2 ^ e) (mod_below _ 2 (omega arith)) (pow_pos e) (next_mod h e) ∙ ap (λ n. h % 2 ^ suc e == n + 2 ^ e) g

module _ {K V : Type 0} (hash : K → ℕ) where
  -- the entries that a test leaves, where it tells the machine's region of each
  filtered : (test : PlainEntry K V → Bool) (P : ℕ → Type 0) (e i : ℕ) (plain_entries : List (PlainEntry K V)) → ((x : PlainEntry K V) → P x.0.0 → test x ≡ in_region e i x.0.0) → IsHashed hash plain_entries → AllByRecursion (λ (k : ℕ × K). P k.0) (keys_of plain_entries)
      → machine_entries (filter test plain_entries) ≡ half hash e i (machine_entries plain_entries)
  filtered test P e i [] tells hd r = refl
  filtered test P e i (x ∷ plain_entries) tells hd r = by_test (test x) refl (filtered test P e i plain_entries tells hd.1 r.1)
    where
      by_test : (b : Bool) → test x ≡ b → machine_entries (filter test plain_entries) ≡ half hash e i (machine_entries plain_entries) → machine_entries (filter test (x ∷ plain_entries)) ≡ half hash e i (machine_entries (x ∷ plain_entries))
      by_test true p ih = let there : in_region e i (hash x.0.1) ≡ true = ap (in_region e i) (sym hd.0) ∙ sym (tells x r.0) ∙ p in rw (p, there) (ap (λ es. entry_of_held x ∷ es) ih)
      by_test false p ih = let elsewhere : in_region e i (hash x.0.1) ≡ false = ap (in_region e i) (sym hd.0) ∙ sym (tells x r.0) ∙ p in rw (p, elsewhere) ih

  -- the low half and the high half of a bin
  pub low-entries : (e i : ℕ) (plain_entries : List (PlainEntry K V)) → IsHashed hash plain_entries → AllByRecursion (λ (k : ℕ × K). region.InRegion e i k.0) (keys_of plain_entries)
      → machine_entries (filter (λ x. bit_at x.0.0 e == 0) plain_entries) ≡ half hash (suc e) i (machine_entries plain_entries)
  low-entries e i plain_entries hd r = filtered _ (region.InRegion e i) (suc e) i plain_entries (λ x g. low_half x.0.0 e i g) hd r

  pub high-entries : (e i : ℕ) (plain_entries : List (PlainEntry K V)) → IsHashed hash plain_entries → AllByRecursion (λ (k : ℕ × K). region.InRegion e i k.0) (keys_of plain_entries)
      → machine_entries (filter (λ x. bit_at x.0.0 e == 1) plain_entries) ≡ half hash (suc e) (i + 2 ^ e) (machine_entries plain_entries)
  high-entries e i plain_entries hd r = filtered _ (region.InRegion e i) (suc e) (i + 2 ^ e) plain_entries (λ x g. high_half x.0.0 e i g) hd r
