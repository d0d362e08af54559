-- Keeping some entries of each bin of a table.
use Rattle.std.proofs.Common.{◌≡◌, ℕ, zero, suc, ◌+◌, ◌<◌, ◌≤◌, Bool, List, [], ◌∷◌, length, map, get_or, set, refl, sym, ap, ◌∙◌, subst, add-one, arith, Ordering, Equal}
use Rattle.std.specs.Borrow.{Bor}
use Rattle.std.specs.Cmp.{IsTotalOrder}
use Rattle.std.proofs.lemmas.List.Sorted.{length_permutation}
use Rattle.std.proofs.lemmas.List.{length-append, length-map, get_or-map, map-set}
use Rattle.flurry_bins.specs.declared.bin.adaptive.Bin.{Bin}
use Rattle.flurry_bins.specs.Bin.{entries_of_bin}
use Rattle.flurry_base.specs.FiniteMap.{map_of_pairs}
use Rattle.flurry_base.specs.HashOrder.{hash_then_key}
use Rattle.flurry_bins.specs.PlainEntries.{pair_of_entry}
use Rattle.flurry_base.specs.Keeps.{Keeps, CalledAtPair}
use Rattle.flurry_bins.specs.EntryCall.{CalledAtEntry}
use Rattle.flurry_base.proofs.KeepsLaws.{Keeps-length, Keeps-all, Keeps-map, Keeps-append, Keeps-finite_map}
use Rattle.flurry_seq.specs.Retain.{CalledAtPlain, KeepsBins}
use Rattle.flurry_seq.specs.MapsOfBins.{plain_bin, maps_of_bins}
use Rattle.flurry_seq.specs.Table.{pair_of, all_pairs, bin_of}
use Rattle.flurry_seq.specs.Invariant.{IsBinAt, AreBinsFrom, IsTable}
use Rattle.flurry_seq.proofs.IterLaws.{pairs_permute}

-- how many entries the first n bins have
abbrev pub front_len : {X : Type 0} → ℕ → List (List X) → ℕ
front_len zero bins = 0
front_len (suc n) [] = 0
front_len (suc n) (b ∷ bins) = length b + front_len n bins

module _ {X : Type 0} where
  pub front_len-set : (n : ℕ) (bins : List (List X)) (b : List X) → n < length bins → front_len (suc n) (set bins n b) ≡ front_len n bins + length b
  front_len-set n [] b lt = absurd (omega arith)
  front_len-set zero (c ∷ bins) b lt = omega arith
  front_len-set (suc n) (c ∷ bins) b lt = omega (arith, front_len-set n bins b (omega arith))

module _ {K V : Type 0} where
  pub front_len-le : (n : ℕ) (bins : List (List ((ℕ × K) × V))) → front_len n bins ≤ length (all_pairs bins)
  front_len-le zero bins = omega arith
  front_len-le (suc n) [] = omega arith
  front_len-le (suc n) (b ∷ bins) = rw (length-append, length-map) (omega (arith, front_len-le n bins))

  pub front_len-all : (n : ℕ) (bins : List (List ((ℕ × K) × V))) → n ≡ length bins → front_len n bins ≡ length (all_pairs bins)
  front_len-all zero [] e = refl
  front_len-all zero (b ∷ bins) e = absurd (omega arith)
  front_len-all (suc n) [] e = refl
  front_len-all (suc n) (b ∷ bins) e = rw (length-append, length-map) (omega (arith, front_len-all n bins (omega arith)))

module _ {F K V : Type 0} (step : F → Bor K → Bor V → Bool → F → Type 0) where
  -- the first n bins were gone through, and the others are as they were
  abbrev pub KeepsBefore : ℕ → F → List (List ((ℕ × K) × V)) → List (List ((ℕ × K) × V)) → F → Type 0
  KeepsBefore zero first bins now last = (now ≡ bins) × (first ≡ last)
  KeepsBefore (suc n) first [] now last = ⊥
  KeepsBefore (suc n) first (b ∷ bins) now last =
      (new : List ((ℕ × K) × V)) × (next : F) × (rest : List (List ((ℕ × K) × V))) × Keeps (CalledAtPlain step) first b new next × KeepsBefore n next bins rest last × (now ≡ new ∷ rest)

  -- one bin more
  pub KeepsBefore-more : (n : ℕ) (first : F) (bins now : List (List ((ℕ × K) × V))) (next last : F) (b : List ((ℕ × K) × V)) → KeepsBefore n first bins now next → n < length bins → Keeps (CalledAtPlain step) next (get_or now n []) b last
      → KeepsBefore (suc n) first bins (set now n b) last
  KeepsBefore-more zero first [] now next last b h lt k = absurd (omega arith)
  KeepsBefore-more zero first (c ∷ bins) now next last b h lt k =
      let here = subst (λ f. Keeps (CalledAtPlain step) f (get_or now 0 []) b last) (sym h.1) k in
      (b, last, bins, subst (λ l. Keeps (CalledAtPlain step) first (get_or l 0 []) b last) h.0 here, (refl, refl), ap (λ l. set l 0 b) h.0)
  KeepsBefore-more (suc n) first [] now next last b h lt k = absurd h
  KeepsBefore-more (suc n) first (c ∷ bins) now next last b h lt k =
      let there = subst (λ l. Keeps (CalledAtPlain step) next (get_or l (suc n) []) b last) h.5 k in
      (h.0, h.1, set h.2 n b, h.3, KeepsBefore-more n h.1 bins h.2 next last b h.4 (omega arith) there, ap (λ l. set l (suc n) b) h.5)

  pub KeepsBefore-length : (n : ℕ) (first : F) (bins now : List (List ((ℕ × K) × V))) (last : F) → KeepsBefore n first bins now last → length now ≡ length bins
  KeepsBefore-length zero first bins now last h = ap length h.0
  KeepsBefore-length (suc n) first [] now last h = absurd h
  KeepsBefore-length (suc n) first (b ∷ bins) now last h = rw h.5 (omega (arith, KeepsBefore-length n h.1 bins h.2 last h.4))

  -- no more entries than there were
  pub KeepsBefore-fewer : (n : ℕ) (first : F) (bins now : List (List ((ℕ × K) × V))) (last : F) → KeepsBefore n first bins now last → length (all_pairs now) ≤ length (all_pairs bins)
  KeepsBefore-fewer zero first bins now last h = rw h.0 (omega arith)
  KeepsBefore-fewer (suc n) first [] now last h = absurd h
  KeepsBefore-fewer (suc n) first (b ∷ bins) now last h =
      let rest = KeepsBefore-fewer n h.1 bins h.2 last h.4 in
      let here = Keeps-length (CalledAtPlain step) first b h.0 h.1 h.3 in
      let now_len = length-append (map pair_of h.0) (all_pairs h.2) in
      let old_len = length-append (map pair_of b) (all_pairs bins) in
      rw h.5 (omega (arith, rest, here, now_len, old_len, length-map h.0 pair_of, length-map b pair_of))

  -- all of them
  pub KeepsBefore-all : (n : ℕ) (first : F) (bins now : List (List ((ℕ × K) × V))) (last : F) → KeepsBefore n first bins now last → n ≡ length bins → KeepsBins step first bins now last
  KeepsBefore-all zero first [] now last h e = h
  KeepsBefore-all zero first (b ∷ bins) now last h e = absurd (omega arith)
  KeepsBefore-all (suc n) first [] now last h e = absurd h
  KeepsBefore-all (suc n) first (b ∷ bins) now last h e = (h.0, h.1, h.2, h.3, KeepsBefore-all n h.1 bins h.2 last h.4 (omega arith), h.5)

  -- ---- what is kept of a table

  pub KeepsBins-length : (first : F) (bins kept : List (List ((ℕ × K) × V))) (last : F) → KeepsBins step first bins kept last → length kept ≡ length bins
  KeepsBins-length first [] kept last h = ap length h.0
  KeepsBins-length first (b ∷ bins) kept last h = rw h.5 (omega (arith, KeepsBins-length h.1 bins h.2 last h.4))

  -- the calls on the bins are calls on all pairs in the order of the table
  pub KeepsBins-pairs : (first : F) (bins kept : List (List ((ℕ × K) × V))) (last : F) → KeepsBins step first bins kept last → Keeps (CalledAtPair step) first (all_pairs bins) (all_pairs kept) last
  KeepsBins-pairs first [] kept last h = (ap all_pairs h.0, h.1)
  KeepsBins-pairs first (b ∷ bins) kept last h =
      rw h.5
      (Keeps-append (CalledAtPair step) first (map pair_of b) (map pair_of h.0) h.1 (all_pairs bins) (all_pairs h.2) last (Keeps-map (CalledAtPair step) pair_of first b h.0 h.1 h.3) (KeepsBins-pairs h.1 bins h.2 last h.4))

  -- each bin has entries of its own
  pub KeepsBins-placed : (cmp : K → K → Ordering) (hash : K → ℕ) (n i : ℕ) (first : F) (bins kept : List (List ((ℕ × K) × V))) (last : F) → KeepsBins step first bins kept last → AreBinsFrom cmp hash n i bins → AreBinsFrom cmp hash n i kept
  KeepsBins-placed cmp hash n i first [] kept last h p = rw h.0 tt
  KeepsBins-placed cmp hash n i first (b ∷ bins) kept last h p =
      let here : IsBinAt cmp hash n i h.0 = record {
        ascends = Keeps-finite_map (CalledAtPlain step) (hash_then_key cmp) first b h.0 h.1 h.3 p.0.ascends;
        placed = Keeps-all (CalledAtPlain step) (λ e. (e.0.0 ≡ hash e.0.1) × (bin_of n e.0.0 ≡ i)) first b h.0 h.1 h.3 p.0.placed;
      } in
      rw h.5 (here, KeepsBins-placed cmp hash n (suc i) h.1 bins h.2 last h.4 p.1)

-- the table that is seen has as many bins as before
pub seen_length : {F K V A : Type 0} {o : _} {e : _} {p : _} (step : F → Bor K → Bor V → Bool → F → Type 0) (at : ℕ) (first : F) (old xs : List (Bin K V A o e p)) (next : F)
    → KeepsBefore step at first (maps_of_bins old) (maps_of_bins xs) next → length xs ≡ length old
seen_length step at first old xs next before = sym (length-map xs plain_bin) ∙ KeepsBefore-length step at first (maps_of_bins old) (maps_of_bins xs) next before ∙ length-map old plain_bin

-- one bin more of it
pub record KeepsMore {F K V A : Type 0} {o : _} {e : _} {p : _} (step : F → Bor K → Bor V → Bool → F → Type 0) (at : ℕ) (first : F) (old xs : List (Bin K V A o e p)) (new : Bin K V A o e p) (last : F) : Type 0 where
  pub kept : KeepsBefore step (at + 1) first (maps_of_bins old) (maps_of_bins (set xs at new)) last
  pub len : front_len (at + 1) (maps_of_bins (set xs at new)) ≡ front_len at (maps_of_bins xs) + length (entries_of_bin new)
  pub few : front_len (at + 1) (maps_of_bins (set xs at new)) ≤ length (all_pairs (maps_of_bins old))

pub keeps_here : {F K V A : Type 0} {o : _} {e : _} {p : _} (step : F → Bor K → Bor V → Bool → F → Type 0) (at : ℕ) (first : F) (old xs : List (Bin K V A o e p)) (next : F) (b new : Bin K V A o e p) (last : F)
    → KeepsBefore step at first (maps_of_bins old) (maps_of_bins xs) next → at < length old → b ≡ get_or xs at b → Keeps (CalledAtEntry step) next (entries_of_bin b) (entries_of_bin new) last → KeepsMore step at first old xs new last
keeps_here step at first old xs next b new last before lt is calls =
    let long = seen_length step at first old xs next before in
    let here : get_or (maps_of_bins xs) at [] ≡ plain_bin b = get_or-map plain_bin xs at b [] (omega arith) ∙ ap plain_bin (sym is) in
    let plain_calls : Keeps (CalledAtPlain step) next (plain_bin b) (plain_bin new) last = Keeps-map (CalledAtPlain step) pair_of_entry next (entries_of_bin b) (entries_of_bin new) last calls in
    let in_seen : at < length (maps_of_bins xs) = rw length-map (omega arith) in
    let in_old : at < length (maps_of_bins old) = rw length-map lt in
    let on : maps_of_bins (set xs at new) ≡ set (maps_of_bins xs) at (plain_bin new) = map-set plain_bin xs at new in
    let more : KeepsBefore step (suc at) first (maps_of_bins old) (set (maps_of_bins xs) at (plain_bin new)) last =
    KeepsBefore-more step at first (maps_of_bins old) (maps_of_bins xs) next last (plain_bin new) before in_old (subst (λ l. Keeps (CalledAtPlain step) next l (plain_bin new) last) (sym here) plain_calls) in
    let kept : KeepsBefore step (at + 1) first (maps_of_bins old) (maps_of_bins (set xs at new)) last = rw (on, add-one) more in
    let len : front_len (at + 1) (maps_of_bins (set xs at new)) ≡ front_len at (maps_of_bins xs) + length (entries_of_bin new) =
    rw (on, add-one) (front_len-set at (maps_of_bins xs) (plain_bin new) in_seen ∙ ap (λ n. front_len at (maps_of_bins xs) + n) (length-map (entries_of_bin new) pair_of_entry)) in
    record {
      kept = kept;
      len = len;
      few = omega (arith, front_len-le (at + 1) (maps_of_bins (set xs at new)), KeepsBefore-fewer step (at + 1) first (maps_of_bins old) (maps_of_bins (set xs at new)) last kept);
    }

module _ {F K V : Type 0} {cmp : K → K → Ordering} (o : IsTotalOrder cmp) (hash : K → ℕ) (respects : (a b : K) → cmp a b ≡ Equal → hash a ≡ hash b) (step : F → Bor K → Bor V → Bool → F → Type 0) where
  -- a map has as many pairs as its table
  pub as_many : (bins : List (List ((ℕ × K) × V))) (len : ℕ) → IsTable cmp hash bins len → length (all_pairs bins) ≡ len
  as_many bins len t = omega (arith, t.count, length_permutation (map_of_pairs cmp (all_pairs bins)) (all_pairs bins) (pairs_permute o hash respects bins t.placed))

  pub IsTable-kept : (first : F) (bins kept : List (List ((ℕ × K) × V))) (last : F) (len : ℕ) → KeepsBins step first bins kept last → IsTable cmp hash bins len → IsTable cmp hash kept (length (all_pairs kept))
  IsTable-kept first bins kept last len h t =
      let placed : AreBinsFrom cmp hash (length kept) 0 kept =
      subst (λ n. AreBinsFrom cmp hash n 0 kept) (sym (KeepsBins-length step first bins kept last h)) (KeepsBins-placed step cmp hash (length bins) 0 first bins kept last h t.placed) in
      record {
        placed = placed;
        count = omega (arith, length_permutation (map_of_pairs cmp (all_pairs kept)) (all_pairs kept) (pairs_permute o hash respects kept placed));
        few = omega (arith, as_many bins len t, t.few, Keeps-length (CalledAtPair step) first (all_pairs bins) (all_pairs kept) last (KeepsBins-pairs step first bins kept last h));
      }
