-- What an edit at a place makes of entries that are cut there.
use Rattle.std.proofs.Common.{◌≡◌, ℕ, ◌+◌, arith, Bool, true, false, not, List, [], ◌∷◌, ◌++◌, length, reverse, Option, Some, None, refl, sym, ap, ◌∙◌, cond}
use Rattle.std.proofs.lemmas.List.{reverse-append, length-append, append-nil}
use Rattle.std.specs.List.{AllByRecursion, filter}
use Rattle.std.specs.declared.cmp.Ordering.{Ordering}
use Rattle.std.specs.declared.cmp.Ordering.TheVariants.{Less, Equal, Greater}
use Rattle.std.specs.Ordering.{is_eq, is_gt, ordering_reverse}
use Rattle.std.specs.Cmp.{IsTotalOrder}
use Rattle.std.specs.Option.{is_some, IsSome, IsNone}
use Rattle.std.specs.Arc.{arc_value}
use Rattle.std.specs.declared.sync.Arc.{Arc}
use Rattle.flurry_bins.specs.declared.bin.entry.Entry.{Entry}
use Rattle.flurry_bins.specs.Entries.{place_cmp, entry_cmp, IsAscending, is_at, is_before, is_past, entry_at, with_entry, with_value_at, without, with_value, AllBefore, NotBefore}
use Rattle.flurry_base.proofs.ListParts.{all_append, all_first, all_second, sorted_head, sorted_tail, sorted_cons, sorted_back}
use Rattle.flurry_bins.proofs.Places.{AllPast, past_rest, entry_at-back, without-back, before-back, past-back, with_value_at-back, entry_at-front, without-front, before-front, past-front, with_value_at-front}
use Rattle.flurry_bins.proofs.PlainEntryLaws.{entry_total}

pub all_reverse : {X : Type 0} (P : X → Type 0) (xs : List X) → AllByRecursion P xs → AllByRecursion P (reverse xs)
all_reverse P [] h = tt
all_reverse P (x ∷ xs) h =
    let turned : reverse (x ∷ xs) ≡ reverse xs ++ x ∷ [] = reverse-append (x ∷ []) xs in
    rw turned (all_append P (reverse xs) (x ∷ []) (all_reverse P xs h.1) (h.0, tt))

module _ {K V A : Type 0} {cmp : K → K → Ordering} (o : IsTotalOrder cmp) where
  -- a new entry between those before its place and those past it
  sorted_between : (ds : List (Entry K V A)) (x : Entry K V A) (es : List (Entry K V A)) → IsAscending cmp (ds ++ es) → AllBefore cmp x.hash (arc_value x.key) ds → AllPast cmp x.hash (arc_value x.key) es → IsAscending cmp (ds ++ x ∷ es)
  sorted_between [] x es up b p = sorted_cons (entry_cmp cmp) x es p up
  sorted_between (d ∷ ds) x es up b p =
      let head = sorted_head (entry_cmp cmp) d (ds ++ es) up in
      let below : entry_cmp cmp d x ≡ Less = (entry_total o).antisymm d x ∙ ap ordering_reverse b.0 in
      sorted_cons (entry_cmp cmp) d (ds ++ x ∷ es)
      (all_append _ ds (x ∷ es) (all_first _ ds es head) (below, all_second _ ds es head))
      (sorted_between ds x es (sorted_tail (entry_cmp cmp) d (ds ++ es) up) b.1 p)

  -- an entry is left out
  sorted_left_out : (ds : List (Entry K V A)) (x : Entry K V A) (es : List (Entry K V A)) → IsAscending cmp (ds ++ x ∷ es) → IsAscending cmp (ds ++ es)
  sorted_left_out [] x es up = sorted_tail (entry_cmp cmp) x es up
  sorted_left_out (d ∷ ds) x es up =
      let head = sorted_head (entry_cmp cmp) d (ds ++ x ∷ es) up in
      sorted_cons (entry_cmp cmp) d (ds ++ es) (all_append _ ds es (all_first _ ds (x ∷ es) head) (all_second _ ds (x ∷ es) head).1) (sorted_left_out ds x es (sorted_tail (entry_cmp cmp) d (ds ++ x ∷ es) up))

  -- an entry has another value
  sorted_revalued : (ds : List (Entry K V A)) (x : Entry K V A) (es : List (Entry K V A)) (v : Arc V A) (n : ℕ) → IsAscending cmp (ds ++ x ∷ es) → IsAscending cmp (ds ++ with_value x v n ∷ es)
  sorted_revalued [] x es v n up = sorted_cons (entry_cmp cmp) (with_value x v n) es (sorted_head (entry_cmp cmp) x es up) (sorted_tail (entry_cmp cmp) x es up)
  sorted_revalued (d ∷ ds) x es v n up =
      let head = sorted_head (entry_cmp cmp) d (ds ++ x ∷ es) up in
      let back = all_second _ ds (x ∷ es) head in
      sorted_cons (entry_cmp cmp) d (ds ++ with_value x v n ∷ es) (all_append _ ds (with_value x v n ∷ es) (all_first _ ds (x ∷ es) head) (back.0, back.1)) (sorted_revalued ds x es v n (sorted_tail (entry_cmp cmp) d (ds ++ x ∷ es) up))

-- the place is at none of them, and not before the first
pub none_at : (r : Ordering) → is_gt r ≡ false → is_eq r ≡ false → r ≡ Less
none_at Less g e = refl
none_at Equal g e = cc
none_at Greater g e = cc

at_one : (r : Ordering) → is_eq r ≡ true → r ≡ Equal
at_one Less e = cc
at_one Equal e = refl
at_one Greater e = cc

find_tested : {X : Type 0} (b : Bool) (x : X) (o : Option X) → IsNone (cond b (Some x) o) → b ≡ false
find_tested true x o h = cc
find_tested false x o h = refl

module _ {K V A : Type 0} {cmp : K → K → Ordering} (o : IsTotalOrder cmp) (h : ℕ) (k : K) (ds : List (Entry K V A)) (b : AllBefore cmp h k ds) where
  -- those from an absent place on stand past it
  past_from : (es : List (Entry K V A)) → NotBefore cmp h k es → IsAscending cmp (ds ++ es) → IsNone (entry_at cmp h k (ds ++ es)) → AllPast cmp h k es
  past_from [] n up none = tt
  past_from (e ∷ es) n up none =
      let there : IsNone (entry_at cmp h k (e ∷ es)) = rw (← entry_at-front cmp h k ds (e ∷ es) b) none in
      let less = none_at (place_cmp cmp h k e) n (find_tested (is_at cmp h k e) e (entry_at cmp h k es) there) in
      (less, past_rest o h k e es (sorted_back (entry_cmp cmp) ds (e ∷ es) up) n)

  -- the entry of the place
  module _ (e : Entry K V A) (es : List (Entry K V A)) (up : IsAscending cmp (ds ++ e ∷ es)) (at : is_at cmp h k e ≡ true) where
    past_found : AllPast cmp h k es
    past_found = past_rest o h k e es (sorted_back (entry_cmp cmp) ds (e ∷ es) up) (ap is_gt (at_one (place_cmp cmp h k e) at))

    pub found_there : entry_at cmp h k (ds ++ e ∷ es) ≡ Some e
    found_there = entry_at-front cmp h k ds (e ∷ es) b ∙ ap (λ t. cond t (Some e) (entry_at cmp h k es)) at

    pub taken_there : without cmp h k (ds ++ e ∷ es) ≡ ds ++ es
    taken_there = without-front cmp h k ds (e ∷ es) b ∙ ap (λ t. ds ++ cond (not t) (e ∷ without cmp h k es) (without cmp h k es)) at ∙ ap (λ t. ds ++ t) (without-back cmp h k [] es past_found)

    pub replaced_there : (v : Arc V A) (n : ℕ) → with_value_at cmp h k v n (ds ++ e ∷ es) ≡ ds ++ with_value e v n ∷ es
    replaced_there v n = with_value_at-front cmp h k ds (e ∷ es) b v n ∙ ap (λ t. ds ++ cond t (with_value e v n) e ∷ with_value_at cmp h k v n es) at ∙ ap (λ t. ds ++ with_value e v n ∷ t) (with_value_at-back cmp h k [] es past_found v n)

-- what is known of entries that are cut at a place
pub record IsPartition {K V A : Type 0} (cmp : K → K → Ordering) (h : ℕ) (k : K) (all front back : List (Entry K V A)) : Type 0 where
  pub whole : reverse front ++ back ≡ all
  pub before : AllBefore cmp h k front
  pub stops : NotBefore cmp h k back

pub record IsPut {K V A : Type 0} (cmp : K → K → Ordering) (x : Entry K V A) (all new : List (Entry K V A)) : Type 0 where
  pub is : new ≡ with_entry cmp x all
  pub ascending : IsAscending cmp new
  pub longer : length new ≡ length all + 1

pub record IsTaken {K V A : Type 0} (cmp : K → K → Ordering) (h : ℕ) (k : K) (e : Entry K V A) (all new : List (Entry K V A)) : Type 0 where
  pub found : entry_at cmp h k all ≡ Some e
  pub is : new ≡ without cmp h k all
  pub ascending : IsAscending cmp new
  pub shorter : length new + 1 ≡ length all

pub record IsRevalued {K V A : Type 0} (cmp : K → K → Ordering) (h : ℕ) (k : K) (v : Arc V A) (n : ℕ) (e : Entry K V A) (all new : List (Entry K V A)) : Type 0 where
  pub found : entry_at cmp h k all ≡ Some e
  pub is : new ≡ with_value_at cmp h k v n all
  pub ascending : IsAscending cmp new
  pub as_long : length new ≡ length all

pub record IsAbsent {K V A : Type 0} (cmp : K → K → Ordering) (h : ℕ) (k : K) (all new : List (Entry K V A)) : Type 0 where
  pub none : entry_at cmp h k all ≡ None
  pub same : new ≡ all
  pub is : new ≡ without cmp h k all

module _ {K V A : Type 0} {cmp : K → K → Ordering} (o : IsTotalOrder cmp) where
  absent_at : (h : ℕ) (k : K) (all front back new : List (Entry K V A)) → IsPartition cmp h k all front back → AllPast cmp h k back → new ≡ reverse front ++ back → IsAbsent cmp h k all new
  absent_at h k all front back new c p is =
      let b = all_reverse _ front c.before in
      let gone = without-front cmp h k (reverse front) back b ∙ ap (λ t. reverse front ++ t) (without-back cmp h k [] back p) in
      rw (is, ← c.whole) (record { none = entry_at-front cmp h k (reverse front) back b ∙ entry_at-back cmp h k [] back p; same = refl; is = sym gone })

  pub absent_end : (h : ℕ) (k : K) (all front new : List (Entry K V A)) → IsPartition cmp h k all front [] → new ≡ reverse front ++ [] → IsAbsent cmp h k all new
  absent_end h k all front new c is = absent_at h k all front [] new c tt is

  pub absent_there : (h : ℕ) (k : K) (e : Entry K V A) (all front rest new : List (Entry K V A)) → IsPartition cmp h k all front (e ∷ rest) → IsAscending cmp all → is_at cmp h k e ≡ false → new ≡ reverse front ++ e ∷ rest → IsAbsent cmp h k all new
  absent_there h k e all front rest new c up at is =
      let less = none_at (place_cmp cmp h k e) c.stops at in
      let up' = sorted_back (entry_cmp cmp) (reverse front) (e ∷ rest) (rw (← c.whole) at up) in
      absent_at h k all front (e ∷ rest) new c (less, past_rest o h k e rest up' c.stops) is

  -- where something is at the place, it is the first that does not stand before it
  pub there : (h : ℕ) (k : K) (e : Entry K V A) (all front rest : List (Entry K V A)) → IsPartition cmp h k all front (e ∷ rest) → IsAscending cmp all → IsSome (entry_at cmp h k all) → is_at cmp h k e ≡ true
  there h k e all front rest c up some =
      let one : (b : Bool) → is_at cmp h k e ≡ b → b ≡ true = elim [ true ↦ λ _. refl | false ↦ λ n. (cc (ap is_some (absent_there h k e all front rest (reverse front ++ e ∷ rest) c up n refl).none)) ] in
      one (is_at cmp h k e) refl

  pub put_at : (x : Entry K V A) (ds es : List (Entry K V A)) → AllBefore cmp x.hash (arc_value x.key) ds → AllPast cmp x.hash (arc_value x.key) es → IsAscending cmp (ds ++ es) → IsPut cmp x (ds ++ es) (ds ++ x ∷ es)
  put_at x ds es b p up =
      let h = x.hash in
      let k = arc_value x.key in
      let first : filter (is_before cmp h k) (ds ++ es) ≡ ds = before-front cmp h k ds es b ∙ ap (λ t. ds ++ t) (before-back cmp h k [] es p) ∙ append-nil ds in
      let last : filter (is_past cmp h k) (ds ++ es) ≡ es = past-front cmp h k ds es b ∙ past-back cmp h k [] es p in
      record { is = sym (ap (λ t. t ++ x ∷ filter (is_past cmp h k) (ds ++ es)) first ∙ ap (λ t. ds ++ x ∷ t) last); ascending = sorted_between o ds x es up b p; longer = omega (arith, length-append ds (x ∷ es), length-append ds es) }

  pub put_there : (x : Entry K V A) (all front back new : List (Entry K V A)) → IsPartition cmp x.hash (arc_value x.key) all front back → IsAscending cmp all → IsNone (entry_at cmp x.hash (arc_value x.key) all) → new ≡ reverse front ++ x ∷ back → IsPut cmp x all new
  put_there x all front back new c up none is =
      let b = all_reverse _ front c.before in
      let up' = rw (← c.whole) at up in
      let p = past_from o x.hash (arc_value x.key) (reverse front) b back c.stops up' (rw (← c.whole) at none) in
      rw (is, ← c.whole) (put_at x (reverse front) back b p up')

  pub take_there : (h : ℕ) (k : K) (e : Entry K V A) (all front rest new : List (Entry K V A)) → IsPartition cmp h k all front (e ∷ rest) → IsAscending cmp all → is_at cmp h k e ≡ true → new ≡ reverse front ++ rest → IsTaken cmp h k e all new
  take_there h k e all front rest new c up at is =
      let b = all_reverse _ front c.before in
      let up' = rw (← c.whole) at up in
      rw (is, ← c.whole) (record {
        found = found_there o h k (reverse front) b e rest up' at;
        is = sym (taken_there o h k (reverse front) b e rest up' at);
        ascending = sorted_left_out o (reverse front) e rest up';
        shorter = omega (arith, length-append (reverse front) (e ∷ rest), length-append (reverse front) rest);
      })

  pub revalue_there : (h : ℕ) (k : K) (v : Arc V A) (n : ℕ) (e : Entry K V A) (all front rest new : List (Entry K V A)) → IsPartition cmp h k all front (e ∷ rest) → IsAscending cmp all → is_at cmp h k e ≡ true → new ≡ reverse front ++ with_value e v n ∷ rest → IsRevalued cmp h k v n e all new
  revalue_there h k v n e all front rest new c up at is =
      let b = all_reverse _ front c.before in
      let up' = rw (← c.whole) at up in
      rw (is, ← c.whole) (record {
        found = found_there o h k (reverse front) b e rest up' at;
        is = sym (replaced_there o h k (reverse front) b e rest up' at v n);
        ascending = sorted_revalued o (reverse front) e rest v n up';
        as_long = omega (arith, length-append (reverse front) (e ∷ rest), length-append (reverse front) (with_value e v n ∷ rest));
      })
