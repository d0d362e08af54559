-- Laws of what the steps at a live bin leave.
use Rattle.std.proofs.Common.{◌≡◌, ℕ, ◌+◌, ◌-◌, ◌^◌, ◌≤◌, Bool, true, false, cond, List, [], ◌∷◌, length, filter, Option, Some, None, is_none, is_some, refl, sym, subst, arith}
use Rattle.std.specs.declared.cmp.Ordering.{Ordering}
use Rattle.std.specs.Cmp.{IsTotalOrder}
use Rattle.std.specs.List.{AllByRecursion}
use Rattle.std.specs.Map.{keys_of}
use Rattle.flurry_base.specs.FiniteMap.{IsFiniteMap, pair_at, without}
use Rattle.flurry_base.specs.HashOrder.{hash_then_key}
use Rattle.flurry_base.specs.BinSizes.{IsSized, grows_into_tree}
use Rattle.flurry_base.specs.HashOrder.{InRegion}
use Rattle.flurry_base.specs.declared.verdict.Verdict.{Verdict}
use Rattle.flurry_base.specs.declared.verdict.Verdict.TheVariants.{Keep, Set, Remove}
use Rattle.flurry_bins_slots.specs.Slot.{PlainEntry, Live, ComputeOutcome, WasAbsent, WasRemoved, WasChanged, AlterOutcome, Computes, Alters, after_verdict, IsLiveIn, entry_of_live, after_write, after_take, with_fewer, half, after_wipe, after_add, after_take_if, is_unwritten_since}
use Rattle.flurry_base.proofs.BinSizeLaws.{IsSized-kept, IsSized-put, filter_no_longer}
use Rattle.flurry_base.proofs.RegionLaws.{region_low, region_high}
use Rattle.flurry_base.proofs.HashOrderLaws.{hash_then_key_total}
use Rattle.flurry_base.proofs.FiniteMapLaws.{IsFiniteMap-with_pair, IsFiniteMap-without, IsFiniteMap-filter, length-with_pair, length-without, IsFiniteMap-nil, all_with_pair, all_without}

-- what a test and the place before tell of each key
all_tested : {K W : Type 0} (P Q : K → Type 0) (test : K × W → Bool) (m : List (K × W)) → ((x : K × W) → test x ≡ true → P x.0 → Q x.0) → AllByRecursion P (keys_of m) → AllByRecursion Q (keys_of (filter test m))
all_tested P Q test [] f h = tt
all_tested P Q test (e ∷ m) f h = by_test (test e) refl (all_tested P Q test m f h.1)
  where
    by_test : (b : Bool) → test e ≡ b → AllByRecursion Q (keys_of (filter test m)) → AllByRecursion Q (keys_of (filter test (e ∷ m)))
    by_test true p ih = rw p (f e p h.0, ih)
    by_test false p ih = rw p ih

-- ---- what the steps keep

module _ {K V : Type 0} {cmp : K → K → Ordering} (o : IsTotalOrder cmp) where
  live_in_shrunk : (e i : ℕ) (b : Live K V) (plain_entries : List (PlainEntry K V)) → IsSized b.tree (length b.plain_entries) → IsFiniteMap (hash_then_key cmp) plain_entries → length plain_entries ≤ length b.plain_entries
      → AllByRecursion (λ (k : ℕ × K). InRegion e i k.0) (keys_of plain_entries) → IsLiveIn cmp e i (with_fewer b plain_entries)
  live_in_shrunk e i b plain_entries sized up le all = record { ascends = up; sized = IsSized-kept b.tree (length b.plain_entries) (length plain_entries) sized le; region = all }

  pub live_in_taken : (e i : ℕ) (b : Live K V) (h : ℕ) (k : K) → IsLiveIn cmp e i b → IsLiveIn cmp e i (after_take cmp b h k)
  live_in_taken e i b h k l =
      live_in_shrunk e i b _ l.sized (IsFiniteMap-without (hash_then_key_total o) b.plain_entries (h, k) l.ascends)
      (by_found (pair_at (hash_then_key cmp) b.plain_entries (h, k)) (length-without (hash_then_key_total o) b.plain_entries (h, k)))
      (all_without (hash_then_key_total o) (λ (j : ℕ × K). InRegion e i j.0) b.plain_entries (h, k) l.region)
    where
      by_found : (found : Option (PlainEntry K V)) → length (without (hash_then_key cmp) b.plain_entries (h, k)) ≡ cond (is_some found) (length b.plain_entries - 1) (length b.plain_entries) → length (without (hash_then_key cmp) b.plain_entries (h, k)) ≤ length b.plain_entries
      by_found None p = omega arith
      by_found (Some x) p = omega arith

  pub live_in_taken_if : (e i n : ℕ) (b : Live K V) (h : ℕ) (k : K) → IsLiveIn cmp e i b → IsLiveIn cmp e i (after_take_if cmp n b h k)
  live_in_taken_if e i n b h k l =
      elim (is_unwritten_since cmp n b h k) as (λ t. IsLiveIn cmp e i (cond t (after_take cmp b h k) b)) [ true ↦ live_in_taken e i b h k l | false ↦ l ]

  pub live_in_written : (e i bins : ℕ) (b : Live K V) (h : ℕ) (k : K) (v : V) → InRegion e i h → IsLiveIn cmp e i b → IsLiveIn cmp e i (after_write cmp bins b h k v)
  live_in_written e i bins b h k v here l = record {
    ascends = IsFiniteMap-with_pair (hash_then_key_total o) b.plain_entries (h, k) _ l.ascends;
    sized = by_found (pair_at (hash_then_key cmp) b.plain_entries (h, k)) _ (length-with_pair (hash_then_key_total o) b.plain_entries (h, k) _ l.ascends);
    region = all_with_pair (hash_then_key_total o) (λ (j : ℕ × K). InRegion e i j.0) b.plain_entries (h, k) _ here l.region;
  }
    where
      by_found : (found : Option (PlainEntry K V)) (m : ℕ) → m ≡ cond (is_some found) (length b.plain_entries) (length b.plain_entries + 1) → IsSized (cond (is_none found) (grows_into_tree bins b.tree (length b.plain_entries)) b.tree) m
      by_found None m p = IsSized-put bins b.tree (length b.plain_entries) m l.sized p
      by_found (Some x) m p = subst (IsSized b.tree) (sym p) l.sized

  pub live_in_added : (e i bins : ℕ) (b : Live K V) (h : ℕ) (k : K) (v : V) → InRegion e i h → IsLiveIn cmp e i b → IsLiveIn cmp e i (after_add cmp bins b h k v)
  live_in_added e i bins b h k v here l =
      elim (is_none (entry_of_live cmp b h k)) as (λ t. IsLiveIn cmp e i (cond t (after_write cmp bins b h k v) b)) [ true ↦ live_in_written e i bins b h k v here l | false ↦ l ]

  pub live_in_computed : (e i bins : ℕ) (changes : K → Option V → Verdict V → Type 0) (b c : Live K V) (h : ℕ) (k : K) (w : ComputeOutcome V) → InRegion e i h → IsLiveIn cmp e i b → Computes cmp changes bins b h k w c → IsLiveIn cmp e i c
  live_in_computed e i bins changes b c h k WasAbsent here l d = rw d.1 l
  live_in_computed e i bins changes b c h k WasRemoved here l d = rw d.3 (live_in_taken e i b h k l)
  live_in_computed e i bins changes b c h k (WasChanged v) here l d = rw d.3 (live_in_written e i bins b h k v here l)

  live_in_judged : (e i bins : ℕ) (b : Live K V) (h : ℕ) (k : K) (x : Option (PlainEntry K V)) (v : Verdict V) → InRegion e i h → IsLiveIn cmp e i b → IsLiveIn cmp e i (after_verdict cmp bins b h k x v)
  live_in_judged e i bins b h k x Keep here l = l
  live_in_judged e i bins b h k x (Set w) here l = live_in_written e i bins b h k w here l
  live_in_judged e i bins b h k None Remove here l = l
  live_in_judged e i bins b h k (Some x) Remove here l = live_in_taken e i b h k l

  pub live_in_altered : {F : Type 0} (e i bins : ℕ) (changes : F → K → Option V → Verdict V → Type 0) (f : F) (may_add : Bool) (b c : Live K V) (h : ℕ) (k : K) (o : AlterOutcome K V)
      → InRegion e i h → IsLiveIn cmp e i b → Alters cmp changes f may_add bins b h k o c → IsLiveIn cmp e i c
  live_in_altered e i bins changes f may_add b c h k o here l d = rw d.3 (live_in_judged e i bins b h k (entry_of_live cmp b h k) d.0 here l)

  pub live_in_wiped : (e i : ℕ) (b : Live K V) → IsLiveIn cmp e i (after_wipe b)
  live_in_wiped e i b = record { ascends = IsFiniteMap-nil (V × ℕ) (hash_then_key cmp); sized = omega arith; region = tt }

  pub live_in_low : (e i : ℕ) (b : Live K V) → IsLiveIn cmp e i b → IsLiveIn cmp (e + 1) i (half e 0 b)
  live_in_low e i b l =
      live_in_shrunk (e + 1) i b _ l.sized (IsFiniteMap-filter (hash_then_key_total o) _ b.plain_entries l.ascends) (filter_no_longer _ b.plain_entries)
      (all_tested (λ (j : ℕ × K). InRegion e i j.0) (λ (j : ℕ × K). InRegion (e + 1) i j.0) _ b.plain_entries (λ x p q. region_low e i x.0.0 q p) l.region)

  pub live_in_high : (e i : ℕ) (b : Live K V) → IsLiveIn cmp e i b → IsLiveIn cmp (e + 1) (i + 2 ^ e) (half e 1 b)
  live_in_high e i b l =
      live_in_shrunk (e + 1) (i + 2 ^ e) b _ l.sized (IsFiniteMap-filter (hash_then_key_total o) _ b.plain_entries l.ascends) (filter_no_longer _ b.plain_entries)
      (all_tested (λ (j : ℕ × K). InRegion e i j.0) (λ (j : ℕ × K). InRegion (e + 1) (i + 2 ^ e) j.0) _ b.plain_entries (λ x p q. region_high e i x.0.0 q p) l.region)
