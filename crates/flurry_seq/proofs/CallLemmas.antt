-- Calls as values.
use Rattle.std.proofs.Common.{◌≡◌, [], Option, Some, None, Result, Ok, Err, option_map, refl, ap, Ordering}
use Rattle.std.specs.Option.{MatchOption, IfSome}
use Rattle.std.specs.Prelude.{IsSome}
use Rattle.std.specs.Result.{IsOkAnd, IsErrAnd}
use Rattle.std.specs.Arc.{arc_value}
use Rattle.std.specs.declared.sync.Arc.{Arc}
use Rattle.std.specs.declared.alloc.AllocError.{AllocError}
use Rattle.flurry_base.specs.declared.try_insert.TryInsertError.{TryInsertError}
use Rattle.flurry_base.specs.declared.reply.KeptReply.{KeptReply}
use Rattle.flurry_base.specs.declared.reply.KeptReply.TheVariants as kept
use Rattle.flurry_base.specs.FiniteMap.{pair_at, value_at, with_pair, without}
use Rattle.flurry_base.specs.Verdicts.{verdict_of, with_verdict}
use Rattle.flurry_seq.specs.Callable.{if_present}
use Rattle.flurry_base.specs.declared.call.Call.TheVariants as plain
use Rattle.flurry_seq.specs.Contents.{Contents, with_pairs}
use Rattle.flurry_seq.specs.Calls.{OneKeyAnswers, CallRefused}
use Rattle.flurry_seq.specs.declared.calls.Call.{Call}
use Rattle.flurry_seq.specs.declared.calls.Call.TheVariants.{Get, GetKeyValue, ContainsKey, Len, IsEmpty, Capacity, ShapeOf, Pairs, Keys, Values, Equals, TryClone, Insert, TryInsert, ComputeIfPresent, Remove, RemoveEntry, Retain, RetainForce, Clear, Reserve, Extend}
use Rattle.flurry_seq.specs.declared.calls.Reply.TheVariants.{Value, New, Exists}

module _ {K V A S F : Type 0} (cmp : K → K → Ordering) (gives : F → K → V → Option V → Type 0) (k : K) (m n : Contents K V S) where
  -- what `try_insert` ensures
  abbrev pub TryReplies : V → Result (Arc V A) (TryInsertError V A) → Type 0
  TryReplies v r =
      MatchOption (value_at cmp m.pairs k) (IsOkAnd r (λ new. arc_value new ≡ v) × (n.pairs ≡ with_pair cmp m.pairs k v))
      (λ current. IsErrAnd r (λ e. (arc_value e.current ≡ current) × (e.not_inserted ≡ v)) × (n ≡ m))

  pub try_put : (v : V) (w : Arc V A) → TryReplies v (Ok w) → n.hasher ≡ m.hasher → OneKeyAnswers cmp gives (plain.TryInsert k v) m (New w) n
  try_put v w h same = (kept.New (arc_value w), refl, by_pair (pair_at cmp m.pairs k) h, same)
    where
      by_pair : (o : Option (K × V))
          → MatchOption (option_map (λ (p : K × V). p.1) o) (IsOkAnd {E = TryInsertError V A} (Ok w) (λ new. arc_value new ≡ v) × (n.pairs ≡ with_pair cmp m.pairs k v)) (λ current. IsErrAnd {T = Arc V A} (Ok w) (λ (e : TryInsertError V A). (arc_value e.current ≡ current) × (e.not_inserted ≡ v)) × (n ≡ m))
          → MatchOption o ((◌≡◌ {A = KeptReply K V} (kept.New (arc_value w)) (kept.New v)) × (n.pairs ≡ with_pair cmp m.pairs k v)) (λ p. (◌≡◌ {A = KeptReply K V} (kept.New (arc_value w)) (kept.Exists p.1 v)) × (n.pairs ≡ m.pairs))
      by_pair None h = (ap (λ x. kept.New x) h.0, h.1)
      by_pair (Some p) h = absurd h.0

  pub try_met : (v : V) (e : TryInsertError V A) → TryReplies v (Err e) → n.hasher ≡ m.hasher → OneKeyAnswers cmp gives (plain.TryInsert k v) m (Exists e) n
  try_met v e h same = (kept.Exists (arc_value e.current) e.not_inserted, refl, by_pair (pair_at cmp m.pairs k) h, same)
    where
      by_pair : (o : Option (K × V))
          → MatchOption (option_map (λ (p : K × V). p.1) o) (IsOkAnd {E = TryInsertError V A} (Err e) (λ (new : Arc V A). arc_value new ≡ v) × (n.pairs ≡ with_pair cmp m.pairs k v)) (λ current. IsErrAnd {T = Arc V A} (Err e) (λ (x : TryInsertError V A). (arc_value x.current ≡ current) × (x.not_inserted ≡ v)) × (n ≡ m))
          → MatchOption o ((◌≡◌ {A = KeptReply K V} (kept.Exists (arc_value e.current) e.not_inserted) (kept.New v)) × (n.pairs ≡ with_pair cmp m.pairs k v)) (λ p. (◌≡◌ {A = KeptReply K V} (kept.Exists (arc_value e.current) e.not_inserted) (kept.Exists p.1 v)) × (n.pairs ≡ m.pairs))
      by_pair None h = absurd h.0
      by_pair (Some p) h = let a = h.0.0 in let b = h.0.1 in (cc, ap (λ x. x.pairs) h.1)

  pub try_stays : (v : V) (r : Result (Arc V A) (TryInsertError V A)) → TryReplies v r → IsSome (pair_at cmp m.pairs k) → n.bins ≡ m.bins
  try_stays v r h = by_pair (pair_at cmp m.pairs k) h
    where
      by_pair : (o : Option (K × V))
          → MatchOption (option_map (λ (p : K × V). p.1) o) (IsOkAnd r (λ new. arc_value new ≡ v) × (n.pairs ≡ with_pair cmp m.pairs k v)) (λ current. IsErrAnd r (λ e. (arc_value e.current ≡ current) × (e.not_inserted ≡ v)) × (n ≡ m))
          → IsSome o → n.bins ≡ m.bins
      by_pair None h some = let e = some in cc
      by_pair (Some p) h some = ap (λ x. x.bins) h.1

  -- what `compute_if_present` ensures where it is not refused
  abbrev pub ComputeReplies : F → Option (Arc V A) → Type 0
  ComputeReplies f r =
      IfSome (pair_at cmp m.pairs k) (λ p. (o : Option V) × gives f p.0 p.1 o
      × MatchOption o ((◌≡◌ {A = Result (Option (Arc V A)) AllocError} (Ok r) (Ok None)) × (n ≡ with_pairs m (without cmp m.pairs k))) (λ w. (option_map arc_value r ≡ Some w) × (n ≡ with_pairs m (with_pair cmp m.pairs k w))))

  pub computed : (f : F) (r : Option (Arc V A)) → (pair_at cmp m.pairs k ≡ None → (◌≡◌ {A = Result (Option (Arc V A)) AllocError} (Ok r) (Ok None)) × (n ≡ m)) → ComputeReplies f r → n.hasher ≡ m.hasher → OneKeyAnswers cmp gives (plain.Compute k f) m (Value r) n
  computed f r absent present same = (kept.Value (option_map arc_value r), refl, by_pair (pair_at cmp m.pairs k) absent present, same)
    where
      by_answer : (p : K × V) (o : Option V) → MatchOption o ((◌≡◌ {A = Result (Option (Arc V A)) AllocError} (Ok r) (Ok None)) × (n ≡ with_pairs m (without cmp m.pairs k))) (λ w. (option_map arc_value r ≡ Some w) × (n ≡ with_pairs m (with_pair cmp m.pairs k w)))
          → (◌≡◌ {A = KeptReply K V} (kept.Value (option_map arc_value r)) (kept.Value o)) × (n.pairs ≡ with_verdict cmp m.pairs k (verdict_of o))
      by_answer p None h = let none : r ≡ None = let e = h.0 in cc in (ap (λ x. kept.Value (option_map arc_value x)) none, ap (λ x. x.pairs) h.1)
      by_answer p (Some w) h = (ap (λ x. kept.Value x) h.0, ap (λ x. x.pairs) h.1)

      by_pair : (o : Option (K × V)) → (o ≡ None → (◌≡◌ {A = Result (Option (Arc V A)) AllocError} (Ok r) (Ok None)) × (n ≡ m))
          → IfSome o (λ p. (o : Option V) × gives f p.0 p.1 o
          × MatchOption o ((◌≡◌ {A = Result (Option (Arc V A)) AllocError} (Ok r) (Ok None)) × (n ≡ with_pairs m (without cmp m.pairs k))) (λ w. (option_map arc_value r ≡ Some w) × (n ≡ with_pairs m (with_pair cmp m.pairs k w))))
          → MatchOption o ((◌≡◌ {A = KeptReply K V} (kept.Value (option_map arc_value r)) (kept.Value None)) × (n.pairs ≡ m.pairs))
          (λ p. (o : Option V) × if_present gives f p.0 (Some p.1) (verdict_of o) × (◌≡◌ {A = KeptReply K V} (kept.Value (option_map arc_value r)) (kept.Value o)) × (n.pairs ≡ with_verdict cmp m.pairs k (verdict_of o)))
      by_pair None a h = let none : r ≡ None = let e = (a refl).0 in cc in (ap (λ x. kept.Value (option_map arc_value x)) none, ap (λ x. x.pairs) (a refl).1)
      by_pair (Some p) a h = let done = by_answer p h.0 h.2 in (h.0, (h.0, refl, h.1), done.0, done.1)

  pub compute_stays : (f : F) (r : Option (Arc V A)) → (pair_at cmp m.pairs k ≡ None → (◌≡◌ {A = Result (Option (Arc V A)) AllocError} (Ok r) (Ok None)) × (n ≡ m)) → ComputeReplies f r → n.bins ≡ m.bins
  compute_stays f r absent present = by_pair (pair_at cmp m.pairs k) absent present
    where
      by_answer : (o : Option V) → MatchOption o ((◌≡◌ {A = Result (Option (Arc V A)) AllocError} (Ok r) (Ok None)) × (n ≡ with_pairs m (without cmp m.pairs k))) (λ w. (option_map arc_value r ≡ Some w) × (n ≡ with_pairs m (with_pair cmp m.pairs k w)))
          → n.bins ≡ m.bins
      by_answer None h = ap (λ x. x.bins) h.1
      by_answer (Some w) h = ap (λ x. x.bins) h.1

      by_pair : (o : Option (K × V)) → (o ≡ None → (◌≡◌ {A = Result (Option (Arc V A)) AllocError} (Ok r) (Ok None)) × (n ≡ m))
          → IfSome o (λ p. (o : Option V) × gives f p.0 p.1 o
          × MatchOption o ((◌≡◌ {A = Result (Option (Arc V A)) AllocError} (Ok r) (Ok None)) × (n ≡ with_pairs m (without cmp m.pairs k))) (λ w. (option_map arc_value r ≡ Some w) × (n ≡ with_pairs m (with_pair cmp m.pairs k w))))
          → n.bins ≡ m.bins
      by_pair None a h = ap (λ x. x.bins) (a refl).1
      by_pair (Some p) a h = by_answer h.0 h.2

module _ {K V A S F P : Type 0} (cmp : K → K → Ordering) where
  pub same_refused : (call : Call K V S F P A) (m : Contents K V S) → CallRefused cmp call m m
  same_refused (Reserve a) m = refl
  same_refused (Extend list) m = ([], list.items, refl, refl, refl)
  same_refused (Get k) m = refl
  same_refused (GetKeyValue k) m = refl
  same_refused (ContainsKey k) m = refl
  same_refused Len m = refl
  same_refused IsEmpty m = refl
  same_refused Capacity m = refl
  same_refused (ShapeOf h) m = refl
  same_refused Pairs m = refl
  same_refused Keys m = refl
  same_refused Values m = refl
  same_refused (Equals other) m = refl
  same_refused TryClone m = refl
  same_refused (Insert k v) m = refl
  same_refused (TryInsert k v) m = refl
  same_refused (ComputeIfPresent k f) m = refl
  same_refused (Remove k) m = refl
  same_refused (RemoveEntry k) m = refl
  same_refused (Retain p) m = refl
  same_refused (RetainForce p) m = refl
  same_refused Clear m = refl
