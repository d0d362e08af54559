-- The finite map in the order of its keys and the pairs of a trace agree on each one-key call.
use Rattle.std.specs.Prelude.{◌≡◌, ◌⊎◌, Bool, List, [], ◌∷◌, Option, Some, None, option_map, unwrap_or, MatchOption}
use Rattle.std.specs.declared.cmp.Ordering.{Ordering}
use Rattle.std.specs.Cmp.{IsTotalOrder}
use Rattle.std.specs.Option.{option_map_or}
use Rattle.std.proofs.Common.{arith, refl, ◌∙◌, inl, inr}
use Rattle.flurry_base.specs.FiniteMap as ordered
use Rattle.flurry_base.specs.FiniteMap.{IsFiniteMap, with_pair, stored_key, map_of_pairs}
use Rattle.flurry_base.proofs.FiniteMapLaws.{pair_at-with_pair, pair_at-without, IsFiniteMap-with_pair, IsFiniteMap-without, without_none, IsFiniteMap-map_of_pairs, pair_at-map_of_pairs}
use Rattle.flurry_base.specs.declared.reply.KeptReply.{KeptReply}
use Rattle.flurry_base.specs.declared.reply.KeptReply.TheVariants.{Value, New, Exists}
use Rattle.flurry_base.specs.declared.verdict.Verdict.{Verdict}
use Rattle.flurry_base.specs.declared.verdict.Verdict.TheVariants.{Keep, Set, Remove as Removed}
use Rattle.flurry_base.specs.Verdicts.{Judges, verdict_of, verdict_reply, with_verdict}
use Rattle.flurry_steps_theory.specs.Map.{Pairs, find, value_at, without, put, write}
use Rattle.flurry_steps_theory.specs.OneKeyCalls.{HasSamePairs, IsMapAfter, AgreesOn}
use Rattle.flurry_steps_theory.proofs.Bins.{one_class, find-without, stored_class}
use Rattle.flurry_base.specs.declared.call.Seen.{Seen}
use Rattle.flurry_base.specs.declared.call.Call.{Call}
use Rattle.flurry_base.specs.declared.call.Call.TheVariants.{Get, GetKeyValue, ContainsKey, Insert, TryInsert, Compute, Alter, Remove, RemoveEntry, RemoveSeen}

module _ {K V : Type 0} (cmp : K → K → Ordering) (total : IsTotalOrder cmp) where
  -- a list has one pair at a class, from whichever side the keys are compared
  pub has_itself : (m : List (K × V)) → HasSamePairs cmp m m
  has_itself [] k = refl
  has_itself (x ∷ m) k = grind (arith, has_itself m k, (one_class cmp total).symm k x.0)

  -- any pairs have a finite map
  pub has_gathered : (n : Pairs K V) → IsFiniteMap cmp (map_of_pairs cmp n) × HasSamePairs cmp (map_of_pairs cmp n) n
  has_gathered n = (IsFiniteMap-map_of_pairs total n, λ k. pair_at-map_of_pairs total n k ∙ has_itself n k)

  module _ (m : List (K × V)) (n : Pairs K V) (finite : IsFiniteMap cmp m) (alike : HasSamePairs cmp m n) where
    removed : (k : K) → HasSamePairs cmp (ordered.without cmp m k) (without cmp n k)
    removed k j = grind (arith, pair_at-without total m k j finite, find-without cmp total n k j, (one_class cmp total).symm j k, alike j)

    stored : (k : K) → stored_key cmp m k ≡ unwrap_or (option_map (λ x. x.0) (find cmp n k)) k
    stored k = rw (alike k) (go (find cmp n k))
      where
        go : (x : Option (K × V)) → option_map_or (λ (p : K × V). p.0) x k ≡ unwrap_or (option_map (λ p. p.0) x) k
        go None = refl
        go (Some x) = refl

    written : (k : K) (v : V) → HasSamePairs cmp (with_pair cmp m k v) (write cmp n k v)
    written k v j = grind (
      arith,
      pair_at-with_pair total m k v j finite,
      find-without cmp total n k j,
      stored k,
      stored_class cmp total n k,
      (one_class cmp total).congr (unwrap_or (option_map (λ x. x.0) (find cmp n k)) k) k j,
      (one_class cmp total).symm j k,
      alike j,
    )

    added : (k : K) (v : V) → find cmp n k ≡ None → HasSamePairs cmp (with_pair cmp m k v) (put cmp n k v)
    added k v e j = let h = written k v j in rw e at h

    unchanged : (k : K) → find cmp n k ≡ None → HasSamePairs cmp m (without cmp n k)
    unchanged k e = rw (without_none cmp k m (alike k ∙ e)) at (removed k)

    module _ {F : Type 0} (gives : F → K → Option V → Verdict V → Type 0) (r : KeptReply K V) where
      -- after the call c the finite map is l
      abbrev Leaves : Call K V F → List (K × V) → Type 0
      Leaves c l = IsMapAfter cmp c r n l

      -- what m answers, where it has x at the class of k
      abbrev Tries : K → V → Option (K × V) → List (K × V) → Type 0
      Tries k v x l = MatchOption x ((r ≡ New v) × (l ≡ with_pair cmp m k v)) (λ p. (r ≡ Exists p.1 v) × (l ≡ m))

      abbrev Computes : K → F → Option (K × V) → List (K × V) → Type 0
      Computes k f x l = MatchOption x ((r ≡ Value None) × (l ≡ m)) (λ p. (o : Option V) × gives f p.0 (Some p.1) (verdict_of o) × (r ≡ Value o) × (l ≡ with_verdict cmp m k (verdict_of o)))

      abbrev Alters : K → Bool → F → Option (K × V) → List (K × V) → Type 0
      Alters k b f x l = (v : Verdict V) × Judges gives f k b x v × (r ≡ verdict_reply x v) × (l ≡ with_verdict cmp m k v)

      abbrev Takes : K → List (K × V) → Type 0
      Takes k l = ((r ≡ Value None) × (l ≡ m)) ⊎ ((r ≡ Value (ordered.value_at cmp m k)) × (l ≡ ordered.without cmp m k))

      tried : (k : K) (v : V) (x : Option (K × V)) → find cmp n k ≡ x → MatchOption x (r ≡ New v) (λ p. r ≡ Exists p.1 v) → (l : List (K × V)) × Tries k v x l × Leaves (TryInsert k v) l
      tried k v None e h = (with_pair cmp m k v, (h, refl), (IsFiniteMap-with_pair total m k v finite, rw h (added k v e)))
      tried k v (Some x) e h = (m, (h, refl), (finite, rw h alike))

      tries : (k : K) (v : V) (x : Option (K × V)) → find cmp n k ≡ x → (l : List (K × V)) → Tries k v x l → MatchOption x (r ≡ New v) (λ p. r ≡ Exists p.1 v) × Leaves (TryInsert k v) l
      tries k v None e l h = (h.0, (rw (h.1) (IsFiniteMap-with_pair total m k v finite), rw (h.0, h.1) (added k v e)))
      tries k v (Some x) e l h = (h.0, (rw (h.1) finite, rw (h.0, h.1) alike))

      computed : (k : K) (f : F) (x : Option (K × V)) → find cmp n k ≡ x → MatchOption x (r ≡ Value None) (λ p. (o : Option V) × gives f p.0 (Some p.1) (verdict_of o) × (r ≡ Value o)) → (l : List (K × V)) × Computes k f x l × Leaves (Compute k f) l
      computed k f None e h = (m, (h, refl), (finite, rw h (unchanged k e)))
      computed k f (Some x) e (None, g, h) = (ordered.without cmp m k, (None, g, h, refl), (IsFiniteMap-without total m k finite, rw h (removed k)))
      computed k f (Some x) e (Some w, g, h) = (with_pair cmp m k w, (Some w, g, h, refl), (IsFiniteMap-with_pair total m k w finite, rw h (written k w)))

      computes : (k : K) (f : F) (x : Option (K × V)) → find cmp n k ≡ x → (l : List (K × V)) → Computes k f x l → MatchOption x (r ≡ Value None) (λ p. (o : Option V) × gives f p.0 (Some p.1) (verdict_of o) × (r ≡ Value o)) × Leaves (Compute k f) l
      computes k f None e l h = (h.0, (rw (h.1) finite, rw (h.0, h.1) (unchanged k e)))
      computes k f (Some x) e l (None, g, h, i) = ((None, g, h), (rw i (IsFiniteMap-without total m k finite), rw (h, i) (removed k)))
      computes k f (Some x) e l (Some w, g, h, i) = ((Some w, g, h), (rw i (IsFiniteMap-with_pair total m k w finite), rw (h, i) (written k w)))

      -- what a verdict leaves
      judged : (k : K) (b : Bool) (f : F) (x : Option (K × V)) (v : Verdict V) → find cmp n k ≡ x → r ≡ verdict_reply x v → Leaves (Alter k b f) (with_verdict cmp m k v)
      judged k b f None Keep e h = (finite, rw h alike)
      judged k b f None (Set w) e h = (IsFiniteMap-with_pair total m k w finite, rw h (added k w e))
      judged k b f None Removed e h = (IsFiniteMap-without total m k finite, rw (h, without_none cmp k m (alike k ∙ e)) alike)
      judged k b f (Some x) Keep e h = (finite, rw h alike)
      judged k b f (Some x) (Set w) e h = (IsFiniteMap-with_pair total m k w finite, rw h (written k w))
      judged k b f (Some x) Removed e h = (IsFiniteMap-without total m k finite, rw h (removed k))

      altered : (k : K) (b : Bool) (f : F) (x : Option (K × V)) → find cmp n k ≡ x → (v : Verdict V) × Judges gives f k b x v × (r ≡ verdict_reply x v) → (l : List (K × V)) × Alters k b f x l × Leaves (Alter k b f) l
      altered k b f x e (v, g, h) = (with_verdict cmp m k v, (v, g, h, refl), judged k b f x v e h)

      alters : (k : K) (b : Bool) (f : F) (x : Option (K × V)) → find cmp n k ≡ x → (l : List (K × V)) → Alters k b f x l → ((v : Verdict V) × Judges gives f k b x v × (r ≡ verdict_reply x v)) × Leaves (Alter k b f) l
      alters k b f x e l (v, g, h, i) = ((v, g, h), rw i (judged k b f x v e h))

      -- the conditional removal answers the value, if there is one
      taken : (s : Seen K V) → r ≡ Value (value_at cmp n s.key) → (x : Option (K × V)) → find cmp n s.key ≡ x → Leaves (RemoveSeen s) (ordered.without cmp m s.key)
      taken s h None e = (IsFiniteMap-without total m s.key finite, rw (h, e, without_none cmp s.key m (alike s.key ∙ e)) alike)
      taken s h (Some x) e = (IsFiniteMap-without total m s.key finite, rw (h, e) (removed s.key))

      seen : (s : Seen K V) → (r ≡ Value None) ⊎ (r ≡ Value (value_at cmp n s.key)) → (l : List (K × V)) × Takes s.key l × Leaves (RemoveSeen s) l
      seen s (inl h) = (m, inl (h, refl), (finite, rw h alike))
      seen s (inr h) = (ordered.without cmp m s.key, inr (rw (alike s.key) h, refl), taken s h (find cmp n s.key) refl)

      sees : (s : Seen K V) (l : List (K × V)) → Takes s.key l → ((r ≡ Value None) ⊎ (r ≡ Value (value_at cmp n s.key))) × Leaves (RemoveSeen s) l
      sees s l (inl h) = (inl (h.0), (rw (h.1) finite, rw (h.0, h.1) alike))
      sees s l (inr h) =
          let a : r ≡ Value (value_at cmp n s.key) = rw (alike s.key) at (h.0) in
          let t = taken s a (find cmp n s.key) refl in
          (inr a, (rw (h.1) (t.0), rw (h.1) (t.1)))

      pub one_key_agrees : (c : Call K V F) → AgreesOn cmp gives c m n r
      one_key_agrees (Get k) = record { answered = λ a. (m, (rw (alike k) a, refl), (finite, alike)); allowed = λ l h. (rw (alike k) at (h.0), (rw (h.1) finite, rw (h.1) alike)) }
      one_key_agrees (GetKeyValue k) = record { answered = λ a. (m, (rw (alike k) a, refl), (finite, alike)); allowed = λ l h. (rw (alike k) at (h.0), (rw (h.1) finite, rw (h.1) alike)) }
      one_key_agrees (ContainsKey k) = record { answered = λ a. (m, (rw (alike k) a, refl), (finite, alike)); allowed = λ l h. (rw (alike k) at (h.0), (rw (h.1) finite, rw (h.1) alike)) }
      one_key_agrees (Insert k v) = record {
        answered = λ a. (with_pair cmp m k v, (rw (alike k) a, refl), (IsFiniteMap-with_pair total m k v finite, written k v));
        allowed = λ l h. (rw (alike k) at (h.0), (rw (h.1) (IsFiniteMap-with_pair total m k v finite), rw (h.1) (written k v)));
      }
      one_key_agrees (TryInsert k v) = record {
        answered = λ a. rw (alike k) (tried k v (find cmp n k) refl a);
        allowed = λ l h. tries k v (find cmp n k) refl l (rw (alike k) at h);
      }
      one_key_agrees (Compute k f) = record {
        answered = λ a. rw (alike k) (computed k f (find cmp n k) refl a);
        allowed = λ l h. computes k f (find cmp n k) refl l (rw (alike k) at h);
      }
      one_key_agrees (Alter k b f) = record {
        answered = λ a. rw (alike k) (altered k b f (find cmp n k) refl a);
        allowed = λ l h. alters k b f (find cmp n k) refl l (rw (alike k) at h);
      }
      one_key_agrees (Remove k) = record {
        answered = λ a. (ordered.without cmp m k, (rw (alike k) a, refl), (IsFiniteMap-without total m k finite, removed k));
        allowed = λ l h. (rw (alike k) at (h.0), (rw (h.1) (IsFiniteMap-without total m k finite), rw (h.1) (removed k)));
      }
      one_key_agrees (RemoveEntry k) = record {
        answered = λ a. (ordered.without cmp m k, (rw (alike k) a, refl), (IsFiniteMap-without total m k finite, removed k));
        allowed = λ l h. (rw (alike k) at (h.0), (rw (h.1) (IsFiniteMap-without total m k finite), rw (h.1) (removed k)));
      }
      one_key_agrees (RemoveSeen s) = record { answered = seen s; allowed = sees s }
      one_key_agrees c = record { answered = λ h. absurd h; allowed = λ l h. absurd h }
