-- Calls of an owned map as values: what each may reply and leave.
use Rattle.std.specs.Prelude.{◌≡◌, ◌++◌, List, [], length, ◌==◌, Bool, Option, Some, None, IsSome, option_map, map, count_by, ℕ}
use Rattle.std.specs.declared.cmp.Ordering.{Ordering}
use Rattle.std.specs.Arc.{arc_value}
use Rattle.std.specs.declared.sync.Arc.{Arc}
use Rattle.std.specs.List.Sorted.{IsPermutation}
use Rattle.flurry_bins.specs.declared.bin.adaptive.Shape.{Shape}
use Rattle.flurry_base.specs.FiniteMap.{pair_at, with_all}
use Rattle.flurry_base.specs.OneKey.{Answers}
use Rattle.flurry_base.specs.declared.call.Call as plain_call
use Rattle.flurry_base.specs.declared.call.Call.TheVariants as plain
use Rattle.flurry_base.specs.Sizes.{IsGrown}
use Rattle.flurry_base.specs.declared.reply.KeptReply.{KeptReply}
use Rattle.flurry_base.specs.declared.reply.KeptReply.TheVariants as kept
use Rattle.flurry_seq.specs.Callable.{if_present}
use Rattle.flurry_seq.specs.Contents.{Contents, SamePairs, with_pairs, asked_for, first_bins}
use Rattle.flurry_seq.specs.Equality.{maps_eq}
use Rattle.flurry_seq.specs.Retain.{Retains}
use Rattle.flurry_seq.specs.Shapes.{count_in, IsFit}
use Rattle.flurry_seq.specs.Table.{bin_of}
use Rattle.std.specs.Borrow.{Bor}
use Rattle.flurry_seq.specs.declared.calls.Call.{Call}
use Rattle.flurry_seq.specs.declared.calls.Call.TheVariants.{Get, GetKeyValue, ContainsKey, Len, IsEmpty, Capacity, ShapeOf, Pairs, Keys, Values, Equals, TryClone, Insert, TryInsert, ComputeIfPresent, Remove, RemoveEntry, Retain, RetainForce, Clear, Reserve, Extend}
use Rattle.flurry_seq.specs.declared.calls.Reply.{Reply}
use Rattle.flurry_seq.specs.declared.calls.Reply.TheVariants.{Value, Pair, Truth, New, Exists, Number, Done}
use Rattle.flurry_seq.specs.declared.calls.Reply.TheVariants as reply

module _ {K V A : Type 0} where
  -- the key and the value that two owners have
  abbrev pub plain_pair : Arc K A × Arc V A → K × V
  plain_pair p = (arc_value p.0, arc_value p.1)

  module _ {S : Type 0} where
    -- the reply of a call of one key, with plain keys and values
    abbrev pub kept_reply : Reply K V S A → Option (KeptReply K V)
    kept_reply (Value w) = Some (kept.Value (option_map arc_value w))
    kept_reply (Pair w) = Some (kept.Pair (option_map plain_pair w))
    kept_reply (Truth b) = Some (kept.Contains b)
    kept_reply (New v) = Some (kept.New (arc_value v))
    kept_reply (Exists e) = Some (kept.Exists (arc_value e.current) e.not_inserted)
    kept_reply r = None

    -- a reply of all pairs, of all stored keys or of all values, with plain keys and values
    abbrev pub listed_pairs : Reply K V S A → Option (List (K × V))
    listed_pairs (reply.Pairs list) = Some (map plain_pair list.items)
    listed_pairs r = None

    abbrev pub listed_keys : Reply K V S A → Option (List K)
    listed_keys (reply.Keys list) = Some (map arc_value list.items)
    listed_keys r = None

    abbrev pub listed_values : Reply K V S A → Option (List V)
    listed_values (reply.Values list) = Some (map arc_value list.items)
    listed_values r = None

    module _ {F : Type 0} (cmp : K → K → Ordering) (gives : F → K → V → Option V → Type 0) where
      -- a call of one key
      abbrev pub OneKeyAnswers : plain_call.Call K V F → Contents K V S → Reply K V S A → Contents K V S → Type 0
      OneKeyAnswers call m r n = (k : KeptReply K V) × (kept_reply r ≡ Some k) × Answers cmp (if_present gives) call m.pairs k n.pairs × (n.hasher ≡ m.hasher)

    module _ {F P : Type 0} (cmp : K → K → Ordering) (eq : V → V → Bool) (hash : S → K → ℕ) (gives : F → K → V → Option V → Type 0) (tests : P → Bor K → Bor V → Bool → P → Type 0) where
      -- on the map m the call may reply r and leave the map n. The bins stay, but that an added key, a `reserve` and an `extend` may
      -- make the table larger
      abbrev pub CallAnswers : Call K V S F P A → Contents K V S → Reply K V S A → Contents K V S → Type 0
      CallAnswers (Get k) m r n = OneKeyAnswers cmp gives (plain.Get k) m r n × (n.bins ≡ m.bins)
      CallAnswers (GetKeyValue k) m r n = OneKeyAnswers cmp gives (plain.GetKeyValue k) m r n × (n.bins ≡ m.bins)
      CallAnswers (ContainsKey k) m r n = OneKeyAnswers cmp gives (plain.ContainsKey k) m r n × (n.bins ≡ m.bins)
      CallAnswers Len m r n = (r ≡ Number (length m.pairs)) × (n ≡ m)
      CallAnswers IsEmpty m r n = (r ≡ Truth (length m.pairs == 0)) × (n ≡ m)
      CallAnswers Capacity m r n = (r ≡ Number m.bins) × (n ≡ m)
      CallAnswers (ShapeOf h) m r n =
          (s : Shape) × (r ≡ reply.Shape s) × (count_in s ≡ count_by (λ p. bin_of m.bins (hash m.hasher p.0) == bin_of m.bins h) m.pairs) × IsFit s × (n ≡ m)
      CallAnswers Pairs m r n = (ps : List (K × V)) × (listed_pairs r ≡ Some ps) × IsPermutation m.pairs ps × (n ≡ m)
      CallAnswers Keys m r n = (ks : List K) × (listed_keys r ≡ Some ks) × IsPermutation (map (λ p. p.0) m.pairs) ks × (n ≡ m)
      CallAnswers Values m r n = (vs : List V) × (listed_values r ≡ Some vs) × IsPermutation (map (λ p. p.1) m.pairs) vs × (n ≡ m)
      CallAnswers (Equals other) m r n = (r ≡ Truth (maps_eq cmp eq m other)) × (n ≡ m)
      CallAnswers TryClone m r n = (copy : Contents K V S) × (r ≡ reply.Map copy) × SamePairs m copy × (n ≡ m)
      CallAnswers (Insert k v) m r n = OneKeyAnswers cmp gives (plain.Insert k v) m r n × (IsSome (pair_at cmp m.pairs k) → n.bins ≡ m.bins)
      CallAnswers (TryInsert k v) m r n = OneKeyAnswers cmp gives (plain.TryInsert k v) m r n × (IsSome (pair_at cmp m.pairs k) → n.bins ≡ m.bins)
      CallAnswers (ComputeIfPresent k f) m r n = OneKeyAnswers cmp gives (plain.Compute k f) m r n × (n.bins ≡ m.bins)
      CallAnswers (Remove k) m r n = OneKeyAnswers cmp gives (plain.Remove k) m r n × (n.bins ≡ m.bins)
      CallAnswers (RemoveEntry k) m r n = OneKeyAnswers cmp gives (plain.RemoveEntry k) m r n × (n.bins ≡ m.bins)
      CallAnswers (Retain p) m r n = (r ≡ Done) × Retains tests cmp p m n
      CallAnswers (RetainForce p) m r n = (r ≡ Done) × Retains tests cmp p m n
      CallAnswers Clear m r n = (r ≡ Done) × (n ≡ with_pairs m [])
      CallAnswers (Reserve a) m r n = (r ≡ Done) × SamePairs m n × IsGrown (first_bins m.bins (asked_for m a)) (asked_for m a) n.bins
      CallAnswers (Extend list) m r n = (r ≡ Done) × (n.pairs ≡ with_all cmp m.pairs list.items) × (n.hasher ≡ m.hasher)

    module _ {F P : Type 0} (cmp : K → K → Ordering) where
      -- what a call that was refused leaves: the map, but that an `extend` has inserted a front of its list
      abbrev pub CallRefused : Call K V S F P A → Contents K V S → Contents K V S → Type 0
      CallRefused (Extend list) m n = (front rest : List (K × V)) × (list.items ≡ front ++ rest) × (n.pairs ≡ with_all cmp m.pairs front) × (n.hasher ≡ m.hasher)
      CallRefused call m n = n ≡ m
