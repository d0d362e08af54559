use Rattle.std.proofs.Common.{rules, ◌≡◌, ℕ, ◌+◌, List, [], ◌∷◌, ◌++◌, length, map, Option, Some, None, IsSome, is_some, option_map, refl, sym, ap, ◌∙◌, subst, append_assoc, arith}
use Rattle.std.specs.Arc.{arc_value}
use Rattle.std.specs.List.Sorted.{IsPermutation}
use Rattle.std.specs.Iterator.Adapters.{enumerate_source}
use Rattle.std.specs.Vec.Iter.{into_iter_items}
use Rattle.std.proofs.lemmas.List.{append-nil, length-append, length-map, map-append, nil_from_length}
use Rattle.std.proofs.lemmas.List.Sorted.{length_permutation}
use Rattle.flurry_base.specs.FiniteMap.{pair_at, with_pair}
use Rattle.flurry_base.proofs.FiniteMapLaws.{IsFiniteMap-with_pair, length-with_pair, with_all-push}
use Rattle.flurry_base.proofs.OptionLaws.{absent_is}
use Rattle.flurry_base.specs.declared.sizes.TheConstants.{FIRST_BINS}
use Rattle.flurry_seq.specs.Contents.{first_bins}
use Rattle.flurry_seq.specs.Growth.{bins_for, IsTableFrom, IsTableAfter}
use Rattle.flurry_seq.proofs.RoomLaws.{room_for, room_more}
use Rattle.flurry_seq_pairs.specs.declared.faults.FromPairsError.TheVariants.{DoubledKey}
use Rattle.flurry_seq_pairs.proofs.DoubleLaws.{apart_push, found_permuted, none_permuted, permuted_push}
use Rattle.flurry_seq_pairs.proofs.map.from_pairs.Goals as goal

same_position : (m n : ℕ) → DoubledKey m ≡ DoubledKey n → m ≡ n
same_position m n e = cc

-- an insertion answers a value just where it finds its key
answers_where_present : {X Y Z : Type 0} (f : X → Y) (h : Z → Y) (p : Option X) (w : Option Z) → option_map h w ≡ option_map f p → is_some p ≡ is_some w
answers_where_present f h None None e = refl
answers_where_present f h None (Some z) e = cc
answers_where_present f h (Some x) None e = cc
answers_where_present f h (Some x) (Some z) e = refl

-- a new pair in a table that was made for all pairs
room_new : {X : Type 0} (front back all : List X) (x : X) (old new b m : ℕ) → front ++ x ∷ back ≡ all → old ≡ length front → new ≡ old + 1 → IsTableFrom (bins_for (length all)) old b → IsTableAfter (first_bins b FIRST_BINS) new m → IsTableFrom (bins_for (length all)) new m
room_new front back all x old new b m split few more from after =
    let long : length all ≡ length front + (length back + 1) = ap length (sym split) ∙ length-append front (x ∷ back) ∙ omega arith in
    room_more (bins_for (length all)) old new (length all) b m (room_for (length all)) (omega arith) (omega arith) (omega arith) from after

pub returns-then-is_some-clause-doubled : goal.returns-then-is_some-clause-doubled
returns-then-is_some-clause-doubled g c = λ position same.
    let front = map (λ e. e.1) c.loop-position.yielded in
    let there : IsSome (pair_at g.K.Ord.cmp c.loop-position.map.pairs c.in-Some.key) =
    answers_where_present (λ p. p.1) arc_value (pair_at g.K.Ord.cmp c.loop-position.map.pairs c.in-Some.key) c.in_ok-insert.field-0 c.in_ok-insert.ensures.old ∙ sym c.is_some.ensures ∙ c.if-is_some.true in (
      front,
      into_iter_items (enumerate_source c.next.new.self),
      (c.in-Some.key, c.in-Some.value),
      sym c.loop-position.invariant.split ∙ ap (λ l. front ++ l) c.in-Some.ensures.steps.0.0,
      length-map c.loop-position.yielded (λ e. e.1) ∙ sym c.loop-position.invariant.count ∙ sym c.in-Some.ensures.steps.1 ∙ same_position _ _ same,
      c.loop-position.invariant.apart,
      found_permuted g.K.Ord.cmp front c.loop-position.map.pairs c.in-Some.key c.loop-position.invariant.permuted ∙ there,
    )

pub loop-position-preserved : goal.loop-position-preserved
loop-position-preserved g c =
    let front = map (λ e. e.1) c.loop-position.yielded in
    let none : pair_at g.K.Ord.cmp c.loop-position.map.pairs c.in-Some.key ≡ None =
    absent_is _ (answers_where_present (λ p. p.1) arc_value (pair_at g.K.Ord.cmp c.loop-position.map.pairs c.in-Some.key) c.in_ok-insert.field-0 c.in_ok-insert.ensures.old ∙ sym c.is_some.ensures ∙ c.if-is_some.false) in
    record {
      ready = search rules;
      ends = search rules;
      count = c.in-Some.ensures.steps.2 ∙ ap (λ n. n + 1) c.loop-position.invariant.count ∙ sym (length-append c.loop-position.yielded ((c.in-Some.position, (c.in-Some.key, c.in-Some.value)) ∷ []));
      room =
          room_new front (into_iter_items (enumerate_source c.next.new.self)) c.args.pairs.0.items (c.in-Some.key, c.in-Some.value) (length c.loop-position.map.pairs) (length c.insert.new.self.pairs) c.loop-position.map.bins c.insert.new.self.bins
          (ap (λ l. front ++ l) (sym c.in-Some.ensures.steps.0.0) ∙ c.loop-position.invariant.split)
          (length_permutation front c.loop-position.map.pairs c.loop-position.invariant.permuted)
          (ap length c.in_ok-insert.ensures.pairs ∙ length-with_pair g.met.K.Ord.total c.loop-position.map.pairs c.in-Some.key c.in-Some.value c.loop-position.invariant.ascend ∙ rw none refl)
          c.loop-position.invariant.room (c.in_ok-insert.ensures.grown (sym c.is_some.ensures ∙ c.if-is_some.false));
      hasher = c.in_ok-insert.ensures.hasher ∙ c.loop-position.invariant.hasher;
      split = rw (map-append, append_assoc) (ap (λ l. front ++ l) (sym c.in-Some.ensures.steps.0.0) ∙ c.loop-position.invariant.split);
      pairs =
          rw map-append
          (c.in_ok-insert.ensures.pairs ∙ ap (λ m. with_pair g.K.Ord.cmp m c.in-Some.key c.in-Some.value) c.loop-position.invariant.pairs ∙ sym (with_all-push g.K.Ord.cmp [] front (c.in-Some.key, c.in-Some.value)));
      apart =
          rw map-append
          (apart_push g.met.K.Ord.total front (c.in-Some.key, c.in-Some.value) c.loop-position.invariant.apart (none_permuted g.K.Ord.cmp front c.loop-position.map.pairs c.in-Some.key c.loop-position.invariant.permuted none));
      permuted =
          rw (map-append, c.in_ok-insert.ensures.pairs)
          (permuted_push g.met.K.Ord.total front c.loop-position.map.pairs (c.in-Some.key, c.in-Some.value) c.loop-position.invariant.permuted c.loop-position.invariant.ascend none);
      ascend = rw c.in_ok-insert.ensures.pairs (IsFiniteMap-with_pair g.met.K.Ord.total c.loop-position.map.pairs c.in-Some.key c.in-Some.value c.loop-position.invariant.ascend);
    }

pub returns-clause-pairs : goal.returns-clause-pairs
returns-clause-pairs g c =
    let front = map (λ e. e.1) c.loop-position.yielded in
    let rest = enumerate_source c.loop-position.position-iterator in
    let none : into_iter_items rest ≡ [] = nil_from_length (into_iter_items rest) (omega (arith, rest.rest.ok.0, c.in-None.ensures.steps.0.0)) in
    subst (λ l. IsPermutation l c.loop-position.map.pairs) (sym (append-nil front) ∙ ap (λ l. front ++ l) (sym none) ∙ c.loop-position.invariant.split) c.loop-position.invariant.permuted
