use Rattle.std.proofs.Common.{◌∷◌, [], ◌++◌, length, is_some, sym, ap, ◌∙◌, append_assoc}
use Rattle.std.specs.Vec.Iter.{into_iter_items}
use Rattle.flurry_base.specs.FiniteMap.{pair_at, with_pair}
use Rattle.flurry_base.proofs.FiniteMapLaws.{length-with_pair, with_all-push}
use Rattle.flurry_seq.proofs.RunLaws.{on_err}
use Rattle.flurry_seq.proofs.RoomLaws.{count_put, of_option, one_more, room_put}
use Rattle.flurry_seq.proofs.seq_map.SeqMap.insert_all.Goals as goal

pub loop-key-preserved-in_ok-insert : goal.loop-key-preserved-in_ok-insert
loop-key-preserved-in_ok-insert g c = record {
  pairs =
      c.in_ok-insert.ensures.pairs ∙ ap (λ m. with_pair g.K.Ord.cmp m c.in-Some.key c.in-Some.value) c.loop-key.invariant.pairs
      ∙ sym (with_all-push g.K.Ord.cmp c.args.self.now.pairs c.loop-key.yielded (c.in-Some.key, c.in-Some.value));
  room = λ n has from.
      room_put c.loop-key.yielded (c.in-Some.key, c.in-Some.value) (into_iter_items c.next.new.self) c.args.list.items (length c.args.self.now.pairs) (length c.loop-key.self.pairs) (length c.insert.new.self.pairs) n c.loop-key.self.bins c.insert.new.self.bins
      (append_assoc c.loop-key.yielded ((c.in-Some.key, c.in-Some.value) ∷ []) (into_iter_items c.next.new.self) ∙ ap (λ l. c.loop-key.yielded ++ l) (sym c.in-Some.ensures.steps.0) ∙ c.loop-key.invariant.split)
      c.loop-key.invariant.count
      (one_more (is_some (pair_at g.K.Ord.cmp c.loop-key.self.pairs c.in-Some.key)) (length c.loop-key.self.pairs) (length c.insert.new.self.pairs) (ap length c.in_ok-insert.ensures.pairs ∙ length-with_pair g.met.K.Ord.total c.loop-key.self.pairs c.in-Some.key c.in-Some.value c.in_ok-insert.ensures.ascend))
      (of_option c.in_ok-insert.field-0 c.in_ok-insert.ensures.bins c.in_ok-insert.ensures.grown) has (c.loop-key.invariant.room n has from);
  count =
      count_put c.loop-key.yielded (c.in-Some.key, c.in-Some.value) (length c.args.self.now.pairs) (length c.loop-key.self.pairs) (length c.insert.new.self.pairs) c.loop-key.invariant.count
      (one_more (is_some (pair_at g.K.Ord.cmp c.loop-key.self.pairs c.in-Some.key)) (length c.loop-key.self.pairs) (length c.insert.new.self.pairs) (ap length c.in_ok-insert.ensures.pairs ∙ length-with_pair g.met.K.Ord.total c.loop-key.self.pairs c.in-Some.key c.in-Some.value c.in_ok-insert.ensures.ascend));
  hasher = c.in_ok-insert.ensures.hasher ∙ c.loop-key.invariant.hasher;
  split =
      append_assoc c.loop-key.yielded ((c.in-Some.key, c.in-Some.value) ∷ []) (into_iter_items c.next.new.self)
      ∙ ap (λ l. c.loop-key.yielded ++ l) (sym c.in-Some.ensures.steps.0) ∙ c.loop-key.invariant.split;
}

pub loop-key-preserved : goal.loop-key-preserved
loop-key-preserved g c = record {
  pairs =
      c.in_ok-insert.ensures.pairs ∙ ap (λ m. with_pair g.K.Ord.cmp m c.in-Some.key c.in-Some.value) c.loop-key.invariant.pairs
      ∙ sym (with_all-push g.K.Ord.cmp c.args.self.now.pairs c.loop-key.yielded (c.in-Some.key, c.in-Some.value));
  room = λ n has from.
      room_put c.loop-key.yielded (c.in-Some.key, c.in-Some.value) (into_iter_items c.next.new.self) c.args.list.items (length c.args.self.now.pairs) (length c.loop-key.self.pairs) (length c.insert.new.self.pairs) n c.loop-key.self.bins c.insert.new.self.bins
      (append_assoc c.loop-key.yielded ((c.in-Some.key, c.in-Some.value) ∷ []) (into_iter_items c.next.new.self) ∙ ap (λ l. c.loop-key.yielded ++ l) (sym c.in-Some.ensures.steps.0) ∙ c.loop-key.invariant.split)
      c.loop-key.invariant.count
      (one_more (is_some (pair_at g.K.Ord.cmp c.loop-key.self.pairs c.in-Some.key)) (length c.loop-key.self.pairs) (length c.insert.new.self.pairs) (ap length c.in_ok-insert.ensures.pairs ∙ length-with_pair g.met.K.Ord.total c.loop-key.self.pairs c.in-Some.key c.in-Some.value c.in_ok-insert.ensures.ascend))
      (of_option c.in_ok-insert.field-0 c.in_ok-insert.ensures.bins c.in_ok-insert.ensures.grown) has (c.loop-key.invariant.room n has from);
  count =
      count_put c.loop-key.yielded (c.in-Some.key, c.in-Some.value) (length c.args.self.now.pairs) (length c.loop-key.self.pairs) (length c.insert.new.self.pairs) c.loop-key.invariant.count
      (one_more (is_some (pair_at g.K.Ord.cmp c.loop-key.self.pairs c.in-Some.key)) (length c.loop-key.self.pairs) (length c.insert.new.self.pairs) (ap length c.in_ok-insert.ensures.pairs ∙ length-with_pair g.met.K.Ord.total c.loop-key.self.pairs c.in-Some.key c.in-Some.value c.in_ok-insert.ensures.ascend));
  hasher = c.in_ok-insert.ensures.hasher ∙ c.loop-key.invariant.hasher;
  split =
      append_assoc c.loop-key.yielded ((c.in-Some.key, c.in-Some.value) ∷ []) (into_iter_items c.next.new.self)
      ∙ ap (λ l. c.loop-key.yielded ++ l) (sym c.in-Some.ensures.steps.0) ∙ c.loop-key.invariant.split;
}

pub returns-in_err-insert-clause-err : goal.returns-in_err-insert-clause-err
returns-in_err-insert-clause-err g c =
    on_err c.from_residual.result _
    (c.loop-key.yielded, into_iter_items c.loop-key.key-iterator, sym c.loop-key.invariant.split, ap (λ m. m.pairs) c.in_err-insert.ensures.err ∙ c.loop-key.invariant.pairs)
