use Rattle.std.proofs.Common.{[], ◌∷◌, ◌++◌, length, sym, ap, ◌∙◌, append_assoc}
use Rattle.std.specs.Vec.Iter.{into_iter_items}
use Rattle.flurry_base.specs.FiniteSet.{with_element}
use Rattle.flurry_seq.proofs.RunLaws.{on_err}
use Rattle.flurry_seq.proofs.RoomLaws.{count_put, of_test, room_put}
use Rattle.flurry_seq_set.proofs.SetLaws.{length-with_element, with_elements-push}
use Rattle.flurry_seq_set.proofs.seq_set.SeqSet.insert_all.Goals as goal

pub loop-element-preserved : goal.loop-element-preserved
loop-element-preserved g c = record {
  elements =
      c.in_ok-insert.ensures.elements ∙ ap (λ s. with_element g.T.Ord.cmp s c.in-Some.element) c.loop-element.invariant.elements
      ∙ sym (with_elements-push g.T.Ord.cmp c.args.self.now.elements c.loop-element.yielded c.in-Some.element);
  room = λ n has from.
      room_put c.loop-element.yielded c.in-Some.element (into_iter_items c.next.new.self) c.args.list.items (length c.args.self.now.elements) (length c.loop-element.self.elements) (length c.insert.new.self.elements) n c.loop-element.self.bins c.insert.new.self.bins
      (append_assoc c.loop-element.yielded (c.in-Some.element ∷ []) (into_iter_items c.next.new.self) ∙ ap (λ l. c.loop-element.yielded ++ l) (sym c.in-Some.ensures.steps.0) ∙ c.loop-element.invariant.split)
      c.loop-element.invariant.count
      (rw c.in_ok-insert.ensures.elements (length-with_element g.T.Ord.cmp c.loop-element.self.elements c.in-Some.element))
      (of_test c.in_ok-insert.field-0 c.in_ok-insert.ensures.bins c.in_ok-insert.ensures.grown) has (c.loop-element.invariant.room n has from);
  count =
      count_put c.loop-element.yielded c.in-Some.element (length c.args.self.now.elements) (length c.loop-element.self.elements) (length c.insert.new.self.elements) c.loop-element.invariant.count
      (rw c.in_ok-insert.ensures.elements (length-with_element g.T.Ord.cmp c.loop-element.self.elements c.in-Some.element));
  hasher = c.in_ok-insert.ensures.hasher ∙ c.loop-element.invariant.hasher;
  split =
      append_assoc c.loop-element.yielded (c.in-Some.element ∷ []) (into_iter_items c.next.new.self)
      ∙ ap (λ l. c.loop-element.yielded ++ l) (sym c.in-Some.ensures.steps.0) ∙ c.loop-element.invariant.split;
}

pub returns-in_err-insert-clause-err : goal.returns-in_err-insert-clause-err
returns-in_err-insert-clause-err g c =
    on_err c.from_residual.result _
    (c.loop-element.yielded, into_iter_items c.loop-element.element-iterator, sym c.loop-element.invariant.split, ap (λ s. s.elements) c.in_err-insert.ensures.err ∙ c.loop-element.invariant.elements)
