use Rattle.std.proofs.Common.{rules, ◌≡◌, ◌++◌, map, ap, sym, ◌∙◌, subst, append_assoc}
use Rattle.std.specs.List.{AllZip}
use Rattle.std.proofs.lemmas.List.{append-nil, map-append}
use Rattle.std.proofs.lemmas.List.Elements.{AllZip-push}
use Rattle.flurry_seq.specs.Iter.{value_of_item}
use Rattle.flurry_seq_pairs.proofs.set.clones.Goals as goal

pub loop-element-preserved : goal.loop-element-preserved
loop-element-preserved g c = record {
  split = rw (map-append, append_assoc) (ap (λ l. map value_of_item c.loop-element.yielded ++ l) (sym c.in-Some.ensures.steps) ∙ c.loop-element.invariant.split);
  cloned =
      rw (map-append, c.push_reserved.ensures.items)
      (AllZip-push g.T.Clone.is_clone _ _ (value_of_item c.in-Some.element) _ c.loop-element.invariant.cloned (rw c.as_ref.ensures at c.in_ok-clone.ensures.cases));
  room = search rules;
}

pub returns : goal.returns
returns g c =
    let seen = map value_of_item c.loop-element.yielded in
    let all : seen ≡ c.args.elements = sym (append-nil seen) ∙ ap (λ l. seen ++ l) (sym c.in-None.ensures.steps.0) ∙ c.loop-element.invariant.split in
    subst (λ l. AllZip g.T.Clone.is_clone l c.loop-element.list.items) all c.loop-element.invariant.cloned
