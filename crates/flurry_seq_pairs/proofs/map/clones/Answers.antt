use Rattle.std.proofs.Common.{rules, ◌≡◌, ◌++◌, map, ap, sym, ◌∙◌, subst, append_assoc}
use Rattle.std.specs.List.{AllZip}
use Rattle.std.proofs.lemmas.List.{append-nil, map-append}
use Rattle.std.proofs.lemmas.List.Elements.{AllZip-push}
use Rattle.flurry_seq.specs.Iter.{pair_of_item}
use Rattle.flurry_seq_pairs.specs.Clones.{IsClonedPair}
use Rattle.flurry_seq_pairs.proofs.map.clones.Goals as goal

pub loop-key-preserved : goal.loop-key-preserved
loop-key-preserved g c = record {
  split = rw (map-append, append_assoc) (ap (λ l. map pair_of_item c.loop-key.yielded ++ l) (sym c.in-Some.ensures.steps) ∙ c.loop-key.invariant.split);
  cloned =
      rw (map-append, c.push_reserved.ensures.items)
      (AllZip-push (IsClonedPair g.K.Clone.is_clone g.V.Clone.is_clone) _ _ (pair_of_item (c.in-Some.key, c.in-Some.value)) _ c.loop-key.invariant.cloned
      (rw c.as_ref.ensures at c.in_ok-clone.ensures.cases, rw c.as_ref-in-loop-key.ensures at c.in_ok-clone-2.ensures.cases));
  room = search rules;
}

pub returns : goal.returns
returns g c =
    let seen = map pair_of_item c.loop-key.yielded in
    let all : seen ≡ c.args.pairs = sym (append-nil seen) ∙ ap (λ l. seen ++ l) (sym c.in-None.ensures.steps.0) ∙ c.loop-key.invariant.split in
    subst (λ l. AllZip (IsClonedPair g.K.Clone.is_clone g.V.Clone.is_clone) l c.loop-key.list.items) all c.loop-key.invariant.cloned
