use Rattle.std.proofs.Common.{◌≡◌, Bool, true, false, Option, None, Some, is_some, not, refl, sym, ap, ◌∙◌}
use Rattle.std.specs.Prelude.{is_none}
use Rattle.std.proofs.lemmas.List.{length-map}
use Rattle.std.specs.Arc.{arc_value}
use Rattle.std.specs.Map.{keys_of}
use Rattle.flurry_bins.specs.Chain.{entry_of}
use Rattle.flurry_base.specs.FiniteSet.{element_at}
use Rattle.flurry_base.proofs.FiniteMapLaws.{IsFiniteMap-with_pair}
use Rattle.flurry_seq_set.proofs.SetLaws.{some_mapped, has_value-keys, with_element-keys}
use Rattle.flurry_seq_set.proofs.seq_set.SeqSet.insert_node.Goals as goal

none_by : {X : Type 0} (b : Bool) (w : Option X) → not b ≡ is_some w → b ≡ is_none w
none_by true None h = refl
none_by true (Some x) h = cc
none_by false None h = cc
none_by false (Some x) h = refl

pub invariant_of-self-2 : goal.invariant_of-self-2
invariant_of-self-2 g c =
    let e = entry_of c.args.node.value in
    rw c.in_ok-insert_node.ensures.pairs (IsFiniteMap-with_pair g.met.T.Ord.total c.self.inside.map.pairs (arc_value e.key) (arc_value e.value) c.self.invariant)

pub returns-clause-new : goal.returns-clause-new
returns-clause-new g c =
    let key = arc_value (entry_of c.args.node.value).key in
    let old = c.in_ok-insert_node.field-0 in
    none_by c.is_none.result (element_at g.T.Ord.cmp c.args.self.now.elements key)
    (sym c.is_none.ensures ∙ sym (some_mapped arc_value old) ∙ ap is_some c.in_ok-insert_node.ensures.old ∙ rw (← c.self.view_is) (has_value-keys g.T.Ord.cmp c.self.inside.map.pairs key))

pub returns-clause-elements : goal.returns-clause-elements
returns-clause-elements g c =
    let e = entry_of c.args.node.value in
    rw (← c.self.view_is)
    (ap keys_of c.in_ok-insert_node.ensures.pairs ∙ sym (with_element-keys g.T.Ord.cmp c.self.inside.map.pairs (arc_value e.key) (arc_value e.value)))

pub returns-clause-bins : goal.returns-clause-bins
returns-clause-bins g c = λ stood. rw (← c.self.view_is) (c.in_ok-insert_node.ensures.bins (c.is_none.ensures ∙ stood))

pub returns-clause-grown : goal.returns-clause-grown
returns-clause-grown g c = λ new. rw (← c.self.view_is, length-map) (c.in_ok-insert_node.ensures.grown (c.is_none.ensures ∙ ap not new))
