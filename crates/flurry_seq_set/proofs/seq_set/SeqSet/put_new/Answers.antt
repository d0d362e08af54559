use Rattle.std.proofs.Common.{is_some, sym, ap, ◌∙◌}
use Rattle.std.proofs.lemmas.List.{length-map}
use Rattle.std.specs.Arc.{arc_value}
use Rattle.std.specs.Map.{keys_of}
use Rattle.flurry_base.proofs.FiniteMapLaws.{IsFiniteMap-with_pair}
use Rattle.flurry_seq_set.proofs.SetLaws.{some_mapped, has_value-keys, put_is_found, with_element-keys}
use Rattle.flurry_seq_set.proofs.seq_set.SeqSet.put_new.Goals as goal

pub invariant_of-self-2 : goal.invariant_of-self-2
invariant_of-self-2 g c =
    rw c.in_ok-insert_arc.ensures.pairs
    (IsFiniteMap-with_pair g.met.T.Ord.total c.self.inside.map.pairs (arc_value c.in-Ok.stored) (arc_value c.in_ok-nothing.nothing) c.self.invariant)

pub returns-clause-stored : goal.returns-clause-stored
returns-clause-stored g c =
    rw (c.in_ok-insert_arc.ensures.pairs, c.in-Ok.ensures.ok.0, c.in-Ok.ensures.ok.1)
    (put_is_found g.met.T.Ord.total c.self.inside.map.pairs c.args.element (arc_value c.in_ok-nothing.nothing) c.self.invariant (rw (← c.self.view_is) at c.requires))

pub returns-clause-elements : goal.returns-clause-elements
returns-clause-elements g c =
    rw (← c.self.view_is, ← c.in-Ok.ensures.ok.0)
    (ap keys_of c.in_ok-insert_arc.ensures.pairs
    ∙ sym (with_element-keys g.T.Ord.cmp c.self.inside.map.pairs (arc_value c.in-Ok.stored) (arc_value c.in_ok-nothing.nothing)))

pub returns-clause-grown : goal.returns-clause-grown
returns-clause-grown g c =
    let none = sym (some_mapped arc_value c.in_ok-insert_arc.field-0) ∙ ap is_some c.in_ok-insert_arc.ensures.old
    ∙ rw c.in-Ok.ensures.ok.0 (has_value-keys g.T.Ord.cmp c.self.inside.map.pairs c.args.element ∙ (rw (← c.self.view_is) at c.requires)) in
    rw (← c.self.view_is, length-map) (c.in_ok-insert_arc.ensures.grown none)
