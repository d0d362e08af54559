use Rattle.std.proofs.Common.{Result, Ok, Err, sym, ap, is_some, rules}
use Rattle.std.specs.Prelude.{OnOk}
use Rattle.flurry_seq_set.proofs.SetLaws.{with_element_present}
use Rattle.flurry_seq_set.proofs.seq_set.SeqSet.get_or_insert.Goals as goal

on_ok : {T E : Type 0} (r : Result T E) (P : Type 0) → P → OnOk r P
on_ok (Ok x) P p = p
on_ok (Err e) P p = tt

pub returns-in-Some-clause-elements : goal.returns-in-Some-clause-elements
returns-in-Some-clause-elements g c =
    on_ok c.try_clone.result _
    (sym (with_element_present g.met.T.Ord.total c.args.self.now.elements c.args.element c.get.ensures.ascend (ap is_some (sym c.in-Some.ensures.element))))

pub returns-in-Some-clause-stored : goal.returns-in-Some-clause-stored
returns-in-Some-clause-stored g c = search rules
