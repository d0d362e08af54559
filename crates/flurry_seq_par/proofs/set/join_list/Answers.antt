use Rattle.std.proofs.Common.{[], ◌∷◌, ◌++◌, refl, sym, ap, ◌∙◌, append_assoc}
use Rattle.std.specs.Arc.{arc_value}
use Rattle.std.specs.Map.{keys_of}
use Rattle.flurry_bins.specs.Bin.{entries_of_list}
use Rattle.flurry_bins.specs.Chain.{entry_of}
use Rattle.flurry_base.specs.FiniteSet.{with_element}
use Rattle.flurry_seq.proofs.RunLaws.{on_err}
use Rattle.flurry_seq_set.proofs.SetLaws.{with_elements-push}
use Rattle.flurry_seq_par.specs.Joins.{pairs_in}
use Rattle.flurry_seq_par.proofs.set.join_list.Goals as goal

pub loop-node-init : goal.loop-node-init
loop-node-init g c = record { put = ([], refl, refl); numbers = c.requires.numbers; hasher = refl }

pub loop-node-preserved : goal.loop-node-preserved
loop-node-preserved g c =
    let x = arc_value (entry_of c.in-Some.node.value).key in
    let before = c.loop-node.invariant.put in
    let rest = c.pop_front.new.self in
    record {
      put = (
        before.0 ++ x ∷ [],
        append_assoc before.0 (x ∷ []) (keys_of (pairs_in (entries_of_list rest))) ∙ ap (λ l. before.0 ++ keys_of (pairs_in l)) (sym c.in-Some.ensures) ∙ before.1,
        c.in_ok-insert_node.ensures.elements ∙ ap (λ s. with_element g.T.Ord.cmp s x) before.2 ∙ sym (with_elements-push g.T.Ord.cmp c.args.set.now.elements before.0 x),
      );
      numbers = (rw c.in-Some.ensures at c.loop-node.invariant.numbers).1;
      hasher = c.in_ok-insert_node.ensures.hasher ∙ c.loop-node.invariant.hasher;
    }

pub returns-in_err-insert_node-clause-err : goal.returns-in_err-insert_node-clause-err
returns-in_err-insert_node-clause-err g c =
    let before = c.loop-node.invariant.put in
    on_err c.from_residual.result _
    (before.0, keys_of (pairs_in (entries_of_list c.loop-node.rest)), sym before.1, ap (λ s. s.elements) c.in_err-insert_node.ensures.err ∙ before.2)
