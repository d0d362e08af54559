use Rattle.std.proofs.Common.{[], ◌∷◌, ◌++◌, sym, ap, ◌∙◌, append_assoc}
use Rattle.std.specs.Map.{keys_of}
use Rattle.std.proofs.lemmas.List.{map-append}
use Rattle.std.specs.Vec.Iter.{into_iter_items}
use Rattle.flurry_bins.specs.Bin.{entries_of_bin}
use Rattle.flurry_base.specs.FiniteSet.{with_elements}
use Rattle.flurry_seq.proofs.RunLaws.{on_err}
use Rattle.flurry_seq_par.specs.Joins.{pairs_in, pairs_of_bins}
use Rattle.flurry_seq_par.proofs.Elements.{with_elements-append}
use Rattle.flurry_seq_par.proofs.Fronts.{pairs_of_bins-append, pairs_of_bins-push, front_later}
use Rattle.flurry_seq_par.proofs.set.join_bins.Goals as goal

pub loop-bin-preserved : goal.loop-bin-preserved
loop-bin-preserved g c =
    let cmp = g.T.Ord.cmp in
    let old = c.args.set.now.elements in
    let bin = c.in-Some.bin in
    let before = c.loop-bin.yielded in
    let keys = keys_of (pairs_in (entries_of_bin bin)) in
    record {
      elements =
          c.in_ok-join_list.ensures.ok ∙ ap (λ es. with_elements cmp c.loop-bin.set.elements (keys_of (pairs_in es))) c.into_list.ensures ∙ ap (λ s. with_elements cmp s keys) c.loop-bin.invariant.elements
          ∙ sym (with_elements-append cmp old (keys_of (pairs_of_bins before)) keys)
          ∙ ap (with_elements cmp old) (sym (ap keys_of (pairs_of_bins-push before bin) ∙ map-append (λ (p : g.row.T.Denot × Unit {0}). p.0) (pairs_of_bins before) (pairs_in (entries_of_bin bin))));
      numbers = (rw c.in-Some.ensures.steps.0 at c.loop-bin.invariant.numbers).1;
      hasher = c.in_ok-join_list.ensures.hasher ∙ c.loop-bin.invariant.hasher;
      split = append_assoc before (bin ∷ []) (into_iter_items c.next.new.self) ∙ ap (λ l. before ++ l) (sym c.in-Some.ensures.steps.0) ∙ c.loop-bin.invariant.split;
    }

pub returns-in_err-join_list-clause-err : goal.returns-in_err-join_list-clause-err
returns-in_err-join_list-clause-err g c =
    let cmp = g.T.Ord.cmp in
    let bin = c.in-Some.bin in
    let before = c.loop-bin.yielded in
    let after = into_iter_items c.next.new.self in
    let here = pairs_in (entries_of_bin bin) in
    let all = ap pairs_of_bins (sym (ap (λ l. before ++ l) (sym c.in-Some.ensures.steps.0) ∙ c.loop-bin.invariant.split)) ∙ pairs_of_bins-append before (bin ∷ after) in
    let keys = ap keys_of all ∙ map-append (λ (p : g.row.T.Denot × Unit {0}). p.0) (pairs_of_bins before) (here ++ pairs_of_bins after) ∙ ap (λ l. keys_of (pairs_of_bins before) ++ l) (map-append (λ (p : g.row.T.Denot × Unit {0}). p.0) here (pairs_of_bins after)) in
    let put = rw c.into_list.ensures at c.in_err-join_list.ensures.err in
    on_err c.from_residual.result _
    (front_later (with_elements cmp) (with_elements-append cmp) c.args.set.now.elements c.loop-bin.set.elements c.join_list.new.set.elements (keys_of (pairs_of_bins c.args.bins.items)) (keys_of (pairs_of_bins before)) (keys_of here) (keys_of (pairs_of_bins after)) keys c.loop-bin.invariant.elements put)
