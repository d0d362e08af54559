use Rattle.std.proofs.Common.{◌≡◌, ◌+◌, ◌≤◌, [], ◌∷◌, ◌++◌, length, sym, ap, ◌∙◌, append_assoc, subst, arith}
use Rattle.std.proofs.lemmas.List.{append-nil, length-append, nil_from_length}
use Rattle.std.specs.Vec.Iter.{into_iter_items}
use Rattle.flurry_bins.specs.Bin.{entries_of_bin}
use Rattle.flurry_base.specs.FiniteMap.{with_all}
use Rattle.flurry_seq.proofs.RunLaws.{on_err}
use Rattle.flurry_seq_par.specs.Joins.{pairs_in, pairs_of_bins}
use Rattle.flurry_seq_par.proofs.Fronts.{pairs_of_bins-append, pairs_of_bins-push, front_later}
use Rattle.flurry_seq_par.proofs.Joining.{with_all-append}
use Rattle.flurry_seq_par.proofs.Rooms.{room_fewer}
use Rattle.flurry_seq_par.proofs.map.join_bins.Goals as goal

pub loop-bin-preserved : goal.loop-bin-preserved
loop-bin-preserved g c =
    let cmp = g.K.Ord.cmp in
    let old = c.args.left.now.pairs in
    let bin = c.in-Some.bin in
    let before = c.loop-bin.yielded in
    let after = into_iter_items c.next.new.self in
    let here = pairs_in (entries_of_bin bin) in
    let start = length old in
    let fewer = c.loop-bin.invariant.few in
    let split = append_assoc before (bin ∷ []) after ∙ ap (λ l. before ++ l) (sym c.in-Some.ensures.steps.0) ∙ c.loop-bin.invariant.split in
    let all = ap pairs_of_bins (sym (ap (λ l. before ++ l) (sym c.in-Some.ensures.steps.0) ∙ c.loop-bin.invariant.split)) ∙ pairs_of_bins-append before (bin ∷ after) in
    let long : length (pairs_of_bins c.args.bins.items) ≡ length (pairs_of_bins before) + (length here + length (pairs_of_bins after)) =
    ap length all ∙ length-append (pairs_of_bins before) (here ++ pairs_of_bins after) ∙ ap (λ n. length (pairs_of_bins before) + n) (length-append here (pairs_of_bins after)) in
    let pushed : length (pairs_of_bins (before ++ bin ∷ [])) ≡ length (pairs_of_bins before) + length here =
    ap length (pairs_of_bins-push before bin) ∙ length-append (pairs_of_bins before) here in
    let came = rw c.into_list.ensures at c.in_ok-join_list.ensures.few in
    record {
      pairs =
          c.in_ok-join_list.ensures.ok ∙ ap (λ es. with_all cmp c.loop-bin.left.pairs (pairs_in es)) c.into_list.ensures ∙ ap (λ m. with_all cmp m (pairs_in (entries_of_bin bin))) c.loop-bin.invariant.pairs
          ∙ sym (with_all-append cmp old (pairs_of_bins before) (pairs_in (entries_of_bin bin)))
          ∙ ap (with_all cmp old) (sym (pairs_of_bins-push before bin));
      few = omega (arith, fewer, came, pushed);
      room = λ n has from.
          (rw c.into_list.ensures at c.in_ok-join_list.ensures.room) n
          (room_fewer n (start + length (pairs_of_bins c.args.bins.items)) (length c.loop-bin.left.pairs + length here) (omega (arith, fewer, long)) has)
          (c.loop-bin.invariant.room n has from);
      numbers = (rw c.in-Some.ensures.steps.0 at c.loop-bin.invariant.numbers).1;
      hasher = c.in_ok-join_list.ensures.hasher ∙ c.loop-bin.invariant.hasher;
      split = split;
    }

pub returns-clause-few : goal.returns-clause-few
returns-clause-few g c =
    let before = c.loop-bin.yielded in
    let none : into_iter_items c.loop-bin.bin-iterator ≡ [] = nil_from_length (into_iter_items c.loop-bin.bin-iterator) (omega (arith, c.in-None.ensures.steps.0, c.loop-bin.bin-iterator.rest.ok.0)) in
    let whole = sym (append-nil before) ∙ ap (λ l. before ++ l) (sym none) ∙ c.loop-bin.invariant.split in
    subst (λ l. length c.loop-bin.left.pairs ≤ length c.args.left.now.pairs + length (pairs_of_bins l)) whole c.loop-bin.invariant.few

pub returns-in_err-join_list-clause-err : goal.returns-in_err-join_list-clause-err
returns-in_err-join_list-clause-err g c =
    let cmp = g.K.Ord.cmp in
    let bin = c.in-Some.bin in
    let before = c.loop-bin.yielded in
    let after = into_iter_items c.next.new.self in
    let all = ap pairs_of_bins (sym (ap (λ l. before ++ l) (sym c.in-Some.ensures.steps.0) ∙ c.loop-bin.invariant.split)) ∙ pairs_of_bins-append before (bin ∷ after) in
    let here = rw c.into_list.ensures at c.in_err-join_list.ensures.err in
    on_err c.from_residual.result _
    (front_later (with_all cmp) (with_all-append cmp) c.args.left.now.pairs c.loop-bin.left.pairs c.join_list.new.left.pairs (pairs_of_bins c.args.bins.items) (pairs_of_bins before) (pairs_in (entries_of_bin bin)) (pairs_of_bins after) all c.loop-bin.invariant.pairs here)
