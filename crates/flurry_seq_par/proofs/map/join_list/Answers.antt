use Rattle.std.proofs.Common.{[], ◌∷◌, ◌++◌, length, is_some, refl, sym, ap, ◌∙◌, append_assoc, arith}
use Rattle.std.specs.Arc.{arc_value}
use Rattle.flurry_bins.specs.Bin.{entries_of_list}
use Rattle.flurry_bins.specs.Chain.{entry_of}
use Rattle.flurry_base.specs.FiniteMap.{pair_at, with_pair}
use Rattle.flurry_base.proofs.FiniteMapLaws.{length-with_pair, with_all-push}
use Rattle.flurry_seq.proofs.RoomLaws.{count_put, of_option, one_more, room_put}
use Rattle.flurry_seq.proofs.RunLaws.{on_err}
use Rattle.flurry_seq_par.specs.Joins.{pairs_in}
use Rattle.flurry_seq_par.proofs.map.join_list.Goals as goal

pub loop-node-init : goal.loop-node-init
loop-node-init g c = record { put = ([], refl, refl, omega arith); room = (λ n has from. from); numbers = c.requires.numbers; hasher = refl }

pub loop-node-preserved-in_ok-insert_node : goal.loop-node-preserved-in_ok-insert_node
loop-node-preserved-in_ok-insert_node g c =
    let e = entry_of c.in-Some.node.value in
    let p : g.row.K.Denot × g.row.V.Denot = (arc_value e.key, arc_value e.value) in
    let before = c.loop-node.invariant.put in
    let rest = c.pop_front.new.self in
    let start = length c.args.left.now.pairs in
    let old = c.loop-node.left in
    let next = c.insert_node.new.self in
    let split = append_assoc before.0 (p ∷ []) (pairs_in (entries_of_list rest)) ∙ ap (λ l. before.0 ++ pairs_in l) (sym c.in-Some.ensures) ∙ before.1 in
    let one =
    one_more (is_some (pair_at g.K.Ord.cmp old.pairs p.0)) (length old.pairs) (length next.pairs)
    (ap length c.in_ok-insert_node.ensures.pairs ∙ length-with_pair g.met.K.Ord.total old.pairs p.0 p.1 c.in_ok-insert_node.ensures.ascend) in
    record {
      put = (
        before.0 ++ p ∷ [],
        split,
        c.in_ok-insert_node.ensures.pairs ∙ ap (λ m. with_pair g.K.Ord.cmp m p.0 p.1) before.2 ∙ sym (with_all-push g.K.Ord.cmp c.args.left.now.pairs before.0 p),
        count_put before.0 p start (length old.pairs) (length next.pairs) before.3 one,
      );
      room = λ n has from.
          room_put before.0 p (pairs_in (entries_of_list rest)) (pairs_in (entries_of_list c.args.list)) start (length old.pairs) (length next.pairs) n old.bins next.bins split before.3 one
          (of_option c.in_ok-insert_node.field-0 c.in_ok-insert_node.ensures.bins c.in_ok-insert_node.ensures.grown) has (c.loop-node.invariant.room n has from);
      numbers = (rw c.in-Some.ensures at c.loop-node.invariant.numbers).1;
      hasher = c.in_ok-insert_node.ensures.hasher ∙ c.loop-node.invariant.hasher;
    }

pub loop-node-preserved : goal.loop-node-preserved
loop-node-preserved g c =
    let e = entry_of c.in-Some.node.value in
    let p : g.row.K.Denot × g.row.V.Denot = (arc_value e.key, arc_value e.value) in
    let before = c.loop-node.invariant.put in
    let rest = c.pop_front.new.self in
    let start = length c.args.left.now.pairs in
    let old = c.loop-node.left in
    let next = c.insert_node.new.self in
    let split = append_assoc before.0 (p ∷ []) (pairs_in (entries_of_list rest)) ∙ ap (λ l. before.0 ++ pairs_in l) (sym c.in-Some.ensures) ∙ before.1 in
    let one =
    one_more (is_some (pair_at g.K.Ord.cmp old.pairs p.0)) (length old.pairs) (length next.pairs)
    (ap length c.in_ok-insert_node.ensures.pairs ∙ length-with_pair g.met.K.Ord.total old.pairs p.0 p.1 c.in_ok-insert_node.ensures.ascend) in
    record {
      put = (
        before.0 ++ p ∷ [],
        split,
        c.in_ok-insert_node.ensures.pairs ∙ ap (λ m. with_pair g.K.Ord.cmp m p.0 p.1) before.2 ∙ sym (with_all-push g.K.Ord.cmp c.args.left.now.pairs before.0 p),
        count_put before.0 p start (length old.pairs) (length next.pairs) before.3 one,
      );
      room = λ n has from.
          room_put before.0 p (pairs_in (entries_of_list rest)) (pairs_in (entries_of_list c.args.list)) start (length old.pairs) (length next.pairs) n old.bins next.bins split before.3 one
          (of_option c.in_ok-insert_node.field-0 c.in_ok-insert_node.ensures.bins c.in_ok-insert_node.ensures.grown) has (c.loop-node.invariant.room n has from);
      numbers = (rw c.in-Some.ensures at c.loop-node.invariant.numbers).1;
      hasher = c.in_ok-insert_node.ensures.hasher ∙ c.loop-node.invariant.hasher;
    }

pub returns-in_err-insert_node-clause-err : goal.returns-in_err-insert_node-clause-err
returns-in_err-insert_node-clause-err g c =
    let before = c.loop-node.invariant.put in
    on_err c.from_residual.result _
    (before.0, pairs_in (entries_of_list c.loop-node.rest), sym before.1, ap (λ m. m.pairs) c.in_err-insert_node.ensures.err ∙ before.2)
