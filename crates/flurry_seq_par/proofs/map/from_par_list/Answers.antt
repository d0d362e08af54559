use denote.Param.Send.{sendable}
use Rattle.std.proofs.Common.{◌≡◌, [], map, length, ap, sym, ◌∙◌, subst, flat_map, vec_items, arith}
use Rattle.std.proofs.CrossingOver.{crosses}
use Rattle.rayon.proofs.ListFacts.{IfOk-then}
use Rattle.rayon.specs.Lists.{vec_items as source_items}
use Rattle.flurry_base.specs.FiniteMap.{IsFiniteMap, with_all}
use Rattle.flurry_base.proofs.FiniteMapLaws.{IsFiniteMap-nil}
use Rattle.flurry_seq.proofs.Crossing.{map_send}
use Rattle.flurry_seq.specs.Growth.{bins_for, IsTableFrom}
use Rattle.flurry_seq_par.specs.Joins.{with_maps}
use Rattle.flurry_seq_par.proofs.Joining.{IsFiniteMap-with_all, built}
use Rattle.flurry_seq_par.proofs.Rooms.{few_built}
use Rattle.flurry_seq_par.proofs.map.from_par_list.Goals as goal

pub map-requires-send-U : goal.map-requires-send-U
map-requires-send-U g c κs within = search (map_send, crosses, sendable) depth 60

pub collect-requires-send-Self-Item : goal.collect-requires-send-Self-Item
collect-requires-send-Self-Item g c κs within = search (map_send, crosses, sendable) depth 60

pub collect-requires-send-C : goal.collect-requires-send-C
collect-requires-send-C g c κs within = search (map_send, crosses, sendable) depth 60

pub returns-clause-made : goal.returns-clause-made
returns-clause-made g c =
    let cmp = g.K.Ord.cmp in
    let laws = g.met.K.Ord g.world.𝓛 g.world.𝓜 g.world.𝓡 ((λ s x. x), (λ x. x), (λ x. x), λ x. x) in
    let h = c.in_ok-collect.ensures in
    let ok = rw c.in_ok-maps.was at h.2 in
    let source = h.1.1 ∙ ap (λ it. source_items it.base) c.map.ensures.base ∙ ap source_items c.with_min_len.ensures.base ∙ c.into_par_iter.ensures in
    let all = built laws.total vec_items (λ m. m.pairs) _ (λ p m e. e) h.1.0 h.0 ok.0 ok.1 h.1.2 in
    IfOk-then c.join_all.result _ _ c.join_all.ensures.made (λ m e. (
      e.0 ∙ ap (λ ms. with_maps cmp [] (map (λ n. n.pairs) ms)) ok.2 ∙ all ∙ ap (λ ps. with_all cmp [] (flat_map vec_items ps)) source ∙ ap (with_all cmp []) c.in_ok-pieces.ensures,
      e.1,
    ))

pub returns-clause-ascend : goal.returns-clause-ascend
returns-clause-ascend g c =
    let cmp = g.K.Ord.cmp in
    let laws = g.met.K.Ord g.world.𝓛 g.world.𝓜 g.world.𝓡 ((λ s x. x), (λ x. x), (λ x. x), λ x. x) in
    IfOk-then c.join_all.result _ _ (returns-clause-made g c) (λ m e. subst (IsFiniteMap cmp) (sym e.0) (IsFiniteMap-with_all laws.total [] c.args.list.items (IsFiniteMap-nil g.row.V.Denot cmp)))

pub returns-clause-bins : goal.returns-clause-bins
returns-clause-bins g c =
    let laws = g.met.K.Ord g.world.𝓛 g.world.𝓜 g.world.𝓡 ((λ s x. x), (λ x. x), (λ x. x), λ x. x) in
    let h = c.in_ok-collect.ensures in
    let ok = rw c.in_ok-maps.was at h.2 in
    let source = h.1.1 ∙ ap (λ it. source_items it.base) c.map.ensures.base ∙ ap source_items c.with_min_len.ensures.base ∙ c.into_par_iter.ensures in
    let count = length c.args.list.items in
    let as_long : c.len-count.result ≡ count = omega (arith, c.len-count.ensures, c.args.list.ok.0) in
    let few = few_built laws.total vec_items (λ m. m.pairs) _ (λ p m e. e) h.1.0 h.0 ok.0 ok.1 h.1.2 in
    let joined = ap (λ ms. length (flat_map (λ m. m.pairs) ms)) ok.2 in
    let whole = ap (λ ps. length (flat_map vec_items ps)) source ∙ ap length c.in_ok-pieces.ensures in
    IfOk-then c.join_all.result _ _ (c.join_all.ensures.bins (omega (arith, few, joined, whole, as_long))) (λ m e. subst (λ n. IsTableFrom (bins_for n) (length m.pairs) m.bins) as_long e)
