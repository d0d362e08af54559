use Rattle.std.proofs.Common.{◌≡◌, [], length, ap, sym, ◌∙◌, subst}
use Rattle.std.specs.Map.{keys_of}
use Rattle.std.proofs.lemmas.List.{length-map}
use Rattle.std.proofs.lemmas.Map.Entries.{length-keys_of}
use Rattle.flurry_base.specs.FiniteMap.{with_all}
use Rattle.flurry_seq.specs.Growth.{bins_for, IsTableFrom}
use Rattle.flurry_seq_par.specs.Joins.{with_unit}
use Rattle.flurry_seq_par.proofs.Elements.{elements_built}
use Rattle.flurry_seq_par.proofs.set.from_par_list.Goals as goal

pub returns-clause-made : goal.returns-clause-made
returns-clause-made g c =
    let cmp = g.T.Ord.cmp in (
      ap (λ s. s.elements) c.from_map.ensures.keys ∙ ap keys_of c.in_ok-map.ensures.made.0 ∙ ap (λ ps. keys_of (with_all cmp [] ps)) c.in_ok-pairs.ensures ∙ elements_built cmp c.args.list.items,
      ap (λ s. s.hasher) c.from_map.ensures.keys ∙ c.in_ok-map.ensures.made.1,
    )

pub returns-clause-bins : goal.returns-clause-bins
returns-clause-bins g c =
    let map = c.in_ok-map.map in
    let set = c.from_map.result in
    let keys = c.from_map.ensures.keys in
    let long : length c.in_ok-pairs.pairs.items ≡ length c.args.list.items = ap length c.in_ok-pairs.ensures ∙ length-map c.args.list.items with_unit in
    let few : length map.pairs ≡ length set.elements = sym (ap (λ s. length s.elements) keys ∙ length-keys_of map.pairs) in
    let bins : map.bins ≡ set.bins = sym (ap (λ s. s.bins) keys) in
    let built : IsTableFrom (bins_for (length c.in_ok-pairs.pairs.items)) (length map.pairs) set.bins =
    subst (IsTableFrom (bins_for (length c.in_ok-pairs.pairs.items)) (length map.pairs)) bins c.in_ok-map.ensures.bins in
    subst (λ n. IsTableFrom (bins_for n) (length set.elements) set.bins) long (subst (λ n. IsTableFrom (bins_for (length c.in_ok-pairs.pairs.items)) n set.bins) few built)
