use Rattle.std.proofs.Common.{[], ap, refl, ◌∙◌, subst, length}
use Rattle.std.specs.List.Sorted.{IsPermutation}
use Rattle.std.specs.Map.{keys_of}
use Rattle.std.proofs.lemmas.List.Sorted.{IsPermutation-refl, IsPermutation-map}
use Rattle.std.proofs.lemmas.Result.{on_ok_weaker, on_err_weaker}
use Rattle.flurry_base.specs.FiniteMap.{with_all}
use Rattle.flurry_base.specs.FiniteSet.{with_elements}
use Rattle.flurry_seq.specs.MapsOfBins.{maps_of_bins}
use Rattle.flurry_seq.proofs.IterLaws.{all_apart}
use Rattle.flurry_seq.proofs.RunLaws.{on_err}
use Rattle.flurry_seq_par.specs.Joins.{pairs_of_bins}
use Rattle.flurry_seq_par.proofs.Elements.{with_elements-built, elements_built}
use Rattle.flurry_seq_par.proofs.set.par_extend.Goals as goal

pub returns-in_err-pairs-clause-err : goal.returns-in_err-pairs-clause-err
returns-in_err-pairs-clause-err g c = on_err c.from_residual.result _ ([], with_elements g.T.Ord.cmp [] c.args.list.items, IsPermutation-refl _, refl)

pub returns-in_err-built-clause-err : goal.returns-in_err-built-clause-err
returns-in_err-built-clause-err g c = on_err c.from_residual-in_err-built.result _ ([], with_elements g.T.Ord.cmp [] c.args.list.items, IsPermutation-refl _, refl)

pub returns-clause-ok : goal.returns-clause-ok
returns-clause-ok g c =
    let cmp = g.T.Ord.cmp in
    let laws = g.met.T.Ord g.world.𝓛 g.world.𝓜 g.world.𝓡 ((λ s x. x), (λ x. x), (λ x. x), λ x. x) in
    let hashes = g.met.S.KeyHasher g.world.𝓛 g.world.𝓜 g.world.𝓡 ((λ s x. x), (λ x. x), (λ x. x), λ x. x) in
    let old = c.args.set.now.elements in
    let map = c.in_ok-built.built in
    let bins = c.into_bins-bins.result.0.items in
    let apart = all_apart laws.total (g.S.KeyHasher.hash_of map.hasher) (hashes.alike map.hasher) (length (maps_of_bins bins)) 0 (maps_of_bins bins) c.into_bins-bins.ensures.bins.placed in
    let built = c.in_ok-built.ensures.made.0 ∙ ap (with_all cmp []) c.in_ok-pairs.ensures in
    let same = subst (λ ps. IsPermutation ps (pairs_of_bins bins)) built c.into_bins-bins.ensures.bins.pairs in
    on_ok_weaker c.join_bins.result (λ e. e ∙ with_elements-built laws.total old c.args.list.items (pairs_of_bins bins) c.allocator-alloc.ensures.ascend apart same) c.join_bins.ensures.ok

pub returns-clause-err : goal.returns-clause-err
returns-clause-err g c =
    let cmp = g.T.Ord.cmp in
    let list = c.args.list.items in
    let map = c.in_ok-built.built in
    let bins = c.into_bins-bins.result.0.items in
    let elements = ap keys_of (c.in_ok-built.ensures.made.0 ∙ ap (with_all cmp []) c.in_ok-pairs.ensures) ∙ elements_built cmp list in
    let same = subst (λ xs. IsPermutation xs (keys_of (pairs_of_bins bins))) elements (IsPermutation-map (λ p. p.0) map.pairs (pairs_of_bins bins) c.into_bins-bins.ensures.bins.pairs) in
    on_err_weaker c.join_bins.result (λ h. (h.0, h.1, subst (IsPermutation (with_elements cmp [] list)) h.2 same, h.3)) c.join_bins.ensures.err
