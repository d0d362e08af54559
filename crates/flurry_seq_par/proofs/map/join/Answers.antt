use Rattle.std.proofs.Common.{sym, ap, ◌∙◌, length, subst, rules}
use Rattle.std.specs.List.Sorted.{IsPermutation}
use Rattle.std.proofs.lemmas.Result.{on_ok_weaker, on_err_weaker}
use Rattle.flurry_base.specs.FiniteMap.{with_all}
use Rattle.flurry_seq.specs.MapsOfBins.{maps_of_bins}
use Rattle.flurry_seq.proofs.IterLaws.{all_apart}
use Rattle.flurry_seq_par.specs.Joins.{pairs_of_bins}
use Rattle.flurry_seq_par.proofs.Joining.{map_apart, with_all-permuted}
use Rattle.flurry_seq_par.proofs.map.join.Goals as goal

pub returns-clause-ok : goal.returns-clause-ok
returns-clause-ok g c =
    let cmp = g.K.Ord.cmp in
    let total = g.met.K.Ord.total in
    let old = c.args.left.now.pairs in
    let right = c.args.right in
    let out = c.into_bins-bins.ensures.bins in
    let bins = c.into_bins-bins.result.0.items in
    let apart = all_apart total (g.S.KeyHasher.hash_of right.hasher) (g.met.S.KeyHasher.alike right.hasher) (length (maps_of_bins bins)) 0 (maps_of_bins bins) out.placed in
    let same = with_all-permuted total old right.pairs (pairs_of_bins bins) c.is_empty.ensures.ascend (map_apart total right.pairs c.into_bins-bins.ensures.ascend) apart out.pairs in
    on_ok_weaker c.join_bins.result (λ e. e ∙ ap (λ m. with_all cmp m (pairs_of_bins bins)) c.reserve.ensures.same.0 ∙ sym same) c.join_bins.ensures.ok

pub returns-clause-err : goal.returns-clause-err
returns-clause-err g c =
    let cmp = g.K.Ord.cmp in
    let right = c.args.right.pairs in
    on_err_weaker c.join_bins.result (λ h. (h.0, h.1, subst (IsPermutation right) h.2 c.into_bins-bins.ensures.bins.pairs, h.3 ∙ ap (λ m. with_all cmp m h.0) c.reserve.ensures.same.0)) c.join_bins.ensures.err

pub returns-clause-hasher : goal.returns-clause-hasher
returns-clause-hasher g c = search rules
