use Rattle.std.proofs.Common.{[], ap, refl, ◌∙◌, subst}
use Rattle.std.proofs.lemmas.List.Sorted.{IsPermutation-refl}
use Rattle.std.proofs.lemmas.Result.{on_ok_weaker, on_err_weaker}
use Rattle.flurry_base.specs.FiniteMap.{with_all}
use Rattle.flurry_base.proofs.FiniteMapLaws.{IsFiniteMap-nil}
use Rattle.flurry_seq.proofs.RunLaws.{on_err}
use Rattle.flurry_seq_par.specs.Joins.{HasSomeOf}
use Rattle.flurry_seq_par.proofs.Joining.{with_all-with_all}
use Rattle.flurry_seq_par.proofs.map.par_extend.Goals as goal

pub returns-in_err-built-clause-err : goal.returns-in_err-built-clause-err
returns-in_err-built-clause-err g c = on_err c.from_residual.result _ ([], with_all g.K.Ord.cmp [] c.args.list.items, IsPermutation-refl _, refl)

pub returns-clause-ok : goal.returns-clause-ok
returns-clause-ok g c =
    let cmp = g.K.Ord.cmp in
    let laws = g.met.K.Ord g.world.𝓛 g.world.𝓜 g.world.𝓡 ((λ s x. x), (λ x. x), (λ x. x), λ x. x) in
    let old = c.args.map.now.pairs in
    on_ok_weaker c.join.result (λ e. e ∙ ap (with_all cmp old) c.in_ok-built.ensures.made.0 ∙ with_all-with_all laws.total old [] c.args.list.items c.join.ensures.ascend (IsFiniteMap-nil g.row.V.Denot cmp)) c.join.ensures.ok

pub returns-clause-err : goal.returns-clause-err
returns-clause-err g c =
    let cmp = g.K.Ord.cmp in
    on_err_weaker c.join.result (subst (λ ps. HasSomeOf cmp c.args.map.now.pairs ps c.join.new.left.pairs) c.in_ok-built.ensures.made.0) c.join.ensures.err
