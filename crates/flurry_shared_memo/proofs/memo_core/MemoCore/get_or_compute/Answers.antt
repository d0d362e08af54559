use Rattle.std.proofs.Common.{rules, ◌≡◌, None, refl, subst, sym}
use Rattle.flurry_base.specs.FiniteMap.{value_at}
use Rattle.flurry_shared_memo.proofs.memo_core.MemoCore.get_or_compute.Goals as goal
use Rattle.flurry_shared_memo.proofs.memo_core.MemoCore.get_or_compute.Goals.{in-Ok, in-Err}

pub returns-in_err-value-clause-absent : goal.returns-in_err-value-clause-absent
returns-in_err-value-clause-absent g c a = (c.f-computed.result, (_, refl, c.f-computed.ensures), search rules)

pub returns-clause-absent : goal.returns-clause-absent
returns-clause-absent g c a =
    let absent : value_at g.K.Ord.cmp c.self.inside.map.pairs c.args.key ≡ None = subst (λ m. value_at g.K.Ord.cmp m c.args.key ≡ None) (sym c.self.view_is) a in
    let reply = rw absent at c.in_ok-value.ensures.reply in
    (c.f-computed.result, (_, refl, c.f-computed.ensures), elim c.match-branch-2.branch [ in-Ok w ↦ search rules | in-Err w ↦ search rules ])
