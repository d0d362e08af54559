use Rattle.std.proofs.Common.{refl, inl, inr, ap, ◌∙◌, ◌++◌}
use Rattle.std.specs.Prelude.{codes}
use Rattle.std.specs.Fmt.{decimal}
use Rattle.std.specs.Ordering.{nat_cmp}
use Rattle.std.specs.Arc.{arc_value}
use Rattle.flurry_base.specs.FiniteMap.{value_at}
use Rattle.flurry_run_lines.specs.SeqReplies.{present_text}
use Rattle.flurry_run_lines.proofs.Results.{on_ok, match_both}
use Rattle.flurry_run_lines.proofs.seq.answer_try.Goals as goal

pub returns-in-Ok-Ok-clause-answer : goal.returns-in-Ok-Ok-clause-answer
returns-in-Ok-Ok-clause-answer g c =
    let reply = rw c.in-Ok-Ok.field-0-is at c.in-Ok-Ok.ensures.reply in
    on_ok c.write_line.result _ _ c.write_line.ensures.bytes (λ b. (
      codes "new " ++ decimal c.deref.result.now,
      inl (match_both (value_at nat_cmp c.args.map.now.pairs c.args.key) _ _ _ _ (λ p. (ap (λ n. codes "new " ++ decimal n) (c.deref.ensures ∙ p.0), p.1)) (λ v q. absurd q.0) reply),
      b,
    ))

pub returns-in-Ok-Err-clause-answer : goal.returns-in-Ok-Err-clause-answer
returns-in-Ok-Err-clause-answer g c =
    let reply = rw c.in-Ok-Err.field-0-is at c.in-Ok-Err.ensures.reply in
    on_ok c.write_line-in-Ok-Err.result _ _ c.write_line-in-Ok-Err.ensures.bytes (λ b. (
      present_text c.in-Ok-Err.error.not_inserted (arc_value c.in-Ok-Err.error.current),
      inl (match_both (value_at nat_cmp c.args.map.now.pairs c.args.key) _ _ _ _ (λ p. absurd p.0) (λ v q. (rw (q.0.0, q.0.1) refl, ap (λ m. m.pairs) q.1)) reply),
      b,
    ))

pub returns-in-Err-clause-answer : goal.returns-in-Err-clause-answer
returns-in-Err-clause-answer g c = on_ok c.write_line-in-Err.result _ _ c.write_line-in-Err.ensures.bytes (λ b. (codes "refused", inr (refl, ap (λ m. m.pairs) c.in-Err.ensures.err), b))
