use Rattle.std.proofs.Common.{Ok, refl, ◌∙◌, ap, inl, inr}
use Rattle.flurry_shared_view.proofs.map_ref.HashMapRef.get_or_insert_with.Goals as goal

pub returns-in-Ok-Ok-clause-value : goal.returns-in-Ok-Ok-clause-value
returns-in-Ok-Ok-clause-value g c =
    let answer = rw (c.in-Ok-Ok.is ∙ ap Ok c.in-Ok-Ok.field-0-is) at c.try_insert.ensures.answer in
    let added = rw (c.in-Ok-Ok.is ∙ ap Ok c.in-Ok-Ok.field-0-is) at c.try_insert.ensures.added in
    inr (c.f-computed.result, (_, refl, c.f-computed.ensures), inl (answer, added))

pub returns-in-Ok-Err-clause-value : goal.returns-in-Ok-Err-clause-value
returns-in-Ok-Err-clause-value g c =
    let answer = rw (c.in-Ok-Err.is ∙ ap Ok c.in-Ok-Err.field-0-is) at c.try_insert.ensures.answer in
    let added = rw (c.in-Ok-Err.is ∙ ap Ok c.in-Ok-Err.field-0-is) at c.try_insert.ensures.added in
    inr (c.f-computed.result, (_, refl, c.f-computed.ensures), inr (rw added at answer))

pub returns-in-Err-clause-err : goal.returns-in-Err-clause-err
returns-in-Err-clause-err g c = inr (c.f-computed.result, (_, refl, c.f-computed.ensures), rw c.in-Err.is at c.try_insert.ensures.answer)
