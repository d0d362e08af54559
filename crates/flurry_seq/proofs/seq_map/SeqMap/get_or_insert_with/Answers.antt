use Rattle.std.proofs.Common.{IfOk, MatchResult, OnErr, OnOk, Result, Ok, Err, refl}
use Rattle.flurry_seq.proofs.seq_map.SeqMap.get_or_insert_with.Goals as goal

MatchResult-from_parts : {T E : Type 0} (r : Result T E) (P : T → Type 0) (Q N : Type 0) → IfOk r P → OnOk r Q → OnErr r N → MatchResult r (λ x. P x × Q) (λ _. N)
MatchResult-from_parts (Ok x) P Q N p q n = (p, q)
MatchResult-from_parts (Err e) P Q N p q n = n

pub returns-clause-absent : goal.returns-clause-absent
returns-clause-absent g c = λ _.
    let added = c.add_pair.ensures in
    (c.f-value.result, (_, refl, c.f-value.ensures), MatchResult-from_parts c.add_pair.result _ _ _ added.value added.pairs added.err)
