use Rattle.flurry_shared.proofs.map.HashMap.compute_if_present.Goals as goal

pub returns-clause-answer : goal.returns-clause-answer
returns-clause-answer g c = rw c.pin.ensures at c.compute_if_present.ensures.answer
