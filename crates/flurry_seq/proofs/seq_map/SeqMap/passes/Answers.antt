use Rattle.flurry_seq.proofs.seq_map.SeqMap.passes.Goals as goal

pub returns-in-Some : goal.returns-in-Some
returns-in-Some g c = rw (← c.in-Some.ensures) (c.deref.result, c.deref-in-Some.result, c.deref.ensures, c.deref-in-Some.ensures, c.test.ensures)
