use Rattle.flurry_seq.proofs.seq_map.SeqMap.call_on_many.Goals as goal

pub retain-requires : goal.retain-requires
retain-requires g c = c.requires.tests c.in-Retain.test

pub retain_force-requires : goal.retain_force-requires
retain_force-requires g c = c.requires.tests c.in-RetainForce.test
