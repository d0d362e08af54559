use Rattle.flurry_seq_set.proofs.seq_set.SeqSet.call_on_many.Goals as goal

pub retain-requires : goal.retain-requires
retain-requires g c = c.requires.tests c.in-Retain.test
