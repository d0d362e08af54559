use Rattle.flurry_shared_set.proofs.set.HashSet.retain.Goals as goal

pub returns : goal.returns
returns g c = rw c.pin.ensures at c.retain.ensures
