use Rattle.flurry_shared.proofs.map.HashMap.retain.Goals as goal

pub returns : goal.returns
returns g c = rw c.pin.ensures at c.retain.ensures
