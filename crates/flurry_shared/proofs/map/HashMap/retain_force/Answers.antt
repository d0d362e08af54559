use Rattle.flurry_shared.proofs.map.HashMap.retain_force.Goals as goal

pub returns : goal.returns
returns g c = rw c.pin.ensures at c.retain_force.ensures
