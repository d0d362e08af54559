use Rattle.std.proofs.Common.{refl, arith}
use Rattle.std.proofs.lemmas.Grind.{common_steps}
use Rattle.flurry_steps_world.proofs.WorldSteps.{lent_at}
use Rattle.flurry_steps_world.proofs.world.World.last_seen.Goals as goal

pub returns-then-party-len : goal.returns-then-party-len
returns-then-party-len g c =
    let here = lent_at c.self.inside.party_records.items c.args.party c.index.result.now _ (grind (arith, common_steps, c.if-party-len.true, c.len.ensures)) c.index.ensures refl in
    rw (← c.self.view_is, here, ← c.behind-self.view_is) c.seen.ensures.ok
