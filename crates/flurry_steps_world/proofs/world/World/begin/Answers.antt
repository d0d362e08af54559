use Rattle.flurry_base.specs.OneKey.{hash_of_call}
use Rattle.std.proofs.Common.{◌≡◌, length, refl, ap, ◌∙◌, arith, None, rules}
use Rattle.std.proofs.lemmas.Grind.{common_steps}
use Rattle.flurry_steps_stages.specs.CallView.{plain_of_owned}
use Rattle.flurry_steps_stages.specs.Stage.{stage_of_call}
use Rattle.flurry_steps_world.specs.WorldView.{world_state_of}
use Rattle.flurry_steps_world.proofs.BeginLaws.{owned_begins}
use Rattle.flurry_steps_world.proofs.WorldSteps.{party_begins}
use Rattle.flurry_steps_world.proofs.world.World.begin.Goals as goal

pub invariant_of-self-2 : goal.invariant_of-self-2
invariant_of-self-2 g c =
    let numbered : c.len-party.result ≡ length c.make_room-2.new.list.items = grind (arith, common_steps, c.len-party.ensures) in
    (party_begins g.K.Ord.cmp g.met.K.Ord.total (g.S.KeyHasher.hash_of c.self.inside.hasher) (g.met.S.KeyHasher.alike c.self.inside.hasher) g.F.ComputeFn.changes (world_state_of c.self.inside) c.self.invariant
    (plain_of_owned c.args.call) None (λ v h. cc) (record { hash = hash_of_call (g.S.KeyHasher.hash_of c.self.inside.hasher) (plain_of_owned c.args.call); processors = c.self.inside.processors; helped = None; stage = stage_of_call (plain_of_owned c.args.call) })
    (owned_begins (g.S.KeyHasher.hash_of c.self.inside.hasher) c.self.inside.processors c.args.call)
    c.make_room.new.list.items c.in_ok-make_room.ensures.same c.in_ok-make_room.ensures.few c.make_room-2.new.list.items c.in_ok-make_room-2.ensures.same c.push_reserved.new.self.items
    (rw (c.push_reserved.ensures.items, c.plain_of_owned-kept.ensures, c.from_owned.ensures, c.hash_for-hash.ensures) refl) c.len-party.result (numbered ∙ ap length c.in_ok-make_room-2.ensures.same) c.push_reserved-2.new.self.items (rw (c.push_reserved-2.ensures.items, c.plain_of_owned-kept.ensures) refl)).0

pub returns-clause-transition : goal.returns-clause-transition
returns-clause-transition g c =
    let numbered : c.len-party.result ≡ length c.make_room-2.new.list.items = grind (arith, common_steps, c.len-party.ensures) in
    let number = numbered ∙ ap length c.in_ok-make_room-2.ensures.same in
    rw (← c.self.view_is)
    (party_begins g.K.Ord.cmp g.met.K.Ord.total (g.S.KeyHasher.hash_of c.self.inside.hasher) (g.met.S.KeyHasher.alike c.self.inside.hasher) g.F.ComputeFn.changes (world_state_of c.self.inside) c.self.invariant
    (plain_of_owned c.args.call) None (λ v h. cc) (record { hash = hash_of_call (g.S.KeyHasher.hash_of c.self.inside.hasher) (plain_of_owned c.args.call); processors = c.self.inside.processors; helped = None; stage = stage_of_call (plain_of_owned c.args.call) })
    (owned_begins (g.S.KeyHasher.hash_of c.self.inside.hasher) c.self.inside.processors c.args.call)
    c.make_room.new.list.items c.in_ok-make_room.ensures.same c.in_ok-make_room.ensures.few c.make_room-2.new.list.items c.in_ok-make_room-2.ensures.same c.push_reserved.new.self.items
    (rw (c.push_reserved.ensures.items, c.plain_of_owned-kept.ensures, c.from_owned.ensures, c.hash_for-hash.ensures) refl) c.len-party.result number c.push_reserved-2.new.self.items (rw (c.push_reserved-2.ensures.items, c.plain_of_owned-kept.ensures) refl)).2

pub returns-clause-ok : goal.returns-clause-ok
returns-clause-ok g c = search rules
