use Rattle.std.proofs.Common.{refl, arith}
use Rattle.std.proofs.lemmas.Grind.{common_steps}
use Rattle.flurry_steps_world.specs.WorldView.{world_state_of}
use Rattle.flurry_steps_world.proofs.WorldSteps.{lent_at, unknown_step, steps_within, part_there, party_step}
use Rattle.flurry_steps_world.proofs.world.World.step.Goals as goal

pub invariant_of-self-then-party-len : goal.invariant_of-self-then-party-len
invariant_of-self-then-party-len g c =
    (unknown_step g.K.Ord.cmp g.met.K.Ord.total (g.S.KeyHasher.hash_of c.self.inside.hasher) (g.met.S.KeyHasher.alike c.self.inside.hasher) g.F.ComputeFn.changes (world_state_of c.self.inside) c.self.invariant
    c.make_room.new.list.items c.in_ok-make_room.ensures.same c.in_ok-make_room.ensures.few c.args.party (grind (arith, common_steps, c.if-party-len.true, c.len.ensures)) c.push_reserved.new.self.items c.push_reserved.ensures.items).0

pub overflow_add-party_record : goal.overflow_add-party_record
overflow_add-party_record g c =
    let at = lent_at c.self.inside.party_records.items c.args.party c.index_mut-party_record.result.now _ (grind (arith, common_steps, c.if-party-len.false, c.len.ensures)) c.index_mut-party_record.ensures.value c.party_record.view_is in
    let most = steps_within g.K.Ord.cmp g.met.K.Ord.total (g.S.KeyHasher.hash_of c.self.inside.hasher) (g.met.S.KeyHasher.alike c.self.inside.hasher) g.F.ComputeFn.changes (world_state_of c.self.inside) c.self.invariant c.args.party _ at in
    record { fits = omega (arith, most) }

pub step_party-label-requires : goal.step_party-label-requires
step_party-label-requires g c =
    part_there g.K.Ord.cmp g.met.K.Ord.total (g.S.KeyHasher.hash_of c.self.inside.hasher) (g.met.S.KeyHasher.alike c.self.inside.hasher) g.F.ComputeFn.changes (world_state_of c.self.inside) c.self.invariant c.args.party _
    (lent_at c.self.inside.party_records.items c.args.party c.index_mut-party_record.result.now _ (grind (arith, common_steps, c.if-party-len.false, c.len.ensures)) c.index_mut-party_record.ensures.value c.party_record.view_is)

pub invariant_of-self-2 : goal.invariant_of-self-2
invariant_of-self-2 g c =
    (party_step g.K.Ord.cmp g.met.K.Ord.total (g.S.KeyHasher.hash_of c.self.inside.hasher) (g.met.S.KeyHasher.alike c.self.inside.hasher) g.F.ComputeFn.changes (world_state_of c.self.inside) c.self.invariant
    c.make_room.new.list.items c.in_ok-make_room.ensures.same c.in_ok-make_room.ensures.few c.args.party _
    (lent_at c.self.inside.party_records.items c.args.party c.index_mut-party_record.result.now _ (grind (arith, common_steps, c.if-party-len.false, c.len.ensures)) c.index_mut-party_record.ensures.value c.party_record.view_is)
    c.step_party-label.new.call c.step_party-label.new.parts.control_state c.step_party-label.new.parts.tables c.step_party-label.result c.step_party-label.ensures _ refl c.push_reserved-2.new.self.items c.push_reserved-2.ensures.items).0

pub returns-clause-ok : goal.returns-clause-ok
returns-clause-ok g c =
    rw (← c.self.view_is)
    (party_step g.K.Ord.cmp g.met.K.Ord.total (g.S.KeyHasher.hash_of c.self.inside.hasher) (g.met.S.KeyHasher.alike c.self.inside.hasher) g.F.ComputeFn.changes (world_state_of c.self.inside) c.self.invariant
    c.make_room.new.list.items c.in_ok-make_room.ensures.same c.in_ok-make_room.ensures.few c.args.party _
    (lent_at c.self.inside.party_records.items c.args.party c.index_mut-party_record.result.now _ (grind (arith, common_steps, c.if-party-len.false, c.len.ensures)) c.index_mut-party_record.ensures.value c.party_record.view_is)
    c.step_party-label.new.call c.step_party-label.new.parts.control_state c.step_party-label.new.parts.tables c.step_party-label.result c.step_party-label.ensures _ refl c.push_reserved-2.new.self.items c.push_reserved-2.ensures.items).1

pub returns-then-party-len-clause-transition : goal.returns-then-party-len-clause-transition
returns-then-party-len-clause-transition g c =
    rw (← c.self.view_is)
    (unknown_step g.K.Ord.cmp g.met.K.Ord.total (g.S.KeyHasher.hash_of c.self.inside.hasher) (g.met.S.KeyHasher.alike c.self.inside.hasher) g.F.ComputeFn.changes (world_state_of c.self.inside) c.self.invariant
    c.make_room.new.list.items c.in_ok-make_room.ensures.same c.in_ok-make_room.ensures.few c.args.party (grind (arith, common_steps, c.if-party-len.true, c.len.ensures)) c.push_reserved.new.self.items c.push_reserved.ensures.items).2

pub returns-clause-transition : goal.returns-clause-transition
returns-clause-transition g c =
    rw (← c.self.view_is)
    (party_step g.K.Ord.cmp g.met.K.Ord.total (g.S.KeyHasher.hash_of c.self.inside.hasher) (g.met.S.KeyHasher.alike c.self.inside.hasher) g.F.ComputeFn.changes (world_state_of c.self.inside) c.self.invariant
    c.make_room.new.list.items c.in_ok-make_room.ensures.same c.in_ok-make_room.ensures.few c.args.party _
    (lent_at c.self.inside.party_records.items c.args.party c.index_mut-party_record.result.now _ (grind (arith, common_steps, c.if-party-len.false, c.len.ensures)) c.index_mut-party_record.ensures.value c.party_record.view_is)
    c.step_party-label.new.call c.step_party-label.new.parts.control_state c.step_party-label.new.parts.tables c.step_party-label.result c.step_party-label.ensures _ refl c.push_reserved-2.new.self.items c.push_reserved-2.ensures.items).2
