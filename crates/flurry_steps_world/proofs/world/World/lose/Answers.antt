use Rattle.std.proofs.Common.{refl, arith}
use Rattle.std.proofs.lemmas.Grind.{common_steps}
use Rattle.flurry_steps_world.specs.WorldView.{world_state_of}
use Rattle.flurry_steps_world.proofs.WorldSteps.{lent_at, unknown_loss, loss_step}
use Rattle.flurry_steps_world.proofs.world.World.lose.Goals as goal

pub invariant_of-self-then-len-party : goal.invariant_of-self-then-len-party
invariant_of-self-then-len-party g c =
    (unknown_loss g.K.Ord.cmp g.met.K.Ord.total (g.S.KeyHasher.hash_of c.self.inside.hasher) (g.met.S.KeyHasher.alike c.self.inside.hasher) g.F.ComputeFn.changes (world_state_of c.self.inside) c.self.invariant
    c.make_room.new.list.items c.in_ok-make_room.ensures.same c.in_ok-make_room.ensures.few c.args.party (grind (arith, common_steps, c.if-len-party.true, c.len.ensures)) c.push_reserved.new.self.items c.push_reserved.ensures.items).0

pub returns-then-len-party-clause-ok : goal.returns-then-len-party-clause-ok
returns-then-len-party-clause-ok g c =
    rw (← c.self.view_is)
    (unknown_loss g.K.Ord.cmp g.met.K.Ord.total (g.S.KeyHasher.hash_of c.self.inside.hasher) (g.met.S.KeyHasher.alike c.self.inside.hasher) g.F.ComputeFn.changes (world_state_of c.self.inside) c.self.invariant
    c.make_room.new.list.items c.in_ok-make_room.ensures.same c.in_ok-make_room.ensures.few c.args.party (grind (arith, common_steps, c.if-len-party.true, c.len.ensures)) c.push_reserved.new.self.items c.push_reserved.ensures.items).1

pub returns-then-len-party-clause-transition : goal.returns-then-len-party-clause-transition
returns-then-len-party-clause-transition g c =
    rw (← c.self.view_is)
    (unknown_loss g.K.Ord.cmp g.met.K.Ord.total (g.S.KeyHasher.hash_of c.self.inside.hasher) (g.met.S.KeyHasher.alike c.self.inside.hasher) g.F.ComputeFn.changes (world_state_of c.self.inside) c.self.invariant
    c.make_room.new.list.items c.in_ok-make_room.ensures.same c.in_ok-make_room.ensures.few c.args.party (grind (arith, common_steps, c.if-len-party.true, c.len.ensures)) c.push_reserved.new.self.items c.push_reserved.ensures.items).2

pub invariant_of-self-2 : goal.invariant_of-self-2
invariant_of-self-2 g c =
    (loss_step g.K.Ord.cmp g.met.K.Ord.total (g.S.KeyHasher.hash_of c.self.inside.hasher) (g.met.S.KeyHasher.alike c.self.inside.hasher) g.F.ComputeFn.changes (world_state_of c.self.inside) c.self.invariant
    c.make_room.new.list.items c.in_ok-make_room.ensures.same c.in_ok-make_room.ensures.few c.args.party _
    (lent_at c.self.inside.party_records.items c.args.party c.index_mut-party_record.result.now _ (grind (arith, common_steps, c.if-len-party.false, c.len.ensures)) c.index_mut-party_record.ensures.value c.party_record.view_is)
    c.lose.new.self c.lose.ensures _ refl c.push_reserved.new.self.items c.push_reserved.ensures.items).0

pub returns-clause-ok : goal.returns-clause-ok
returns-clause-ok g c =
    rw (← c.self.view_is)
    (loss_step g.K.Ord.cmp g.met.K.Ord.total (g.S.KeyHasher.hash_of c.self.inside.hasher) (g.met.S.KeyHasher.alike c.self.inside.hasher) g.F.ComputeFn.changes (world_state_of c.self.inside) c.self.invariant
    c.make_room.new.list.items c.in_ok-make_room.ensures.same c.in_ok-make_room.ensures.few c.args.party _
    (lent_at c.self.inside.party_records.items c.args.party c.index_mut-party_record.result.now _ (grind (arith, common_steps, c.if-len-party.false, c.len.ensures)) c.index_mut-party_record.ensures.value c.party_record.view_is)
    c.lose.new.self c.lose.ensures _ refl c.push_reserved.new.self.items c.push_reserved.ensures.items).1

pub returns-clause-transition : goal.returns-clause-transition
returns-clause-transition g c =
    rw (← c.self.view_is)
    (loss_step g.K.Ord.cmp g.met.K.Ord.total (g.S.KeyHasher.hash_of c.self.inside.hasher) (g.met.S.KeyHasher.alike c.self.inside.hasher) g.F.ComputeFn.changes (world_state_of c.self.inside) c.self.invariant
    c.make_room.new.list.items c.in_ok-make_room.ensures.same c.in_ok-make_room.ensures.few c.args.party _
    (lent_at c.self.inside.party_records.items c.args.party c.index_mut-party_record.result.now _ (grind (arith, common_steps, c.if-len-party.false, c.len.ensures)) c.index_mut-party_record.ensures.value c.party_record.view_is)
    c.lose.new.self c.lose.ensures _ refl c.push_reserved.new.self.items c.push_reserved.ensures.items).2
