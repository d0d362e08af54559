use Rattle.std.proofs.Common.{◌≡◌, length, slice_get, refl, sym, ap, ◌∙◌, arith, None, Some}
use Rattle.std.proofs.lemmas.Grind.{common_steps}
use Rattle.flurry_base.specs.declared.call.Call.TheVariants as call
use Rattle.flurry_steps_stages.specs.Stage.{RemovesSeen, AtLocate}
use Rattle.flurry_steps_world.specs.World.{seen_in}
use Rattle.flurry_steps_world.specs.WorldView.{world_state_of}
use Rattle.flurry_steps_world.proofs.BeginLaws.{drop_begins, drop_origin}
use Rattle.flurry_steps_world.proofs.WorldSteps.{party_begins}
use Rattle.flurry_steps_world.proofs.world.World.begin_remove_seen.Goals as goal

pub invariant_of-self-2 : goal.invariant_of-self-2
invariant_of-self-2 g c =
    let numbered : c.len-party.result ≡ length c.make_room-2.new.list.items = grind (arith, common_steps, c.len-party.ensures) in
    let kept : c.party_record.inside.call ≡ call.RemoveSeen c.in-Some.seen = ap (λ r. r.call) (c.party_record.view_is ∙ c.of_seen-party_record.ensures) in
    let read : Some c.in-Some.seen ≡ seen_in (slice_get c.self.inside.party_records.items c.args.walk) = rw (← c.self.view_is) at (rw c.in-Some.is at c.in_ok-seen.ensures) in
    (party_begins g.K.Ord.cmp g.met.K.Ord.total (g.S.KeyHasher.hash_of c.self.inside.hasher) (g.met.S.KeyHasher.alike c.self.inside.hasher) g.F.ComputeFn.changes (world_state_of c.self.inside) c.self.invariant
    (call.RemoveSeen c.in-Some.seen) (Some c.args.walk) (drop_origin c.self.inside.party_records.items c.args.walk c.in-Some.seen (sym read))
    (record { hash = g.S.KeyHasher.hash_of c.self.inside.hasher c.in-Some.seen.key; processors = c.self.inside.processors; helped = None; stage = AtLocate (RemovesSeen c.in-Some.seen) })
    (drop_begins (g.S.KeyHasher.hash_of c.self.inside.hasher) c.self.inside.processors c.in-Some.seen)
    c.make_room.new.list.items c.in_ok-make_room.ensures.same c.in_ok-make_room.ensures.few c.make_room-2.new.list.items c.in_ok-make_room-2.ensures.same c.push_reserved.new.self.items
    (rw (c.push_reserved.ensures.items, c.of_seen-party_record.ensures, c.hash_one-hash.ensures, c.key.ensures) refl) c.len-party.result (numbered ∙ ap length c.in_ok-make_room-2.ensures.same) c.push_reserved-2.new.self.items (rw (c.push_reserved-2.ensures.items, kept) refl)).0

pub returns-clause-transition : goal.returns-clause-transition
returns-clause-transition g c =
    let numbered : c.len-party.result ≡ length c.make_room-2.new.list.items = grind (arith, common_steps, c.len-party.ensures) in
    let kept : c.party_record.inside.call ≡ call.RemoveSeen c.in-Some.seen = ap (λ r. r.call) (c.party_record.view_is ∙ c.of_seen-party_record.ensures) in
    let read : Some c.in-Some.seen ≡ seen_in (slice_get c.self.inside.party_records.items c.args.walk) = rw (← c.self.view_is) at (rw c.in-Some.is at c.in_ok-seen.ensures) in
    rw (← c.self.view_is)
    (party_begins g.K.Ord.cmp g.met.K.Ord.total (g.S.KeyHasher.hash_of c.self.inside.hasher) (g.met.S.KeyHasher.alike c.self.inside.hasher) g.F.ComputeFn.changes (world_state_of c.self.inside) c.self.invariant
    (call.RemoveSeen c.in-Some.seen) (Some c.args.walk) (drop_origin c.self.inside.party_records.items c.args.walk c.in-Some.seen (sym read))
    (record { hash = g.S.KeyHasher.hash_of c.self.inside.hasher c.in-Some.seen.key; processors = c.self.inside.processors; helped = None; stage = AtLocate (RemovesSeen c.in-Some.seen) })
    (drop_begins (g.S.KeyHasher.hash_of c.self.inside.hasher) c.self.inside.processors c.in-Some.seen)
    c.make_room.new.list.items c.in_ok-make_room.ensures.same c.in_ok-make_room.ensures.few c.make_room-2.new.list.items c.in_ok-make_room-2.ensures.same c.push_reserved.new.self.items
    (rw (c.push_reserved.ensures.items, c.of_seen-party_record.ensures, c.hash_one-hash.ensures, c.key.ensures) refl) c.len-party.result (numbered ∙ ap length c.in_ok-make_room-2.ensures.same) c.push_reserved-2.new.self.items (rw (c.push_reserved-2.ensures.items, kept) refl)).2
