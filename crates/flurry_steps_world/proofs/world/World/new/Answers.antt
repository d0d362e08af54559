use Rattle.std.proofs.Common.{arith, ◌^◌, Some, ap, ◌∙◌, inr}
use Rattle.flurry_steps_world.specs.Steps.{fresh_world}
use Rattle.flurry_steps_world.proofs.NewLaws.{new_without, new_with, opened_new}
use Rattle.flurry_steps_world.proofs.WorldSteps.{alike_class}
use Rattle.flurry_steps_world.proofs.world.World.new.Goals as goal

pub of-requires-clause-world : goal.of-requires-clause-world
of-requires-clause-world g c =
    rw c.in_ok-parts.ensures (record { world = new_without g.K.Ord.cmp g.met.K.Ord.total (g.S.KeyHasher.hash_of c.args.hasher) (alike_class g.K.Ord.cmp (g.S.KeyHasher.hash_of c.args.hasher) (g.met.S.KeyHasher.alike c.args.hasher)) g.F.ComputeFn.changes c.args.hasher c.args.processors; few = omega arith })

pub of-requires-2-clause-world : goal.of-requires-2-clause-world
of-requires-2-clause-world g c =
    let opens = opened_new _ _ _ _ _ _ _ (ap (λ s. s.control_state) c.in_ok-parts.ensures) (ap (λ s. s.tables) c.in_ok-parts.ensures) c.open.ensures.gives c.in_ok-first.was in
    rw opens.2 (record { world = new_with g.K.Ord.cmp g.met.K.Ord.total (g.S.KeyHasher.hash_of c.args.hasher) (alike_class g.K.Ord.cmp (g.S.KeyHasher.hash_of c.args.hasher) (g.met.S.KeyHasher.alike c.args.hasher)) g.F.ComputeFn.changes c.args.hasher c.args.processors c.in_ok-first.first c.in_ok-first.ensures.within; few = omega arith })

pub returns : goal.returns
returns g c =
    let opens = opened_new _ _ _ _ _ _ _ (ap (λ s. s.control_state) c.in_ok-parts.ensures) (ap (λ s. s.tables) c.in_ok-parts.ensures) c.open.ensures.gives c.in_ok-first.was in
    inr ((λ h. c.if-capacity-eq0.false h), c.in_ok-first.first, ap (λ e. 2 ^ e) opens.0 ∙ c.wanted_table.ensures.value, c.in_ok-first.ensures.within, c.of-2.ensures ∙ ap (λ t. fresh_world c.args.hasher c.args.processors (Some c.in_ok-first.first) t) opens.2)
