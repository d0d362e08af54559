use Rattle.std.proofs.Common.{sym, ◌∙◌, arith}
use Rattle.std.proofs.lemmas.Bool.{eqb-true, eqb-false}
use Rattle.flurry_steps_world.proofs.ViewLemmas.{slots_stay, slots_come}
use Rattle.flurry_steps_world.proofs.tables.Table.make_slots.Goals as goal

pub returns-then-not-is_empty-clause-slots : goal.returns-then-not-is_empty-clause-slots
returns-then-not-is_empty-clause-slots g c =
    slots_stay c.args.table c.args.live c.args.self.now.slots.items (omega (arith, c.args.self.now.slots.ok.0, eqb-false _ _ (sym c.if-not-is_empty.ensures)))

pub returns-clause-slots : goal.returns-clause-slots
returns-clause-slots g c =
    c.in_ok-self.ensures ∙ slots_come c.args.table c.args.live c.args.self.now.slots.items (omega (arith, c.args.self.now.slots.ok.0, eqb-true _ _ (sym c.if-not-is_empty.ensures)))
