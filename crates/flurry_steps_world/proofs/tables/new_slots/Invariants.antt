use Rattle.std.proofs.Common.{◌≡◌, ◌≤◌}
use Rattle.std.specs.Vec.{vec_len, vec_capacity}
use Rattle.flurry_steps_world.specs.Tables.{new_slots}
use Rattle.flurry_steps_world.proofs.tables.new_slots.Given as goal

abbrev pub invariant-loop-index : goal.invariant-loop-index
invariant-loop-index g l = record {
  made : l.slots.items ≡ new_slots l.table l.live l.index;
  count : vec_len l.slots ≡ l.index;
  room : l.bins ≤ vec_capacity l.slots;
}
