use Rattle.std.proofs.Common.{◌≡◌, [], ◌≤◌, map, replicate, None}
use Rattle.std.specs.Vec.{vec_len, vec_capacity}
use Rattle.flurry_steps_world.proofs.tables.Tables.new.Given as goal
use Rattle.flurry_base.specs.declared.sizes.TheConstants.{TABLES}

abbrev pub invariant-loop : goal.invariant-loop
invariant-loop g l = record {
  empty : map (λ v. v.slots.items) l.tables.items ≡ replicate l.counter [];
  bare : map (λ v. v.board) l.tables.items ≡ replicate l.counter None;
  count : vec_len l.tables ≡ l.counter;
  room : TABLES ≤ vec_capacity l.tables;
}
