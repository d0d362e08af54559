-- What contracts see of a world.
use Rattle.flurry_steps_world.specs.World.{WorldState}
use Rattle.flurry_steps_world.specs.declared.world.World.TheInside.{Inside}

abbrev pub world_state_of : {K V F S A : Type 0} → Inside K V F S A → WorldState K V F S
world_state_of w = record {
  hasher = w.hasher;
  processors = w.processors;
  first = w.first;
  control_state = w.parts.control_state;
  tables = w.parts.tables;
  party_records = w.party_records.items;
  trace = w.trace.items;
}
