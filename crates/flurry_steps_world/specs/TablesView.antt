-- What contracts see of tables.
use Rattle.std.specs.Prelude.{List, map}
use Rattle.flurry_steps_world.specs.Tables.{Tables}
use Rattle.flurry_steps_world.specs.declared.tables.Table.{Table}

abbrev pub tables_of : {K V A : Type 0} → List (Table K V A) → Tables K V
tables_of ts = record { slots = map (λ v. v.slots.items) ts; boards = map (λ v. v.board) ts }
