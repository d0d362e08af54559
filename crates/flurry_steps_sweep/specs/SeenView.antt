-- What contracts see of a pair that a walk has read.
use Rattle.std.specs.Arc.{arc_value}
use Rattle.flurry_base.specs.declared.call.Seen.{Seen}
use Rattle.flurry_steps_sweep.specs.declared.seen.Seen.TheInside.{Inside}

abbrev pub seen_of : {K V A : Type 0} → Inside K V A → Seen K V
seen_of s = record { key = arc_value s.key; value = arc_value s.value; number = s.number }
