-- What contracts see of a frame.
use Rattle.std.specs.Option.{option_map}
use Rattle.std.specs.Arc.{arc_value}
use Rattle.flurry_steps_sweep.specs.Cursor as abstract
use Rattle.flurry_steps_sweep.specs.declared.frames.Frame.{Frame}

abbrev pub frame_of : {K A : Type 0} → Frame K A → abstract.Frame K
frame_of f = record { table = f.table; index = f.index; bound = option_map (λ b. (b.0, arc_value b.1)) f.bound }
