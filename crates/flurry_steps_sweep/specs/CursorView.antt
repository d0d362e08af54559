-- What contracts see of a cursor.
use Rattle.flurry_steps_sweep.specs.Cursor.{CursorState}
use Rattle.flurry_steps_sweep.specs.FrameView.{frame_of}
use Rattle.flurry_steps_sweep.specs.declared.cursor.Cursor.TheInside.{Inside}

abbrev pub cursor_state_of : {K A : Type 0} → Inside K A → CursorState K
cursor_state_of c = record { base = c.base; index = c.index; top = frame_of c.top; below = c.below }
