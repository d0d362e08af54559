-- What contracts see of the part that a call wants.
use Rattle.flurry_steps_sweep.specs.Part.{Part, ControlPart, LookPart, BinPart, MovePart, SeatPart, BoardPart, GivePart, NoPart}
use Rattle.flurry_steps_sweep.specs.declared.step.Want.{Want}
use Rattle.flurry_steps_sweep.specs.declared.step.Want.TheVariants as want

abbrev pub part_of_want : Want → Part
part_of_want want.Control = ControlPart
part_of_want (want.Look e i) = LookPart e i
part_of_want (want.Bin e i) = BinPart e i
part_of_want (want.Move e i) = MovePart e i
part_of_want (want.Seat e) = SeatPart e
part_of_want (want.Board e) = BoardPart e
part_of_want (want.Give e) = GivePart e
part_of_want want.Done = NoPart
