use Rattle.flurry_steps_drive.proofs.HoldsLaws.{own_tells}
use Rattle.flurry_steps_drive.proofs.driver.own_parts_are_exclusive.Goals as goal

pub returns : goal.returns
returns g c = own_tells
