use Rattle.std.proofs.Common.{refl}
use Rattle.flurry_steps.specs.Field.{ControlLoan}
use Rattle.flurry_steps_world.proofs.parts.PartsField.at_control.Goals as goal

pub returns : goal.returns
returns g c =
    rw (← c.self.view_is) (record {
      loan = ControlLoan c.self.inside.control c.self.inside.tables c.on_control.new.control c.on_control.new.room;
      lent = (tt, (refl, refl));
      step = (c.requires, c.on_control.ensures);
    })
