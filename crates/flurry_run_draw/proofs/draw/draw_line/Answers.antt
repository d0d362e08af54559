use Rattle.std.proofs.Common.{rules}
use Rattle.flurry_run_draw.proofs.draw.draw_line.Goals as goal

pub returns : goal.returns
returns g = search rules
