use Rattle.std.proofs.Common.{rules}
use Rattle.flurry_run_draw.proofs.draw.draw_mark.Goals as goal

pub returns-then-is_small : goal.returns-then-is_small
returns-then-is_small g = search rules
