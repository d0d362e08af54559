use Rattle.std.specs.Cmp.{unsigned_Decides}
use Rattle.std.proofs.lemmas.Slice.Eq.{strip_prefix_is}
use Rattle.flurry_run_lines.proofs.parse.strip.Goals as goal

pub returns : goal.returns
returns c = strip_prefix_is unsigned_Decides c.args.line.now c.args.front.now c.strip_prefix.result c.strip_prefix.ensures.cases
