use Rattle.std.proofs.Common.{rules}
use Rattle.flurry_run_lines.proofs.labels.write_label.Goals as goal

pub returns-in-Moved-clause-bytes : goal.returns-in-Moved-clause-bytes
returns-in-Moved-clause-bytes g c = search rules
