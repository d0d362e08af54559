use Rattle.std.proofs.Common.{rules}
use Rattle.flurry_run_words.proofs.exit.exit_code.Goals as goal

pub returns : goal.returns
returns c = search rules
