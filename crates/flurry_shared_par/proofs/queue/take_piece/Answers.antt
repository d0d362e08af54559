use Rattle.std.proofs.Common.{rules}
use Rattle.flurry_shared_par.proofs.queue.take_piece.Goals as goal

pub returns-clause-len : goal.returns-clause-len
returns-clause-len g c = search rules
