use Rattle.std.proofs.Common.{Ok}
use Rattle.std.specs.List.{All}
use Rattle.flurry_shared_par.proofs.workers.put_piece.Given as goal

abbrev pub invariant-loop-item : goal.invariant-loop-item
invariant-loop-item g l = All (λ item. g.P.Put.put_gives l.into item (Ok tt)) l.yielded
