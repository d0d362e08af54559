use Rattle.std.proofs.Common.{◌≡◌, ◌++◌, flat_map, vec_items}
use Rattle.flurry_seq_par.proofs.pieces.pieces.Given as goal

abbrev pub invariant-loop-item : goal.invariant-loop-item
invariant-loop-item g l = flat_map vec_items l.pieces.items ++ l.piece.items ≡ l.yielded
