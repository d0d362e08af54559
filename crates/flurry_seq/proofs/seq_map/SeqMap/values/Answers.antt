use Rattle.std.proofs.Common.{arith}
use Rattle.std.proofs.lemmas.List.Sorted.{IsPermutation-map}
use Rattle.std.proofs.lemmas.Simd.{map-map}
use Rattle.std.proofs.lemmas.Grind.{common_steps}
use Rattle.flurry_seq.proofs.seq_map.SeqMap.values.Goals as goal

pub returns-clause-values : goal.returns-clause-values
returns-clause-values g c = rw map-map at (IsPermutation-map (λ p. p.1) c.args.self.now.pairs _ c.entries.ensures.permuted)

pub returns-clause-count : goal.returns-clause-count
returns-clause-count g c = grind (arith, common_steps)
