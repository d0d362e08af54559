use Rattle.std.proofs.Common.{◌<◌, inr, subst, sym}
use Rattle.flurry_seq.specs.Invariant.{IsTableSize}
use Rattle.flurry_seq.proofs.GrowthLemmas.{wanted_size, wanted_some}
use Rattle.flurry_seq.proofs.seq_map.SeqMap.reserve.Goals as goal

pub grown-requires-clause-size : goal.grown-requires-clause-size
grown-requires-clause-size g c = subst IsTableSize (sym c.wanted-least.ensures.value) (inr (wanted_size c.saturating_add.result))

pub grown-requires-clause-some : goal.grown-requires-clause-some
grown-requires-clause-some g c = subst (λ n. 0 < n) (sym c.wanted-least.ensures.value) (wanted_some c.saturating_add.result)
