-- Std's hasher after a seed.
use Rattle.std.specs.Prelude.{ℕ}
use Rattle.std.specs.List.{fold}
use Rattle.std.specs.Hash as fed
use Rattle.std.specs.Hash.DefaultHasher as sip
use Rattle.std.specs.declared.hash.DefaultHasher.{DefaultHasher}

-- std's hasher after the seed
abbrev pub hasher_of_seed : ℕ → DefaultHasher
hasher_of_seed seed = fold sip.write sip.initial (fed.u64 seed)
