-- What threads share may cross them.
use denote.Plain.{UInt}
use denote.RattleType.{RattleType}
use denote.Param.Send.{IsSend, IsSync, Frees, sendable}
use mir.Syntax.{w64}
use Rattle.std.proofs.Common.{ℕ}
use Rattle.std.specs.declared.alloc.Allocator.{Ghosts}
use Rattle.std.specs.contracts.prelude.U64Ord.TheImpl as ord
use Rattle.std.specs.contracts.prelude.U64PartialEq.TheImpl as eq
use Rattle.std.specs.contracts.prelude.U64PartialOrd.TheImpl as partial
use Rattle.flurry_shared.proofs.Crossing.{map_sync}
use Rattle.flurry_shared.specs.contracts.map.HashMap as HashMap
use Rattle.flurry_base.specs.declared.hash.KeyHasher as hasher

module _ (S A : RattleType) (h : hasher.Ghosts S.Denot ℕ) (g : Ghosts A.Denot) where
  -- a shared map of numbers
  pub numbers_sync : IsSend A → IsSync A → Frees g g.dealloc_token → IsSync S → IsSync (HashMap.the_row (UInt w64) (UInt w64) S A ord.ghosts eq.ghosts partial.ghosts h g)
  numbers_sync sa ya f ys = search (map_sync, sendable) depth 30
