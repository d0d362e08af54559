-- An owned map may cross threads as its keys, values, hasher and allocator may.
use denote.RattleType.{RattleType}
use denote.Param.Send.{IsSend, IsSync, Frees, sendable}
use Rattle.std.proofs.CrossingOver.{crosses}
use Rattle.std.specs.declared.alloc.Allocator.{Ghosts}
use Rattle.std.specs.declared.cmp.Ord as ord
use Rattle.std.specs.declared.cmp.PartialEq as eq
use Rattle.std.specs.declared.cmp.PartialOrd as partial
use Rattle.flurry_bins.proofs.Crossing.{bin_send}
use Rattle.flurry_base.specs.declared.hash.KeyHasher as hasher
use Rattle.flurry_seq.specs.contracts.seq_map.SeqMap as SeqMap

module _ (K V S A : RattleType) (g : Ghosts A.Denot) (sk : IsSend K) (yk : IsSync K) (sv : IsSend V) (yv : IsSync V) (ss : IsSend S) (sa : IsSend A) (ya : IsSync A) (f : Frees g g.dealloc_token)
    (o : ord.Ghosts K.Denot) (e : eq.Ghosts K.Denot) (p : partial.Ghosts K.Denot) (h : hasher.Ghosts S.Denot K.Denot) where
  pub map_send : IsSend (SeqMap.the_row K V S A o e p h g)
  map_send = let b = bin_send K V A g sk yk sv yv sa ya f o e p in search (crosses, sendable) depth 60
