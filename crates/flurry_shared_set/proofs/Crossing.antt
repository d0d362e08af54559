-- A shared set may cross threads as its elements, hasher and allocator may, and its view where its runtime may be shared.
use denote.Builtin.{unit}
use denote.Ref.{NamedLft}
use denote.RattleType.{RattleType}
use denote.Param.Send.{IsSend, IsSync, Frees, sendable}
use Rattle.std.specs.declared.alloc.Allocator.{Ghosts}
use Rattle.std.specs.declared.cmp.Ord as ord
use Rattle.std.specs.declared.cmp.PartialEq as eq
use Rattle.std.specs.declared.cmp.PartialOrd as partial
use Rattle.flurry_shared.proofs.Crossing.{map_send, map_sync}
use Rattle.flurry_shared_view.proofs.Crossing.{view_send, view_sync}
use Rattle.flurry_base.specs.declared.hash.KeyHasher as hasher
use Rattle.flurry_shared_set.specs.contracts.set.HashSet as HashSet
use Rattle.flurry_shared_set.specs.contracts.set_ref.HashSetRef as HashSetRef

module _ (T S A : RattleType) (g : Ghosts A.Denot) (st : IsSend T) (yt : IsSync T) (sa : IsSend A) (ya : IsSync A) (f : Frees g g.dealloc_token)
    (o : ord.Ghosts T.Denot) (e : eq.Ghosts T.Denot) (p : partial.Ghosts T.Denot) (h : hasher.Ghosts S.Denot T.Denot) where
  unit_send : IsSend unit
  unit_send = search sendable depth 10

  unit_sync : IsSync unit
  unit_sync = search sendable depth 10

  pub set_send : IsSend S → IsSend (HashSet.the_row T S A o e p h g)
  set_send ss = let m = map_send T unit S A g st yt unit_send unit_sync sa ya f o e p h ss in search sendable depth 60

  pub set_sync : IsSync S → IsSync (HashSet.the_row T S A o e p h g)
  set_sync ys = let m = map_sync T unit S A g st yt unit_send unit_sync sa ya f o e p h ys in search sendable depth 60

  pub set_view_send : (m : NamedLft) (R : RattleType) → IsSync R → IsSync S → IsSend (HashSetRef.the_row m R T S A o e p h g)
  set_view_send m R yr ys = let v = view_send m R T unit S A g st yt unit_send unit_sync sa ya f o e p h yr ys in search sendable depth 60

  pub set_view_sync : (m : NamedLft) (R : RattleType) → IsSync R → IsSync S → IsSync (HashSetRef.the_row m R T S A o e p h g)
  set_view_sync m R yr ys = let v = view_sync m R T unit S A g st yt unit_send unit_sync sa ya f o e p h yr ys in search sendable depth 60
