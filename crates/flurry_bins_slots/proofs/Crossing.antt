-- Which live bins and slots may cross threads: as their bins may.
use denote.RattleType.{RattleType}
use denote.Param.Send.{IsSend, IsSync, Frees, sendable}
use Rattle.std.specs.declared.alloc.Allocator.{Ghosts}
use Rattle.std.specs.declared.cmp.Ord as ord
use Rattle.std.specs.declared.cmp.PartialEq as eq
use Rattle.std.specs.declared.cmp.PartialOrd as partial
use Rattle.flurry_bins.proofs.Crossing.{bin_send, bin_sync}
use Rattle.flurry_bins_slots.specs.contracts.live.LiveBin as LiveBin
use Rattle.flurry_bins_slots.specs.contracts.slot.Slot as Slot

module _ (K V A : RattleType) (g : Ghosts A.Denot) (sk : IsSend K) (yk : IsSync K) (sv : IsSend V) (yv : IsSync V) (sa : IsSend A) (ya : IsSync A) (f : Frees g g.dealloc_token)
    (o : ord.Ghosts K.Denot) (e : eq.Ghosts K.Denot) (p : partial.Ghosts K.Denot) where
  live_bin_send : IsSend (LiveBin.the_field K V A o e p g).row
  live_bin_send = let b = bin_send K V A g sk yk sv yv sa ya f o e p in search sendable depth 60

  live_bin_sync : IsSync (LiveBin.the_field K V A o e p g).row
  live_bin_sync = let b = bin_sync K V A g sk yk sv yv sa ya f o e p in search sendable depth 60

  pub slot_send : IsSend (Slot.the_row K V A o e p g)
  slot_send = let b = live_bin_send in search sendable depth 60

  pub slot_sync : IsSync (Slot.the_row K V A o e p g)
  slot_sync = let b = live_bin_sync in search sendable depth 60
