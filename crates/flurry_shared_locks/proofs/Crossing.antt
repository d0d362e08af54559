-- The locks of a shared map may cross threads as its keys, values and allocator may.
use denote.RattleType.{RattleType}
use denote.Param.Send.{IsSend, IsSync, Frees, sendable}
use Rattle.std.proofs.CrossingOver.{crosses}
use Rattle.std.proofs.sync.OnceLock.TheSendSync as once
use Rattle.std.proofs.sync.RwLock.TheSendSync as lock
use Rattle.std.specs.contracts.sync.Arc as Arc
use Rattle.std.specs.contracts.sync.RwLock as RwLock
use Rattle.std.specs.contracts.vec.Vec as Vec
use Rattle.std.specs.declared.alloc.Allocator.{Ghosts}
use Rattle.std.specs.declared.cmp.Ord as ord
use Rattle.std.specs.declared.cmp.PartialEq as eq
use Rattle.std.specs.declared.cmp.PartialOrd as partial
use Rattle.flurry_steps_claims.proofs.helpers.Helpers.TheSendSync as helpers
use Rattle.flurry_steps_claims.specs.contracts.helpers.Helpers as Helpers
use Rattle.flurry_bins_slots.proofs.Crossing.{slot_send, slot_sync}
use Rattle.flurry_bins_slots.specs.contracts.slot.Slot as Slot
use Rattle.flurry_shared_locks.proofs.shared_control.SharedControl.TheSendSync as control
use Rattle.flurry_shared_locks.proofs.published_tables.PublishedTables.TheSendSync as published_tables
use Rattle.flurry_shared_locks.specs.contracts.locks.Locks as Locks
use Rattle.flurry_shared_locks.specs.contracts.tables.Tables as Tables

module _ (K V A : RattleType) (g : Ghosts A.Denot) (sk : IsSend K) (yk : IsSync K) (sv : IsSend V) (yv : IsSync V) (sa : IsSend A) (ya : IsSync A) (f : Frees g g.dealloc_token)
    (o : ord.Ghosts K.Denot) (e : eq.Ghosts K.Denot) (p : partial.Ghosts K.Denot) where
  abbrev lock_row : RattleType
  lock_row = RwLock.the_row (Slot.the_row K V A o e p g)

  lock_send : IsSend lock_row
  lock_send = let s = slot_send K V A g sk yk sv yv sa ya f o e p in search (lock.the_send, sendable) depth 20

  lock_sync : IsSync lock_row
  lock_sync = let s = slot_send K V A g sk yk sv yv sa ya f o e p in let y = slot_sync K V A g sk yk sv yv sa ya f o e p in search (lock.the_sync, sendable) depth 20

  helpers_send : IsSend (Arc.the_row (Helpers.the_row A g) A g)
  helpers_send = search (crosses, helpers.the_send, helpers.the_sync, sendable) depth 20

  helpers_sync : IsSync (Arc.the_row (Helpers.the_row A g) A g)
  helpers_sync = search (crosses, helpers.the_send, helpers.the_sync, sendable) depth 20

  table_send : IsSend (Arc.the_row (Vec.the_row lock_row A g) A g)
  table_send = let s = lock_send in let y = lock_sync in search (crosses, sendable) depth 20

  table_sync : IsSync (Arc.the_row (Vec.the_row lock_row A g) A g)
  table_sync = let s = lock_send in let y = lock_sync in search (crosses, sendable) depth 20

  tables_send : IsSend (Tables.the_field K V A o e p g).row
  tables_send = let s = table_send in let t = helpers_send in search (once.the_send, sendable) depth 20

  tables_sync : IsSync (Tables.the_field K V A o e p g).row
  tables_sync = let s = table_send in let y = table_sync in let t = helpers_send in let u = helpers_sync in search (once.the_sync, sendable) depth 20

  pub locks_send : IsSend (Locks.the_field K V A o e p g).row
  locks_send = let t = tables_send in search (published_tables.the_field_send, control.the_field_send, sendable) depth 20

  pub locks_sync : IsSync (Locks.the_field K V A o e p g).row
  locks_sync = let t = tables_sync in search (published_tables.the_field_sync, control.the_field_sync, sendable) depth 20
