use denote.Param.Send.{sendable}
use Rattle.flurry_shared_set.proofs.Crossing.{set_sync}
use Rattle.test_shared.proofs.tests.sweeps.drops.SetDeed.TheSendSync as deed
use Rattle.test_shared.proofs.tests.sweeps.drops.Crossing.{guest_send, guest_sync, hasher_sync, meeting_sync}
use Rattle.test_shared.proofs.tests.sweeps.drops.in_two_threads_in_set.Goals as goal

pub join-requires-send-F : goal.join-requires-send-F
join-requires-send-F g c κs within = search (set_sync, guest_send, guest_sync, hasher_sync, meeting_sync, deed.the_send, sendable) depth 40
