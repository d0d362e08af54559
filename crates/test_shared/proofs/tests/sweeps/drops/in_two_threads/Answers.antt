use denote.Param.Send.{sendable}
use Rattle.flurry_shared_locks.proofs.Crossing.{locks_sync}
use Rattle.test_shared.proofs.tests.sweeps.drops.Crossing.{guest_send, guest_sync, meeting_sync}
use Rattle.test_shared.proofs.tests.sweeps.drops.deeds.Deed.TheSendSync as deed
use Rattle.test_shared.proofs.tests.sweeps.drops.Who.TheSendSync as who
use Rattle.test_shared.proofs.tests.sweeps.drops.in_two_threads.Goals as goal

pub join-requires-send-F : goal.join-requires-send-F
join-requires-send-F g c κs within = search (locks_sync, guest_send, guest_sync, meeting_sync, deed.the_send, who.the_send, sendable) depth 40
