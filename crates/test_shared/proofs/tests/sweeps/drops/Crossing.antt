-- The guests of a map and where they meet may cross threads.
use denote.Param.Send.{IsSend, IsSync, sendable}
use Rattle.std.proofs.Crossing.{crosses}
use Rattle.flurry_base.specs.contracts.hash.ZeroHashBuilder as ZeroHashBuilder
use Rattle.test_shared.specs.contracts.tests.sweeps.drops.Guest as Guest
use Rattle.test_shared.specs.contracts.tests.sweeps.drops.Meeting as Meeting

pub meeting_sync : IsSync Meeting.the_row
meeting_sync = search (crosses, sendable) depth 40

pub guest_send : IsSend Guest.the_row
guest_send = search (meeting_sync, sendable) depth 40

pub guest_sync : IsSync Guest.the_row
guest_sync = search (meeting_sync, sendable) depth 40

pub hasher_sync : IsSync ZeroHashBuilder.the_row
hasher_sync = search sendable depth 40
