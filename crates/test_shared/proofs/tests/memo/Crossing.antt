-- The hasher of these tests may be lent to threads.
use denote.Param.Send.{IsSync, sendable}
use Rattle.flurry_base.specs.contracts.hash.LowHashBuilder as LowHashBuilder

pub hasher_sync : IsSync LowHashBuilder.the_row
hasher_sync = search sendable depth 40
