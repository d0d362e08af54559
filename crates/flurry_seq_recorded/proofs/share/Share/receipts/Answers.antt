use Rattle.std.proofs.Common.{rules}
use Rattle.flurry_seq_recorded.proofs.share.Share.receipts.Goals as goal

pub returns : goal.returns
returns g c = search rules
