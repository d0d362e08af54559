-- What a share of a recorded map is seen as.
use Rattle.std.specs.Prelude.{ℕ, List}
use Rattle.flurry_base.specs.declared.reply.KeptReply.{KeptReply}
use Rattle.flurry_seq_recorded.specs.declared.kept.KeptCall.{KeptCall}
use Rattle.flurry_seq_recorded.specs.declared.share.Receipt.{Receipt}

-- its number, and its receipts in the order of its calls
pub record ShareContents (K V : Type 0) : Type 0 where
  pub number : ℕ
  pub receipts : List (Receipt K V)

module _ {K V : Type 0} where
  abbrev pub share_contents : ℕ → List (Receipt K V) → ShareContents K V
  share_contents n rs = record { number = n; receipts = rs }

  -- the share with other receipts
  abbrev pub with_receipts : ShareContents K V → List (Receipt K V) → ShareContents K V
  with_receipts s rs = record s { receipts = rs }

  abbrev pub receipt : ℕ → KeptCall K V → KeptReply K V → Receipt K V
  receipt p c r = record { place = p; call = c; reply = r }
