-- When the shares that are handed back fit a book.
use Rattle.std.specs.Prelude.{◌≡◌, ◌≤◌, ◌<◌, ◌&&◌, ℕ, Bool, false, List, map, length, All, slice_get, IsTrue}
use Rattle.flurry_base.specs.Occurrences.{occurrences}
use Rattle.std.specs.List.{flat_map}
use Rattle.std.specs.List.Sorted.{IsStrictlyIncreasing}
use Rattle.std.specs.Option.{option_map_or}
use Rattle.std.specs.declared.cmp.Ordering.{Ordering}
use Rattle.flurry_base.specs.declared.reply.KeptReply.{KeptReply}
use Rattle.flurry_seq_recorded.specs.Histories.{Replays}
use Rattle.flurry_seq_recorded.specs.Shares.{ShareContents}
use Rattle.flurry_seq_recorded.specs.declared.closed.CloseFault.{CloseFault}
use Rattle.flurry_seq_recorded.specs.declared.closed.CloseFault.TheVariants.{SharesDiffer, ReceiptsDiffer, PlacesDiffer, NoMemory}
use Rattle.flurry_seq_recorded.specs.declared.kept.KeptCall.{KeptCall}
use Rattle.flurry_seq_recorded.specs.declared.kept.KeptEntry.{KeptEntry}
use Rattle.flurry_seq_recorded.specs.declared.share.Receipt.{Receipt}

-- no number comes twice
abbrev pub AreDistinct : List ℕ → Type 0
AreDistinct xs = (x : ℕ) → occurrences x xs ≤ 1

module _ {K V : Type 0} where
  -- the receipts of all shares, one share after another
  abbrev pub all_receipts : List (ShareContents K V) → List (Receipt K V)
  all_receipts shares = flat_map (λ (s : ShareContents K V). s.receipts) shares

  abbrev pub places : List (Receipt K V) → List ℕ
  places rs = map (λ (r : Receipt K V). r.place) rs

  -- the shares' numbers are those below a number, each once
  abbrev pub AreNumbered : ℕ → List (ShareContents K V) → Type 0
  AreNumbered n shares = (length shares ≡ n) × All (λ s. s.number < n) shares × AreDistinct (map (λ (s : ShareContents K V). s.number) shares)

  -- so they are below the number of shares that were given, and the receipts are as many as the calls
  pub record SharesStand (given calls : ℕ) (shares : List (ShareContents K V)) : Type 0 where
    pub numbered : AreNumbered given shares
    pub as_many : length (all_receipts shares) ≡ calls

  -- the places of each share ascend in the order of its receipts, and no two receipts name one place
  pub record PlacesStand (shares : List (ShareContents K V)) : Type 0 where
    pub ascend : All (λ s. IsStrictlyIncreasing (places s.receipts)) shares
    pub once : AreDistinct (places (all_receipts shares))

  module _ (same_call : KeptCall K V → KeptCall K V → Bool) (same_reply : KeptReply K V → KeptReply K V → Bool) where
    -- the history has an equal call with an equal reply at the receipt's place
    abbrev pub is_kept : List (KeptEntry K V) → Receipt K V → Bool
    is_kept history r = option_map_or (λ (e : KeptEntry K V). same_call e.call r.call && same_reply e.reply r.reply) (slice_get history r.place) false

    -- so for each receipt
    abbrev pub ReceiptsStand : List (KeptEntry K V) → List (ShareContents K V) → Type 0
    ReceiptsStand history shares = All (λ r. IsTrue (is_kept history r)) (all_receipts shares)

    -- shares without a fault
    pub record AllStand (given : ℕ) (history : List (KeptEntry K V)) (shares : List (ShareContents K V)) : Type 0 where
      pub stand : SharesStand given (length history) shares
      pub kept : ReceiptsStand history shares
      pub placed : PlacesStand shares

    -- what shares and a history are that were closed
    pub record IsClosed (cmp : K → K → Ordering) (history : List (KeptEntry K V)) (pairs : List (K × V)) (shares : List (ShareContents K V)) : Type 0 where
      pub replays : Replays cmp history pairs
      pub stand : AllStand (length shares) history shares

    -- the fault is the first that the shares have; that memory is wanting says nothing of them
    abbrev pub HasFault : ℕ → List (KeptEntry K V) → List (ShareContents K V) → CloseFault → Type 0
    HasFault given history shares SharesDiffer = ¬ SharesStand given (length history) shares
    HasFault given history shares ReceiptsDiffer = SharesStand given (length history) shares × ¬ ReceiptsStand history shares
    HasFault given history shares PlacesDiffer = SharesStand given (length history) shares × ReceiptsStand history shares × ¬ PlacesStand shares
    HasFault given history shares NoMemory = Unit {0}
