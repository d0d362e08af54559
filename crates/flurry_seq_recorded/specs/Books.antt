-- What the book of a recorded map is seen as.
use Rattle.std.specs.Prelude.{◌≡◌, ◌<◌, ◌++◌, ◌∷◌, ℕ, List, [], length, slice_index}
use Rattle.std.specs.declared.cmp.Ordering.{Ordering}
use Rattle.flurry_base.specs.declared.reply.KeptReply.{KeptReply}
use Rattle.flurry_seq.specs.Contents.{Contents}
use Rattle.flurry_seq_recorded.specs.Histories.{Replays, KeptAnswers, entry}
use Rattle.flurry_seq_recorded.specs.Shares.{ShareContents, with_receipts, receipt}
use Rattle.flurry_seq_recorded.specs.declared.kept.KeptCall.{KeptCall}
use Rattle.flurry_seq_recorded.specs.declared.kept.KeptEntry.{KeptEntry}

-- the map, the history, and the numbers of the shares
pub record BookContents (K V S : Type 0) : Type 0 where
  pub contents : Contents K V S
  pub history : List (KeptEntry K V)
  pub shares : List ℕ

-- the numbers from 0 on, in their order
abbrev pub AreFromZero : List ℕ → Type 0
AreFromZero numbers = (i : ℕ) → i < length numbers → slice_index numbers i ≡ i

module _ {K V S : Type 0} where
  abbrev pub book_contents : Contents K V S → List (KeptEntry K V) → List ℕ → BookContents K V S
  book_contents m h s = record { contents = m; history = h; shares = s }

  -- what a book keeps: its history replays to its map, and its shares' numbers are those from 0 on
  pub record IsBook (cmp : K → K → Ordering) (b : BookContents K V S) : Type 0 where
    pub replays : Replays cmp b.history b.contents.pairs
    pub numbers : AreFromZero b.shares

  -- the call and its reply are added at the end of the history, and the map is as the call leaves it
  pub record Appends (cmp : K → K → Ordering) (old : BookContents K V S) (call : KeptCall K V) (place : ℕ) (reply : KeptReply K V) (new : BookContents K V S) : Type 0 where
    pub answers : KeptAnswers cmp call old.contents.pairs reply new.contents.pairs
    pub hasher : new.contents.hasher ≡ old.contents.hasher
    pub at_end : place ≡ length old.history
    pub history : new.history ≡ old.history ++ entry call reply ∷ []
    pub shares : new.shares ≡ old.shares

  -- the call was recorded: it was added to the book, and the share has one receipt more, at the end, of that call and that reply
  pub record IsRecorded (cmp : K → K → Ordering) (b : BookContents K V S) (old : ShareContents K V) (call : KeptCall K V) (reply : KeptReply K V) (after : BookContents K V S) (new : ShareContents K V) : Type 0 where
    pub place : ℕ
    pub appended : Appends cmp b call place reply after
    pub kept : new ≡ with_receipts old (old.receipts ++ receipt place call reply ∷ [])

-- so it was, in some book
abbrev pub WasRecorded : {K V : Type 0} (S : Type 0) (cmp : K → K → Ordering) → ShareContents K V → KeptCall K V → KeptReply K V → ShareContents K V → Type 0
WasRecorded {K} {V} S cmp old call reply new = (b : BookContents K V S) × (after : BookContents K V S) × IsBook cmp b × IsRecorded cmp b old call reply after new
