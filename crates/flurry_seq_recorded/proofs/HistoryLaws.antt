-- A history grows by one entry at a time.
use Rattle.std.proofs.Common.{◌≡◌, ℕ, List, [], ◌∷◌, ◌++◌, map, length, refl, Result, Ok, Err, IfOk, OnOk, arith}
use Rattle.std.proofs.lemmas.List.{map-append}
use Rattle.std.specs.declared.cmp.Ordering.{Ordering}
use Rattle.flurry_base.specs.declared.reply.KeptReply.{KeptReply}
use Rattle.flurry_seq.specs.CallLists.{RunsTo}
use Rattle.flurry_seq.proofs.RunLaws.{HasRun, run_goes_on, run_ends}
use Rattle.std.proofs.lemmas.Grind.{common_steps}
use Rattle.flurry_seq_recorded.specs.Books.{AreFromZero, BookContents, IsBook, IsRecorded, WasRecorded}
use Rattle.flurry_seq_recorded.specs.Histories.{KeptAnswers, Replays, entry}
use Rattle.flurry_seq_recorded.specs.Shares.{ShareContents}
use Rattle.flurry_seq_recorded.specs.declared.kept.KeptCall.{KeptCall}
use Rattle.flurry_seq_recorded.specs.declared.kept.KeptEntry.{KeptEntry}

module _ {K V : Type 0} (cmp : K → K → Ordering) where
  runs_more : (calls : List (KeptCall K V)) (replies : List (KeptReply K V)) (m : List (K × V)) (call : KeptCall K V) (reply : KeptReply K V) (n : List (K × V))
      → RunsTo (KeptAnswers cmp) calls [] replies m → KeptAnswers cmp call m reply n
      → RunsTo (KeptAnswers cmp) (calls ++ call ∷ []) [] (replies ++ reply ∷ []) n
  runs_more calls replies m call reply n ran answered =
      let before : HasRun (KeptAnswers cmp) (calls ++ call ∷ []) (call ∷ []) [] replies m = record { done = calls; is = refl; ran = ran } in
      run_ends (KeptAnswers cmp) (run_goes_on (KeptAnswers cmp) call [] reply n before refl answered) refl

  -- a call more, on the map that the history left
  pub replays_more : (history : List (KeptEntry K V)) (m : List (K × V)) (call : KeptCall K V) (reply : KeptReply K V) (n : List (K × V))
      → Replays cmp history m → KeptAnswers cmp call m reply n → Replays cmp (history ++ entry call reply ∷ []) n
  replays_more history m call reply n before answered =
      rw (map-append (λ (e : KeptEntry K V). e.call) history (entry call reply ∷ []), map-append (λ (e : KeptEntry K V). e.reply) history (entry call reply ∷ []))
      (runs_more (map (λ e. e.call) history) (map (λ e. e.reply) history) m call reply n before answered)

-- the next number after those from 0 on
pub from_zero_more : (xs : List ℕ) (n : ℕ) → n ≡ length xs → AreFromZero xs → AreFromZero (xs ++ n ∷ [])
from_zero_more xs n is before i below = grind (arith, common_steps, before i)

module _ {K V S E : Type 0} (cmp : K → K → Ordering) where
  -- what was recorded in a book was recorded in some book
  pub was_recorded : (b after : BookContents K V S) (old new : ShareContents K V) (call : KeptCall K V) (r : Result (KeptReply K V) E)
      → IfOk r (λ reply. IsRecorded cmp b old call reply after new) → OnOk r (IsBook cmp b) → IfOk r (λ reply. WasRecorded S cmp old call reply new)
  was_recorded b after old new call (Ok reply) recorded is = (b, after, is, recorded)
  was_recorded b after old new call (Err e) recorded is = tt
