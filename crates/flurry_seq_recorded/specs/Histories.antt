-- When a history of calls replays.
use Rattle.std.specs.Prelude.{List, [], map}
use Rattle.std.specs.declared.cmp.Ordering.{Ordering}
use Rattle.flurry_base.specs.OneKey.{Answers}
use Rattle.flurry_base.specs.declared.call.Call.{Call}
use Rattle.flurry_base.specs.declared.call.Call.TheVariants as call
use Rattle.flurry_base.specs.declared.reply.KeptReply.{KeptReply}
use Rattle.flurry_seq.specs.CallLists.{RunsTo}
use Rattle.flurry_seq_recorded.specs.declared.kept.KeptCall.{KeptCall}
use Rattle.flurry_seq_recorded.specs.declared.kept.KeptCall.TheVariants as kept
use Rattle.flurry_seq_recorded.specs.declared.kept.KeptEntry.{KeptEntry}

module _ {K V : Type 0} where
  -- a kept call as plain data; it calls no function
  abbrev pub plain_of_kept : KeptCall K V → Call K V ⊥
  plain_of_kept (kept.Get k) = call.Get k
  plain_of_kept (kept.GetKeyValue k) = call.GetKeyValue k
  plain_of_kept (kept.ContainsKey k) = call.ContainsKey k
  plain_of_kept (kept.Insert k v) = call.Insert k v
  plain_of_kept (kept.TryInsert k v) = call.TryInsert k v
  plain_of_kept (kept.Remove k) = call.Remove k
  plain_of_kept (kept.RemoveEntry k) = call.RemoveEntry k

  abbrev pub entry : KeptCall K V → KeptReply K V → KeptEntry K V
  entry c r = record { call = c; reply = r }

  module _ (cmp : K → K → Ordering) where
    -- on the map m the call may reply r and leave the map n
    abbrev pub KeptAnswers : KeptCall K V → List (K × V) → KeptReply K V → List (K × V) → Type 0
    KeptAnswers call m r n = Answers cmp (λ f k v o. ⊥) (plain_of_kept call) m r n

    -- the calls of the history, made one after another on the empty map, give its replies and leave this map
    abbrev pub Replays : List (KeptEntry K V) → List (K × V) → Type 0
    Replays history m = RunsTo KeptAnswers (map (λ e. e.call) history) [] (map (λ e. e.reply) history) m
