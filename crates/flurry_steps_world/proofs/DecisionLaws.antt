-- A call's step at a live bin, or at one that has moved, is the machine's.
use Rattle.std.specs.Prelude.{◌≡◌, ℕ, suc, ◌+◌, ◌-◌, ◌^◌, ◌≤◌, ◌==◌, ◌&&◌, nat_lt, Bool, true, false, cond, List, length, Option, Some, None, option_map, is_some, is_none, IsSome, IsTrue, MatchOption, Ok, Err}
use Rattle.std.specs.declared.cmp.Ordering.{Ordering}
use Rattle.std.specs.Cmp.{IsTotalOrder}
use Rattle.std.specs.List.{AllByRecursion}
use Rattle.std.specs.Option.{option_map_or}
use Rattle.std.specs.Map.{keys_of}
use Rattle.std.proofs.Common.{arith, refl, sym, ◌∙◌, ap, subst, inl, inr, add-one}
use Rattle.flurry_base.specs.FiniteMap.{IsFiniteMap, with_pair, without}
use Rattle.flurry_base.specs.HashOrder.{hash_then_key}
use Rattle.flurry_base.specs.HashOrder as region
use Rattle.flurry_base.specs.declared.reply.KeptReply.{KeptReply}
use Rattle.flurry_base.specs.declared.reply.KeptReply.TheVariants.{Value, Pair, Contains, New, Changed, Exists}
use Rattle.flurry_base.proofs.FiniteMapLaws.{all_with_pair, all_without, length-with_pair, length-without, found_in}
use Rattle.flurry_base.proofs.HashOrderLaws.{hash_then_key_total}
use Rattle.flurry_bins_slots.specs.Slot as slot
use Rattle.flurry_bins_slots.specs.Slot.{PlainEntry, Live, ComputeOutcome, WasAbsent, WasRemoved, WasChanged, pair_of_entry, verdict_outcome, next_number, entry_of_live, after_write, after_take, after_verdict, asks, is_unwritten_since}
use Rattle.flurry_steps_sweep.specs.Outcome.{OutcomeReply}
use Rattle.flurry_steps_stages.specs.Stage.{AnswerForm, TheValue, ThePair, Presence, Task, Finds, Removes, RemovesSeen, Inserts, Adds, Computes, Alters, Stage, AtDone, reply_for, outcome_in, IsWriter, task_of_call}
use Rattle.flurry_steps.specs.PartySlots as party
use Rattle.flurry_steps.specs.PartySlots.{DecidesAt, GoesOnNew, GoesOnWritten, GoesOnAdded, GoesOnAltered, stage_taken, stage_computed, stage_moved}
use Rattle.flurry_base.specs.OneKey.{key_of}
use Rattle.flurry_steps_theory.specs.Map.{same, find, Allows, CanBeRefused}
use Rattle.flurry_steps_theory.specs.Trace.{is_lookup}
use Rattle.flurry_steps_theory.specs.Bin.{Entry, pairs_of, bump, number_of, has_number, InRegion, leave_out, bin_after}
use Rattle.flurry_steps_theory.specs.Machine.{BinDid, Looking, Done}
use Rattle.flurry_steps_theory.specs.Legal.{removes}
use Rattle.flurry_base.specs.declared.call.Seen.{Seen}
use Rattle.flurry_base.specs.declared.call.Call.{Call}
use Rattle.flurry_base.specs.declared.call.Call.TheVariants.{Get, GetKeyValue, ContainsKey, Insert, TryInsert, Compute, Alter, Remove, RemoveEntry, RemoveSeen, Clear}
use Rattle.flurry_base.specs.declared.verdict.Verdict.{Verdict}
use Rattle.flurry_base.specs.declared.verdict.Verdict.TheVariants.{Keep, Set, Remove as Removed}
use Rattle.flurry_base.specs.Verdicts.{Judges, verdict_reply}
use Rattle.flurry_steps_theory.proofs.BinSteps.{bin_did}
use Rattle.flurry_steps_world.specs.Entries.{machine_entries, IsHashed}
use Rattle.flurry_steps_world.specs.World.{mode_of_stage, HasDecided, FollowsStage}
use Rattle.flurry_steps_world.proofs.StateLaws.{held_of_stage}
use Rattle.flurry_steps_world.proofs.EntryLaws.{next_number-bump, length-machine_entries, InRegion-entries, IsAscending-entries, find-entries, number-entries, place-entries, rewrite-entries, write-entries, leave_out-none, leave_out-entries, IsHashed-with_pair, IsHashed-without}

-- ---- where a call stands that has decided

module _ {K V F : Type 0} (hash : K → ℕ) where
  -- the call has this reply, and has so many pairs yet to count as added and as removed
  record HasReply (c : Call K V F) (r : KeptReply K V) (s : Stage K V F) (gained lost : ℕ) : Type 0 where
    pub said : outcome_in s ≡ Some (OutcomeReply r)
    pub mode : mode_of_stage s ≡ Done (Some r) gained lost
    pub claim : held_of_stage s ≡ (None, None)
    pub follows : FollowsStage hash c s

  has_decided : (c : Call K V F) (r : KeptReply K V) → IsSome (key_of c) → is_lookup (Some c) ≡ false → HasDecided c (OutcomeReply r)
  has_decided c r one writes = record { one_key = one; writes = writes; reply = refl }

  -- it is done
  reply_done : (c : Call K V F) (r : KeptReply K V) → IsSome (key_of c) → HasReply c r (AtDone (OutcomeReply r)) 0 0
  reply_done c r one = record { said = refl; mode = refl; claim = refl; follows = one }

  -- it took an entry out, or found none
  reply_taken : (c : Call K V F) (w : AnswerForm) (x : Option (PlainEntry K V)) → IsSome (key_of c) → is_lookup (Some c) ≡ false → HasReply c (reply_for w x) (stage_taken w x) 0 (cond (is_some x) 1 0)
  reply_taken c w None one writes = reply_done c (reply_for w None) one
  reply_taken c w (Some x) one writes = record { said = refl; mode = refl; claim = refl; follows = has_decided c (reply_for w (Some x)) one writes }

  -- it put a new key
  reply_new : (c : Call K V F) (r : KeptReply K V) (e : ℕ) (asked : Bool) (s : Stage K V F) → IsSome (key_of c) → is_lookup (Some c) ≡ false → GoesOnNew e (OutcomeReply r) asked s → HasReply c r s 1 0
  reply_new c r e true s one writes g = rw (g.2) (record { said = refl; mode = refl; claim = refl; follows = has_decided c r one writes })
  reply_new c r e false s one writes g = rw g (record { said = refl; mode = refl; claim = refl; follows = has_decided c r one writes })

-- The call c decides at the live bin b, goes on at the stage s, and leaves the bin as d, in region (e, i): its reply is what s has to
-- say, the machine's call does the same at the bin's entries, and s is to count what became more or less.
pub record Decision {K V F : Type 0} (cmp : K → K → Ordering) (hash : K → ℕ) (gives : F → K → Option V → Verdict V → Type 0) (c : Call K V F) (b : Live K V) (s : Stage K V F) (d : Live K V) (e i : ℕ) : Type 0 where
  pub reply : KeptReply K V
  pub said : outcome_in s ≡ Some (OutcomeReply reply)
  pub did : BinDid cmp hash gives c reply (machine_entries b.plain_entries) b.writes (machine_entries d.plain_entries) d.writes
  pub in_region : InRegion hash e i (machine_entries d.plain_entries)
  pub hashed : IsHashed hash d.plain_entries
  pub mode : mode_of_stage s ≡ Done (Some reply) (length (machine_entries d.plain_entries) - length (machine_entries b.plain_entries)) (length (machine_entries b.plain_entries) - length (machine_entries d.plain_entries))
  pub claim : held_of_stage s ≡ (None, None)
  pub follows : FollowsStage hash c s

-- ---- what a bin has at a key

-- the call removes a pair only if it stands as it was read
abbrev is_conditional : {K V F : Type 0} → Call K V F → Bool
is_conditional (RemoveSeen z) = true
is_conditional _ = false

module _ {K V : Type 0} where
  value_found : (o : Option (PlainEntry K V)) → option_map (λ (x : PlainEntry K V). x.1.0) o ≡ option_map (λ (x : K × V). x.1) (option_map (λ (x : PlainEntry K V). (x.0.1, x.1.0)) o)
  value_found None = refl
  value_found (Some x) = refl

  presence_found : (o : Option (PlainEntry K V)) → is_some o ≡ is_some {T = K × V} (option_map (λ (x : PlainEntry K V). (x.0.1, x.1.0)) o)
  presence_found None = refl
  presence_found (Some x) = refl

module _ {K V F : Type 0} (cmp : K → K → Ordering) (total : IsTotalOrder cmp) (hash : K → ℕ) (lawful : (j k : K) → same cmp j k ≡ true → hash j ≡ hash k) (gives : F → K → Option V → Verdict V → Type 0) where
  -- a live bin whose entries ascend, each at the hash of its key, in region (e, i), and whose count of writes is at most the greatest
  module _ (b : Live K V) (e i : ℕ) (up : IsFiniteMap (hash_then_key cmp) b.plain_entries) (hd : IsHashed hash b.plain_entries) (room : b.writes ≤ 2 ^ 64 - 1) (lies : AllByRecursion (λ (k : ℕ × K). region.InRegion e i k.0) (keys_of b.plain_entries)) where
    -- a conditional removal removes exactly if the number is the one that was seen
    abbrev IsJudged : Call K V F → KeptReply K V → Type 0
    IsJudged c r = (z : Seen K V) → c ≡ RemoveSeen z → removes cmp hash gives r ≡ has_number (number_of cmp (machine_entries b.plain_entries) z.key) z.number

    -- no other call is asked
    unjudged : (c : Call K V F) (r : KeptReply K V) → is_conditional c ≡ false → IsJudged c r
    unjudged c r other z h = let no : true ≡ false = ap is_conditional (sym h) ∙ other in cc

    -- the machine's bin after the call is this one
    did_at : (c : Call K V F) (r : KeptReply K V) (d : Live K V) → IsJudged c r → Allows cmp gives c (pairs_of (machine_entries b.plain_entries)) r → bin_after cmp hash c r (machine_entries b.plain_entries) b.writes ≡ (machine_entries d.plain_entries, d.writes)
        → BinDid cmp hash gives c r (machine_entries b.plain_entries) b.writes (machine_entries d.plain_entries) d.writes
    did_at c r d judged allowed after =
        subst (λ (p : List (Entry K V) × ℕ). BinDid cmp hash gives c r (machine_entries b.plain_entries) b.writes p.0 p.1) after
        (bin_did cmp total hash lawful gives c r (machine_entries b.plain_entries) b.writes (IsAscending-entries cmp total hash lawful b.plain_entries up hd) allowed judged)

    -- ---- the bin stays

    decision_kept : (c : Call K V F) (r : KeptReply K V) (s : Stage K V F) → HasReply hash c r s 0 0 → IsJudged c r → Allows cmp gives c (pairs_of (machine_entries b.plain_entries)) r
        → bin_after cmp hash c r (machine_entries b.plain_entries) b.writes ≡ (machine_entries b.plain_entries, b.writes) → Decision cmp hash gives c b s b e i
    decision_kept c r s stands judged allowed after =
        let same_length : length (machine_entries b.plain_entries) - length (machine_entries b.plain_entries) ≡ 0 = omega arith in
        record {
          reply = r;
          said = stands.said;
          did = did_at c r b judged allowed after;
          in_region = InRegion-entries hash e i b.plain_entries hd lies;
          hashed = hd;
          mode = rw same_length (stands.mode);
          claim = stands.claim;
          follows = stands.follows;
        }

    -- ---- an entry is taken out, if it is there

    lost_by : (k : K) → length (machine_entries b.plain_entries) - length (machine_entries (after_take cmp b (hash k) k).plain_entries) ≡ cond (is_some (entry_of_live cmp b (hash k) k)) 1 0
    lost_by k = rw (length-machine_entries b.plain_entries, length-machine_entries (after_take cmp b (hash k) k).plain_entries) (by_found (entry_of_live cmp b (hash k) k) refl (length-without (hash_then_key_total total) b.plain_entries (hash k, k)))
      where
        by_found : (o : Option (PlainEntry K V)) → entry_of_live cmp b (hash k) k ≡ o → length (without (hash_then_key cmp) b.plain_entries (hash k, k)) ≡ cond (is_some (entry_of_live cmp b (hash k) k)) (length b.plain_entries - 1) (length b.plain_entries)
            → length b.plain_entries - length (without (hash_then_key cmp) b.plain_entries (hash k, k)) ≡ cond (is_some (entry_of_live cmp b (hash k) k)) 1 0
        by_found None p n = let m = rw p at n in rw p (omega arith)
        by_found (Some x) p n = let m = rw p at n in let some = found_in (hash_then_key_total total) b.plain_entries (hash k, k) x p in rw p (omega arith)

    none_gained : (k : K) → length (machine_entries (after_take cmp b (hash k) k).plain_entries) - length (machine_entries b.plain_entries) ≡ 0
    none_gained k = rw (length-machine_entries b.plain_entries, length-machine_entries (after_take cmp b (hash k) k).plain_entries) (by_found (is_some (entry_of_live cmp b (hash k) k)) (length-without (hash_then_key_total total) b.plain_entries (hash k, k)))
      where
        by_found : (t : Bool) → length (without (hash_then_key cmp) b.plain_entries (hash k, k)) ≡ cond t (length b.plain_entries - 1) (length b.plain_entries) → length (without (hash_then_key cmp) b.plain_entries (hash k, k)) - length b.plain_entries ≡ 0
        by_found true n = omega arith
        by_found false n = omega arith

    decision_taken : (c : Call K V F) (r : KeptReply K V) (s : Stage K V F) (k : K) → HasReply hash c r s 0 (cond (is_some (entry_of_live cmp b (hash k) k)) 1 0) → IsJudged c r → Allows cmp gives c (pairs_of (machine_entries b.plain_entries)) r
        → bin_after cmp hash c r (machine_entries b.plain_entries) b.writes ≡ (leave_out cmp hash k (machine_entries b.plain_entries), b.writes) → Decision cmp hash gives c b s (after_take cmp b (hash k) k) e i
    decision_taken c r s k stands judged allowed after =
        let hashed : IsHashed hash (after_take cmp b (hash k) k).plain_entries = IsHashed-without cmp total hash lawful b.plain_entries k hd in
        record {
          reply = r;
          said = stands.said;
          did = did_at c r (after_take cmp b (hash k) k) judged allowed (after ∙ ap (λ (es : List (Entry K V)). (es, b.writes)) (sym (leave_out-entries cmp total hash lawful b.plain_entries k up hd)));
          in_region = InRegion-entries hash e i (after_take cmp b (hash k) k).plain_entries hashed (all_without (hash_then_key_total total) (λ (q : ℕ × K). region.InRegion e i q.0) b.plain_entries (hash k, k) lies);
          hashed = hashed;
          mode = rw (none_gained k, lost_by k) (stands.mode);
          claim = stands.claim;
          follows = stands.follows;
        }

    -- ---- a value is written

    lengths_written : (k : K) (u : V × ℕ) → length (with_pair (hash_then_key cmp) b.plain_entries (hash k, k) u) ≡ cond (is_some (entry_of_live cmp b (hash k) k)) (length b.plain_entries) (length b.plain_entries + 1)
    lengths_written k u = length-with_pair (hash_then_key_total total) b.plain_entries (hash k, k) u up

    gained_by : (bins : ℕ) (k : K) (v : V) → length (machine_entries (after_write cmp bins b (hash k) k v).plain_entries) - length (machine_entries b.plain_entries) ≡ cond (is_some (entry_of_live cmp b (hash k) k)) 0 1
    gained_by bins k v = rw (length-machine_entries b.plain_entries, length-machine_entries (after_write cmp bins b (hash k) k v).plain_entries) (by_found (is_some (entry_of_live cmp b (hash k) k)) (lengths_written k (v, next_number b.writes)))
      where
        by_found : (t : Bool) → length (with_pair (hash_then_key cmp) b.plain_entries (hash k, k) (v, next_number b.writes)) ≡ cond t (length b.plain_entries) (length b.plain_entries + 1)
            → length (with_pair (hash_then_key cmp) b.plain_entries (hash k, k) (v, next_number b.writes)) - length b.plain_entries ≡ cond t 0 1
        by_found true n = omega arith
        by_found false n = omega arith

    none_lost : (bins : ℕ) (k : K) (v : V) → length (machine_entries b.plain_entries) - length (machine_entries (after_write cmp bins b (hash k) k v).plain_entries) ≡ 0
    none_lost bins k v = rw (length-machine_entries b.plain_entries, length-machine_entries (after_write cmp bins b (hash k) k v).plain_entries) (by_found (is_some (entry_of_live cmp b (hash k) k)) (lengths_written k (v, next_number b.writes)))
      where
        by_found : (t : Bool) → length (with_pair (hash_then_key cmp) b.plain_entries (hash k, k) (v, next_number b.writes)) ≡ cond t (length b.plain_entries) (length b.plain_entries + 1)
            → length b.plain_entries - length (with_pair (hash_then_key cmp) b.plain_entries (hash k, k) (v, next_number b.writes)) ≡ 0
        by_found true n = omega arith
        by_found false n = omega arith

    decision_written : (c : Call K V F) (r : KeptReply K V) (s : Stage K V F) (bins : ℕ) (k : K) (v : V) → HasReply hash c r s (cond (is_some (entry_of_live cmp b (hash k) k)) 0 1) 0 → IsJudged c r
        → Allows cmp gives c (pairs_of (machine_entries b.plain_entries)) r → region.InRegion e i (hash k)
        → bin_after cmp hash c r (machine_entries b.plain_entries) b.writes ≡ (machine_entries (with_pair (hash_then_key cmp) b.plain_entries (hash k, k) (v, bump b.writes)), bump b.writes)
        → Decision cmp hash gives c b s (after_write cmp bins b (hash k) k v) e i
    decision_written c r s bins k v stands judged allowed here after =
        let hashed : IsHashed hash (after_write cmp bins b (hash k) k v).plain_entries = IsHashed-with_pair cmp total hash lawful b.plain_entries k v (next_number b.writes) hd in
        record {
          reply = r;
          said = stands.said;
          did = did_at c r (after_write cmp bins b (hash k) k v) judged allowed (after ∙ ap (λ (n : ℕ). (machine_entries (with_pair (hash_then_key cmp) b.plain_entries (hash k, k) (v, n)), n)) (sym (next_number-bump b.writes room)));
          in_region = InRegion-entries hash e i (after_write cmp bins b (hash k) k v).plain_entries hashed (all_with_pair (hash_then_key_total total) (λ (q : ℕ × K). region.InRegion e i q.0) b.plain_entries (hash k, k) (v, next_number b.writes) here lies);
          hashed = hashed;
          mode = rw (gained_by bins k v, none_lost bins k v) (stands.mode);
          claim = stands.claim;
          follows = stands.follows;
        }

    -- ---- each call

    -- the machine finds what the bin has
    found_at : (k : K) (o : Option (PlainEntry K V)) → entry_of_live cmp b (hash k) k ≡ o → find cmp (pairs_of (machine_entries b.plain_entries)) k ≡ option_map (λ (x : PlainEntry K V). (x.0.1, x.1.0)) o
    found_at k o q = find-entries cmp total hash lawful b.plain_entries k hd ∙ ap (option_map (λ (x : PlainEntry K V). (x.0.1, x.1.0))) q

    value_allowed : (k : K) → option_map (λ (x : PlainEntry K V). x.1.0) (entry_of_live cmp b (hash k) k) ≡ option_map (λ (x : K × V). x.1) (find cmp (pairs_of (machine_entries b.plain_entries)) k)
    value_allowed k = value_found (entry_of_live cmp b (hash k) k) ∙ ap (option_map (λ (x : K × V). x.1)) (sym (find-entries cmp total hash lawful b.plain_entries k hd))

    finds_value : (k : K) (s : Stage K V F) (d : Live K V) → DecidesAt cmp gives (hash k) (Finds TheValue k) e b s d → Decision cmp hash gives (Get k) b s d e i
    finds_value k s d p = rw (p.0, p.1) (decision_kept (Get k) _ _ (reply_done hash (Get k) (reply_for TheValue (entry_of_live cmp b (hash k) k)) refl) (unjudged (Get k) (reply_for TheValue (entry_of_live cmp b (hash k) k)) refl) (ap Value (value_allowed k)) refl)

    finds_pair : (k : K) (s : Stage K V F) (d : Live K V) → DecidesAt cmp gives (hash k) (Finds ThePair k) e b s d → Decision cmp hash gives (GetKeyValue k) b s d e i
    finds_pair k s d p = rw (p.0, p.1) (decision_kept (GetKeyValue k) _ _ (reply_done hash (GetKeyValue k) (reply_for ThePair (entry_of_live cmp b (hash k) k)) refl) (unjudged (GetKeyValue k) (reply_for ThePair (entry_of_live cmp b (hash k) k)) refl) (ap Pair (sym (find-entries cmp total hash lawful b.plain_entries k hd))) refl)

    finds_presence : (k : K) (s : Stage K V F) (d : Live K V) → DecidesAt cmp gives (hash k) (Finds Presence k) e b s d → Decision cmp hash gives (ContainsKey k) b s d e i
    finds_presence k s d p =
        rw (p.0, p.1)
        (decision_kept (ContainsKey k) _ _ (reply_done hash (ContainsKey k) (reply_for Presence (entry_of_live cmp b (hash k) k)) refl) (unjudged (ContainsKey k) (reply_for Presence (entry_of_live cmp b (hash k) k)) refl)
        (ap Contains (presence_found (entry_of_live cmp b (hash k) k) ∙ ap is_some (sym (find-entries cmp total hash lawful b.plain_entries k hd)))) refl)

    removes_value : (k : K) (s : Stage K V F) (d : Live K V) → DecidesAt cmp gives (hash k) (Removes TheValue k) e b s d → Decision cmp hash gives (Remove k) b s d e i
    removes_value k s d p = rw (p.0, p.1) (decision_taken (Remove k) _ _ k (reply_taken hash (Remove k) TheValue (entry_of_live cmp b (hash k) k) refl refl) (unjudged (Remove k) (reply_for TheValue (entry_of_live cmp b (hash k) k)) refl) (ap Value (value_allowed k)) refl)

    removes_pair : (k : K) (s : Stage K V F) (d : Live K V) → DecidesAt cmp gives (hash k) (Removes ThePair k) e b s d → Decision cmp hash gives (RemoveEntry k) b s d e i
    removes_pair k s d p = rw (p.0, p.1) (decision_taken (RemoveEntry k) _ _ k (reply_taken hash (RemoveEntry k) ThePair (entry_of_live cmp b (hash k) k) refl refl) (unjudged (RemoveEntry k) (reply_for ThePair (entry_of_live cmp b (hash k) k)) refl) (ap Pair (sym (find-entries cmp total hash lawful b.plain_entries k hd))) refl)

    -- the pair is still as it was read, so it is taken out; or it is not, and stays
    removes_seen : (z : Seen K V) (s : Stage K V F) (d : Live K V) → DecidesAt cmp gives (hash z.key) (RemovesSeen z) e b s d → Decision cmp hash gives (RemoveSeen z) b s d e i
    removes_seen z s d p = rw (p.0, p.1) (by_test (entry_of_live cmp b (hash z.key) z.key) refl (is_unwritten_since cmp z.number b (hash z.key) z.key) refl)
      where
        judged_at : (o : Option (PlainEntry K V)) → entry_of_live cmp b (hash z.key) z.key ≡ o → has_number (number_of cmp (machine_entries b.plain_entries) z.key) z.number ≡ has_number (option_map (λ (x : PlainEntry K V). x.1.1) o) z.number
        judged_at o q = ap (λ m. has_number m z.number) (number-entries cmp total hash lawful b.plain_entries z.key hd ∙ ap (option_map (λ (x : PlainEntry K V). x.1.1)) q)

        judged : (r : KeptReply K V) (t : Bool) → removes cmp hash gives r ≡ t → has_number (number_of cmp (machine_entries b.plain_entries) z.key) z.number ≡ t → IsJudged (RemoveSeen z) r
        judged r t says has y h = let same_seen : z ≡ y = cc in subst (λ (u : Seen K V). removes cmp hash gives r ≡ has_number (number_of cmp (machine_entries b.plain_entries) u.key) u.number) same_seen (says ∙ sym has)

        by_test : (o : Option (PlainEntry K V)) → entry_of_live cmp b (hash z.key) z.key ≡ o → (t : Bool) → option_map_or (λ (x : PlainEntry K V). x.1.1 == z.number && nat_lt z.number (2 ^ 64 - 1)) o false ≡ t
            → Decision cmp hash gives (RemoveSeen z) b (stage_taken TheValue (cond t o None)) (cond t (after_take cmp b (hash z.key) z.key) b) e i
        by_test None q true h = let no : false ≡ true = h in cc
        by_test None q false h = decision_kept (RemoveSeen z) (Value None) _ (reply_done hash (RemoveSeen z) (Value None) refl) (judged (Value None) false refl (judged_at None q)) (inl refl) refl
        by_test (Some x) q false h = decision_kept (RemoveSeen z) (Value None) _ (reply_done hash (RemoveSeen z) (Value None) refl) (judged (Value None) false refl (judged_at (Some x) q ∙ h)) (inl refl) refl
        by_test (Some x) q true h =
            decision_taken (RemoveSeen z) (Value (Some x.1.0)) _ z.key (rw q (record { said = refl; mode = refl; claim = refl; follows = has_decided hash (RemoveSeen z) (Value (Some x.1.0)) refl refl }))
            (judged (Value (Some x.1.0)) true refl (judged_at (Some x) q ∙ h)) (inr (rw (found_at z.key (Some x) q) refl)) refl

    inserts : (k : K) (v : V) (s : Stage K V F) (d : Live K V) → region.InRegion e i (hash k) → DecidesAt cmp gives (hash k) (Inserts k v) e b s d → Decision cmp hash gives (Insert k v) b s d e i
    inserts k v s d here p =
        rw (p.1)
        (decision_written (Insert k v) _ s (2 ^ e) k v (by_found (entry_of_live cmp b (hash k) k) (asks cmp (2 ^ e) b (hash k) k) (p.0)) (unjudged (Insert k v) (Value (option_map (λ (x : PlainEntry K V). x.1.0) (entry_of_live cmp b (hash k) k))) refl) (ap Value (value_allowed k)) here
        (ap (λ (es : List (Entry K V)). (es, bump b.writes)) (sym (write-entries cmp total hash lawful b.plain_entries k v (bump b.writes) up hd))))
      where
        by_found : (o : Option (PlainEntry K V)) (asked : Bool) → GoesOnWritten e (option_map (λ (x : PlainEntry K V). x.1.0) o, asked) s → HasReply hash (Insert k v) (Value (option_map (λ (x : PlainEntry K V). x.1.0) o)) s (cond (is_some o) 0 1) 0
        by_found None asked g = reply_new hash (Insert k v) (Value None) e asked s refl refl g
        by_found (Some x) asked g = rw g (reply_done hash (Insert k v) (Value (Some x.1.0)) refl)

    adds : (k : K) (v : V) (s : Stage K V F) (d : Live K V) → region.InRegion e i (hash k) → DecidesAt cmp gives (hash k) (Adds k v) e b s d → Decision cmp hash gives (TryInsert k v) b s d e i
    adds k v s d here p = rw (p.1) (by_found (entry_of_live cmp b (hash k) k) refl (asks cmp (2 ^ e) b (hash k) k) (p.0))
      where
        by_found : (o : Option (PlainEntry K V)) → entry_of_live cmp b (hash k) k ≡ o → (asked : Bool)
            → GoesOnAdded e (option_map_or (λ current. Err (current, v)) (option_map (λ (x : PlainEntry K V). x.1.0) o) (Ok (v, asked))) s
            → Decision cmp hash gives (TryInsert k v) b s (cond (is_none o) (after_write cmp (2 ^ e) b (hash k) k v) b) e i
        by_found None q asked g =
            decision_written (TryInsert k v) (New v) s (2 ^ e) k v (rw q (reply_new hash (TryInsert k v) (New v) e asked s refl refl g)) (unjudged (TryInsert k v) (New v) refl) (rw (found_at k None q) refl) here
            (ap (λ (es : List (Entry K V)). (es, bump b.writes)) (sym (place-entries cmp total hash lawful b.plain_entries k v (bump b.writes) hd q)))
        by_found (Some x) q asked g = rw g (decision_kept (TryInsert k v) (Exists x.1.0 v) _ (reply_done hash (TryInsert k v) (Exists x.1.0 v) refl) (unjudged (TryInsert k v) (Exists x.1.0 v) refl) (rw (found_at k (Some x) q) refl) refl)

    computes : (k : K) (f : F) (s : Stage K V F) (d : Live K V) → region.InRegion e i (hash k) → DecidesAt cmp gives (hash k) (Computes k f) e b s d → Decision cmp hash gives (Compute k f) b s d e i
    computes k f s d here p = by_outcome (p.0) (p.1) (p.2)
      where
        by_outcome : (o : ComputeOutcome V) → slot.Computes cmp (gives f) (2 ^ e) b (hash k) k o d → s ≡ stage_computed o → Decision cmp hash gives (Compute k f) b s d e i
        by_outcome WasAbsent q g =
            rw (q.1, g)
            (decision_kept (Compute k f) (Value None) _ (reply_done hash (Compute k f) (Value None) refl) (unjudged (Compute k f) (Value None) refl) (rw (found_at k None (q.0)) refl)
            (ap (λ (es : List (Entry K V)). (es, b.writes)) (leave_out-none cmp total hash lawful b.plain_entries k hd (q.0))))
        by_outcome WasRemoved q g =
            rw (q.3, g)
            (decision_taken (Compute k f) (Value None) _ k (rw (q.1) (record { said = refl; mode = refl; claim = refl; follows = has_decided hash (Compute k f) (Value None) refl refl })) (unjudged (Compute k f) (Value None) refl)
            (rw (found_at k (Some q.0) (q.1)) (None, q.2, refl)) refl)
        by_outcome (WasChanged w) q g =
            rw (q.3, g)
            (decision_written (Compute k f) (Value (Some w)) _ (2 ^ e) k w (rw (q.1) (reply_done hash (Compute k f) (Value (Some w)) refl)) (unjudged (Compute k f) (Value (Some w)) refl) (rw (found_at k (Some q.0) (q.1)) (Some w, q.2, refl)) here
            (ap (λ (es : List (Entry K V)). (es, bump b.writes)) (sym (rewrite-entries cmp total hash lawful b.plain_entries k w (bump b.writes) (q.0) up hd (q.1)))))

    -- what a verdict says is done: an absent pair stays absent or is added, and a present one stays, has another value or is taken out
    alters : (k : K) (may_add : Bool) (f : F) (s : Stage K V F) (d : Live K V) → region.InRegion e i (hash k) → DecidesAt cmp gives (hash k) (Alters k may_add f) e b s d → Decision cmp hash gives (Alter k may_add f) b s d e i
    alters k may_add f s d here p = rw (p.1.3) (by_verdict (entry_of_live cmp b (hash k) k) refl (asks cmp (2 ^ e) b (hash k) k) (p.1.0) (p.1.1) (subst (λ o. GoesOnAltered e o s) (p.1.2) (p.2)))
      where
        call : Call K V F
        call = Alter k may_add f

        allowed : (x : Option (PlainEntry K V)) (v : Verdict V) → entry_of_live cmp b (hash k) k ≡ x → Judges gives f k may_add (option_map pair_of_entry x) v → Allows cmp gives call (pairs_of (machine_entries b.plain_entries)) (verdict_reply (option_map pair_of_entry x) v)
        allowed x v q j = rw (found_at k x q) (v, j, refl)

        by_verdict : (x : Option (PlainEntry K V)) → entry_of_live cmp b (hash k) k ≡ x → (asked : Bool) (v : Verdict V) → Judges gives f k may_add (option_map pair_of_entry x) v → GoesOnAltered e (verdict_outcome asked x v) s
            → Decision cmp hash gives call b s (after_verdict cmp (2 ^ e) b (hash k) k x v) e i
        by_verdict None q asked Keep j g = rw g (decision_kept call (Contains false) _ (reply_done hash call (Contains false) refl) (unjudged call (Contains false) refl) (allowed None Keep q j) refl)
        by_verdict None q asked (Set w) j g =
            decision_written call (New w) s (2 ^ e) k w (rw q (reply_new hash call (New w) e asked s refl refl g)) (unjudged call (New w) refl) (allowed None (Set w) q j) here
            (ap (λ (es : List (Entry K V)). (es, bump b.writes)) (sym (place-entries cmp total hash lawful b.plain_entries k w (bump b.writes) hd q)))
        by_verdict None q asked Removed j g = rw g (decision_kept call (Contains false) _ (reply_done hash call (Contains false) refl) (unjudged call (Contains false) refl) (allowed None Removed q j) refl)
        by_verdict (Some x) q asked Keep j g = rw g (decision_kept call (Contains true) _ (reply_done hash call (Contains true) refl) (unjudged call (Contains true) refl) (allowed (Some x) Keep q j) refl)
        by_verdict (Some x) q asked (Set w) j g =
            rw g
            (decision_written call (Changed w x.1.0) _ (2 ^ e) k w (rw q (reply_done hash call (Changed w x.1.0) refl)) (unjudged call (Changed w x.1.0) refl) (allowed (Some x) (Set w) q j) here
            (ap (λ (es : List (Entry K V)). (es, bump b.writes)) (sym (rewrite-entries cmp total hash lawful b.plain_entries k w (bump b.writes) x up hd q))))
        by_verdict (Some x) q asked Removed j g =
            rw g
            (decision_taken call (Pair (Some (pair_of_entry x))) _ k (rw q (record { said = refl; mode = refl; claim = refl; follows = has_decided hash call (Pair (Some (pair_of_entry x))) refl refl })) (unjudged call (Pair (Some (pair_of_entry x))) refl)
            (allowed (Some x) Removed q j) refl)

    -- each call that decides there does what the machine's does
    pub decides : (c : Call K V F) (t : Task K V F) (k : K) (s : Stage K V F) (d : Live K V) → task_of_call c ≡ Some t → key_of c ≡ Some k → region.InRegion e i (hash k) → DecidesAt cmp gives (hash k) t e b s d → Decision cmp hash gives c b s d e i
    decides (Get j) t k s d task key here p = let same_task : t ≡ Finds TheValue j = cc in let same_key : k ≡ j = cc in finds_value j s d (rw (same_task, same_key) at p)
    decides (GetKeyValue j) t k s d task key here p = let same_task : t ≡ Finds ThePair j = cc in let same_key : k ≡ j = cc in finds_pair j s d (rw (same_task, same_key) at p)
    decides (ContainsKey j) t k s d task key here p = let same_task : t ≡ Finds Presence j = cc in let same_key : k ≡ j = cc in finds_presence j s d (rw (same_task, same_key) at p)
    decides (Insert j v) t k s d task key here p = let same_task : t ≡ Inserts j v = cc in let same_key : k ≡ j = cc in inserts j v s d (rw same_key at here) (rw (same_task, same_key) at p)
    decides (TryInsert j v) t k s d task key here p = let same_task : t ≡ Adds j v = cc in let same_key : k ≡ j = cc in adds j v s d (rw same_key at here) (rw (same_task, same_key) at p)
    decides (Compute j f) t k s d task key here p = let same_task : t ≡ Computes j f = cc in let same_key : k ≡ j = cc in computes j f s d (rw same_key at here) (rw (same_task, same_key) at p)
    decides (Alter j may_add f) t k s d task key here p = let same_task : t ≡ Alters j may_add f = cc in let same_key : k ≡ j = cc in alters j may_add f s d (rw same_key at here) (rw (same_task, same_key) at p)
    decides (Remove j) t k s d task key here p = let same_task : t ≡ Removes TheValue j = cc in let same_key : k ≡ j = cc in removes_value j s d (rw (same_task, same_key) at p)
    decides (RemoveEntry j) t k s d task key here p = let same_task : t ≡ Removes ThePair j = cc in let same_key : k ≡ j = cc in removes_pair j s d (rw (same_task, same_key) at p)
    decides (RemoveSeen z) t k s d task key here p = let same_task : t ≡ RemovesSeen z = cc in let same_key : k ≡ z.key = cc in removes_seen z s d (rw (same_task, same_key) at p)
    decides c t k s d task key here p = cc

  -- ---- memory that is wanting at a live bin

  module _ (b : Live K V) (hd : IsHashed hash b.plain_entries) where
    present : (k : K) → IsSome (entry_of_live cmp b (hash k) k) → IsSome (find cmp (pairs_of (machine_entries b.plain_entries)) k)
    present k there = ap is_some (find-entries cmp total hash lawful b.plain_entries k hd) ∙ sym (presence_found (entry_of_live cmp b (hash k) k)) ∙ there

    compute_refused : (k : K) (f : F) → (w : V) × slot.ComputesInVain cmp (gives f) b (hash k) k w → CanBeRefused cmp gives (Compute k f) (pairs_of (machine_entries b.plain_entries))
    compute_refused k f p =
        let found : find cmp (pairs_of (machine_entries b.plain_entries)) k ≡ Some (p.1.0.0.1, p.1.0.1.0) = find-entries cmp total hash lawful b.plain_entries k hd ∙ ap (option_map (λ (x : PlainEntry K V). (x.0.1, x.1.0))) (p.1.1) in
        rw found (p.0, p.1.2)

    alter_refused : (k : K) (may_add : Bool) (f : F) → (w : V) × slot.JudgesAt cmp gives f may_add b (hash k) k (Set w) → CanBeRefused cmp gives (Alter k may_add f) (pairs_of (machine_entries b.plain_entries))
    alter_refused k may_add f p = rw (find-entries cmp total hash lawful b.plain_entries k hd) (by_found (entry_of_live cmp b (hash k) k) may_add (p.0) (p.1))
      where
        by_found : (x : Option (PlainEntry K V)) (add : Bool) (w : V) → Judges gives f k add (option_map pair_of_entry x) (Set w) → MatchOption (option_map pair_of_entry x) (IsTrue add) (λ y. (u : V) × gives f y.0 (Some y.1) (Set u))
        by_found None true w j = refl
        by_found None false w j = cc
        by_found (Some x) add w j = (w, j)

    -- the machine's call can be refused there too
    pub refused : (c : Call K V F) (t : Task K V F) (k : K) → task_of_call c ≡ Some t → key_of c ≡ Some k → party.CanBeRefused cmp gives (hash k) t b → CanBeRefused cmp gives c (pairs_of (machine_entries b.plain_entries))
    refused (Get j) t k task key p = let same_task : t ≡ Finds TheValue j = cc in let same_key : k ≡ j = cc in present j (rw (same_task, same_key) at p)
    refused (GetKeyValue j) t k task key p = let same_task : t ≡ Finds ThePair j = cc in let same_key : k ≡ j = cc in present j (rw (same_task, same_key) at p)
    refused (ContainsKey j) t k task key p = let same_task : t ≡ Finds Presence j = cc in rw same_task at p
    refused (Compute j f) t k task key p = let same_task : t ≡ Computes j f = cc in let same_key : k ≡ j = cc in compute_refused j f (rw (same_task, same_key) at p)
    refused (Alter j may_add f) t k task key p = let same_task : t ≡ Alters j may_add f = cc in let same_key : k ≡ j = cc in alter_refused j may_add f (rw (same_task, same_key) at p)
    refused (Remove j) t k task key p = let same_task : t ≡ Removes TheValue j = cc in rw same_task at p
    refused (RemoveEntry j) t k task key p = let same_task : t ≡ Removes ThePair j = cc in rw same_task at p
    refused (RemoveSeen z) t k task key p = let same_task : t ≡ RemovesSeen z = cc in rw same_task at p
    refused Clear t k task key p = cc
    refused c t k task key p = tt

-- ---- a bin that has moved

module _ {K V F : Type 0} where
  -- a call that may change its bin is no look-up
  pub writer_is : (c : Call K V F) (t : Task K V F) → task_of_call c ≡ Some t → IsWriter t → is_lookup (Some c) ≡ false
  writer_is (Get j) t task w = let same_task : t ≡ Finds TheValue j = cc in absurd (rw same_task at w)
  writer_is (GetKeyValue j) t task w = let same_task : t ≡ Finds ThePair j = cc in absurd (rw same_task at w)
  writer_is (ContainsKey j) t task w = let same_task : t ≡ Finds Presence j = cc in absurd (rw same_task at w)
  writer_is c t task w = refl

  -- the call goes on at the next table, with no claim
  pub moved_mode : (t : Task K V F) (e : ℕ) → mode_of_stage (stage_moved t e) ≡ Looking (suc e)
  moved_mode (Finds w k) e = ap Looking (add-one e)
  moved_mode t e = ap Looking (add-one e)

  pub moved_claim : (t : Task K V F) (e : ℕ) → held_of_stage (stage_moved t e) ≡ (None, None)
  moved_claim (Finds w k) e = refl
  moved_claim t e = refl

  pub moved_follows : (hash : K → ℕ) (c : Call K V F) (t : Task K V F) (e : ℕ) → task_of_call c ≡ Some t → FollowsStage hash c (stage_moved t e)
  moved_follows hash c (Finds w k) e task = task
  moved_follows hash c t e task = (task, writer_is c t task tt)
