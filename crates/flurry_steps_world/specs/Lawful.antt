-- What a caller may rely on of any world, whatever steps it ran.
use Rattle.std.specs.Prelude.{◌≡◌, ℕ, ◌+◌, pos, ◌+ℤ◌, ◌-ℤ◌, ◌%◌, ◌^◌, ◌<◌, true, false, length, slice_get, Option, Some, None}
use Rattle.std.specs.declared.cmp.Ordering.{Ordering}
use Rattle.flurry_base.specs.declared.reply.KeptReply.{KeptReply}
use Rattle.flurry_base.specs.declared.sizes.TheConstants.{TABLES}
use Rattle.flurry_base.specs.declared.verdict.Verdict.{Verdict}
use Rattle.flurry_bins_slots.specs.Slot.{IsUnborn}
use Rattle.flurry_steps_sweep.specs.Cursor.{CursorState}
use Rattle.flurry_steps_sweep.specs.Outcome.{OutcomeReply}
use Rattle.flurry_steps_sweep.specs.Sweep.{OverBins, SweepState}
use Rattle.flurry_steps_stages.specs.Stage.{Task, AtBin, AtSweep, AtDone}
use Rattle.flurry_steps_theory.specs.Machine.{owes_added, owes_removed, total}
use Rattle.flurry_steps_theory.specs.Trace.{is_lookup, decision, has_replied, has_closed, pairs}
use Rattle.flurry_steps_theory.specs.Legal.{EachMay, RemovalMay, Legal}
use Rattle.flurry_steps_world.specs.Tables.{content_at}
use Rattle.flurry_steps_world.specs.World.{PartyRecord, WorldState, mode_in, began_from_in, history}

module _ {K V F S : Type 0} (cmp : K → K → Ordering) (hash : K → ℕ) (changes : F → K → Option V → Verdict V → Type 0) (w : WorldState K V F S) where
  -- the pairs that the calls in progress have added, or removed, and not counted yet
  abbrev pub owed_added : ℕ
  owed_added = total (λ p. owes_added (mode_in (slice_get w.party_records p))) (length w.party_records)

  abbrev pub owed_removed : ℕ
  owed_removed = total (λ p. owes_removed (mode_in (slice_get w.party_records p))) (length w.party_records)

  pub record IsLawful : Type 0 where
    -- the calls, walks, clears and growths of the labels are lawful
    pub legal : Legal cmp hash changes w.first (history w)
    -- and the conditional removals, each by the walk with whose last read it began
    pub removals : EachMay (RemovalMay cmp hash changes (λ p. began_from_in (slice_get w.party_records p))) (history w)
    -- the pairs of the map are those that are counted and those that calls owe
    pub count : pos (length (pairs cmp hash (history w))) ≡ w.control_state.count +ℤ pos owed_added -ℤ pos owed_removed
    -- no call goes to a bin that is not born yet
    pub there : (p : ℕ) (x : PartyRecord K V F) (t : Task K V F) (e : ℕ) → slice_get w.party_records p ≡ Some x → x.party_state.stage ≡ AtBin t e → content_at w.tables e (x.party_state.hash % 2 ^ e) ≡ IsUnborn → ⊥
    -- nor does a walk or a clear
    pub sweeps_there : (p : ℕ) (x : PartyRecord K V F) (u : SweepState K V) (f : CursorState K) → slice_get w.party_records p ≡ Some x → x.party_state.stage ≡ AtSweep u → u.stage ≡ OverBins f → content_at w.tables f.top.table f.top.index ≡ IsUnborn → ⊥
    -- a look-up has decided or was refused by its 32nd step, one to find a table and one at each table
    pub in_time : (p : ℕ) (x : PartyRecord K V F) → slice_get w.party_records p ≡ Some x → is_lookup (Some x.call) ≡ true → decision (history w) p ≡ None → has_closed (history w) p ≡ false → x.steps < TABLES + 1
    -- and its step after the decision is its reply
    pub replies_next : (p : ℕ) (x : PartyRecord K V F) (r : KeptReply K V) → slice_get w.party_records p ≡ Some x → is_lookup (Some x.call) ≡ true → decision (history w) p ≡ Some r → has_replied (history w) p ≡ false → x.party_state.stage ≡ AtDone (OutcomeReply r)
