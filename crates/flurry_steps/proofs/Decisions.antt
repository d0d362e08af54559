-- A call at a live bin decides, or is refused.
use Rattle.std.specs.Prelude.{◌≡◌, ℕ, Bool, true, false, Option, Some, None, Ok, Err}
use Rattle.std.specs.Option.{option_map_or}
use Rattle.std.specs.declared.cmp.Ordering.{Ordering}
use Rattle.std.proofs.Common.{sym, subst}
use Rattle.flurry_bins_slots.specs.Slot.{PlainEntry, Live, Content, IsLive, HasMoved, IsUnborn, is_live, ComputeOutcome, WasAbsent, WasRemoved, WasChanged, AlterOutcome, StayedAbsent, WasAdded, WasKept, WasTaken, WasSet, entry_of_live, take_if_reply}
use Rattle.flurry_steps_sweep.specs.Outcome.{Outcome}
use Rattle.flurry_steps_stages.specs.Stage.{AnswerForm, TheValue, Task, Finds, Removes, RemovesSeen, Inserts, Adds, Computes, Alters, Stage, AtDone}
use Rattle.flurry_steps.specs.PartySlots.{GoesOnNew, GoesOnWritten, GoesOnAdded, GoesOnAltered, stage_taken, stage_computed, DecidesAt, LiveGives, ContentGives}
use Rattle.flurry_steps.specs.PartyTally.{HasDecided}
use Rattle.flurry_steps_sweep.specs.declared.step.Event.{Event}
use Rattle.flurry_steps_sweep.specs.declared.step.Event.TheVariants as event
use Rattle.flurry_base.specs.declared.verdict.Verdict.{Verdict}

module _ {K V F : Type 0} where
  after_new : (e : ℕ) (r : Outcome K V) (asked : Bool) (s : Stage K V F) → GoesOnNew e r asked s → HasDecided s
  after_new e r true s g = subst HasDecided (sym g.2) tt
  after_new e r false s g = subst HasDecided (sym g) tt

  after_written : (e : ℕ) (o : Option V) (asked : Bool) (s : Stage K V F) → GoesOnWritten e (o, asked) s → HasDecided s
  after_written e None asked s g = after_new e _ asked s g
  after_written e (Some v) asked s g = subst HasDecided (sym g) tt

  after_added : (e : ℕ) (o : Option V) (v : V) (asked : Bool) (s : Stage K V F) → GoesOnAdded e (option_map_or (λ (current : V). Err (current, v)) o (Ok (v, asked))) s → HasDecided s
  after_added e None v asked s g = after_new e _ asked s g
  after_added e (Some w) v asked s g = subst HasDecided (sym g) tt

  after_taken : (w : AnswerForm) (o : Option (PlainEntry K V)) (s : Stage K V F) → s ≡ stage_taken w o → HasDecided s
  after_taken w None s is = subst HasDecided (sym is) tt
  after_taken w (Some x) s is = subst HasDecided (sym is) tt

  after_computed : (o : ComputeOutcome V) (s : Stage K V F) → s ≡ stage_computed o → HasDecided s
  after_computed WasAbsent s is = subst HasDecided (sym is) tt
  after_computed WasRemoved s is = subst HasDecided (sym is) tt
  after_computed (WasChanged v) s is = subst HasDecided (sym is) tt

  after_altered : (e : ℕ) (o : AlterOutcome K V) (s : Stage K V F) → GoesOnAltered e o s → HasDecided s
  after_altered e StayedAbsent s g = subst HasDecided (sym g) tt
  after_altered e (WasAdded v asked) s g = after_new e _ asked s g
  after_altered e WasKept s g = subst HasDecided (sym g) tt
  after_altered e (WasTaken x) s g = subst HasDecided (sym g) tt
  after_altered e (WasSet w v) s g = subst HasDecided (sym g) tt

module _ {K V F : Type 0} (cmp : K → K → Ordering) (changes : F → K → Option V → Verdict V → Type 0) (h : ℕ) where
  decides : (t : Task K V F) (e : ℕ) (b d : Live K V) (s : Stage K V F) → DecidesAt cmp changes h t e b s d → HasDecided s
  decides (Finds w k) e b d s g = subst HasDecided (sym g.0) tt
  decides (Removes w k) e b d s g = after_taken w (entry_of_live cmp b h k) s g.0
  decides (RemovesSeen z) e b d s g = after_taken TheValue (take_if_reply cmp z.number b h z.key) s g.0
  decides (Inserts k v) e b d s g = after_written e _ _ s g.0
  decides (Adds k v) e b d s g = after_added e _ v _ s g.0
  decides (Computes k f) e b d s g = after_computed g.0 s g.2
  decides (Alters k may_add f) e b d s g = after_altered e g.0 s g.2

  live : (t : Task K V F) (e : ℕ) (b : Live K V) (ev : Event) (s : Stage K V F) (c : Content K V) → LiveGives cmp changes h t e b ev s c → HasDecided s
  live t e b event.Decide s c g = decides t e b g.0 s g.1
  live t e b event.Refused s c g = subst HasDecided (sym g.0) tt
  live t e b (event.Opened i) s c g = absurd g
  live t e b (event.Placed i) s c g = absurd g
  live t e b (event.Moved i j) s c g = absurd g
  live t e b event.Read s c g = absurd g
  live t e b (event.Wipe _ _) s c g = absurd g
  live t e b (event.Published i) s c g = absurd g
  live t e b event.Silent s c g = absurd g

  pub live_decides : (t : Task K V F) (e : ℕ) (q : Content K V) (ev : Event) (s : Stage K V F) (c : Content K V) → is_live q ≡ true → ContentGives cmp changes h t e q ev s c → HasDecided s
  live_decides t e (IsLive b) ev s c is g = live t e b ev s c g
  live_decides t e HasMoved ev s c is g = let no : false ≡ true = is in cc
  live_decides t e IsUnborn ev s c is g = let no : false ≡ true = is in cc

  -- a look-up at a live bin is done
  look_live : (w : AnswerForm) (k : K) (e : ℕ) (b : Live K V) (ev : Event) (s : Stage K V F) (c : Content K V) → LiveGives cmp changes h (Finds w k) e b ev s c → (r : Outcome K V) × (s ≡ AtDone r)
  look_live w k e b event.Decide s c g = (_, g.1.0)
  look_live w k e b event.Refused s c g = (_, g.0)
  look_live w k e b (event.Opened i) s c g = absurd g
  look_live w k e b (event.Placed i) s c g = absurd g
  look_live w k e b (event.Moved i j) s c g = absurd g
  look_live w k e b event.Read s c g = absurd g
  look_live w k e b (event.Wipe _ _) s c g = absurd g
  look_live w k e b (event.Published i) s c g = absurd g
  look_live w k e b event.Silent s c g = absurd g

  pub look_done : (w : AnswerForm) (k : K) (e : ℕ) (q : Content K V) (ev : Event) (s : Stage K V F) (c : Content K V) → is_live q ≡ true → ContentGives cmp changes h (Finds w k) e q ev s c → (r : Outcome K V) × (s ≡ AtDone r)
  look_done w k e (IsLive b) ev s c is g = look_live w k e b ev s c g
  look_done w k e HasMoved ev s c is g = let clash : false ≡ true = is in cc
  look_done w k e IsUnborn ev s c is g = let clash : false ≡ true = is in cc
