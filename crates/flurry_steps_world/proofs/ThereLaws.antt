-- The part that a party wants is there.
use Rattle.std.specs.Prelude.{ℕ, suc, ◌+◌, ◌-◌, ◌^◌, ◌%◌, ◌≤◌, ◌<◌, nat_lt, Bool, true, false, cond, map, is_some, slice_get, Option, Some, None, IsSome, ◌≡◌}
use Rattle.std.specs.declared.cmp.Ordering.{Ordering}
use Rattle.std.specs.Cmp.{IsTotalOrder}
use Rattle.std.proofs.Common.{arith, refl, sym, ◌∙◌, ap, subst}
use Rattle.std.proofs.lemmas.Bool.{ltb-true}
use Rattle.flurry_bins_slots.specs.Slot.{Content, IsUnborn}
use Rattle.flurry_steps_control.specs.Claim.{ClaimState}
use Rattle.flurry_steps_sweep.specs.Cursor.{CursorState}
use Rattle.flurry_steps_sweep.specs.Sweep as swept
use Rattle.flurry_steps_sweep.specs.Sweep.{SweepKind, Reads, Wipes, SweepStage, AtSweepStart, OverBins, AtTotal, AtEnd, AfterEnd, SweepState, IsUnderWay}
use Rattle.flurry_steps_stages.specs.Help.{Moving, move_part}
use Rattle.flurry_steps_stages.specs.Stage.{Task, Finds, Removes, RemovesSeen, Inserts, Adds, Computes, Alters, Resume, Stage, AtBin, AtHelp, AtSweep, AtDone, AtTaken, part_of, bin_part}
use Rattle.flurry_steps.specs.Party.{wanted_part}
use Rattle.flurry_base.specs.OneKey.{key_of}
use Rattle.flurry_base.specs.declared.verdict.Verdict.{Verdict}
use Rattle.flurry_steps_theory.specs.Map.{same}
use Rattle.flurry_steps_theory.specs.Invariant.{is_live, key_in, NamesNoUnborn}
use Rattle.flurry_steps_theory.proofs.Bins.{double}
use Rattle.flurry_steps_theory.proofs.NoUnbornBin.{looks_at}
use Rattle.flurry_steps_world.specs.Entries.{slot_of}
use Rattle.flurry_steps_world.specs.Tables.{slots_of, place_at, content_at, is_made}
use Rattle.flurry_steps_world.specs.Parts.{IsGoing, IsThere}
use Rattle.flurry_steps_world.specs.World.{PartyRecord, WorldState, state_of, growth_of, mode_over, mode_of_sweep, frame_of, FollowsStage, IsWorld}
use Rattle.flurry_steps_world.proofs.SweepModes.{frame_is_born}
use Rattle.flurry_steps_world.proofs.CallLaws.{key_of_task}
use Rattle.flurry_steps_world.proofs.TableLaws.{place_of_content, place_of_made}
use Rattle.flurry_steps_world.proofs.PlaceLaws.{unmade_empty}
use Rattle.flurry_steps_world.proofs.Cases.{calls, in_mode, in_claim}
use Rattle.flurry_steps_world.proofs.ClaimCases.{growing_is}
use Rattle.flurry_steps_world.proofs.StateLaws.{same_some}

module _ {K V F S : Type 0} (cmp : K → K → Ordering) (total : IsTotalOrder cmp) (hash : K → ℕ) (lawful : (j k : K) → same cmp j k ≡ true → hash j ≡ hash k) (gives : F → K → Option V → Verdict V → Type 0) (w : WorldState K V F S) (k : IsWorld cmp hash gives w) (p : ℕ) (x : PartyRecord K V F) (at : slice_get w.party_records p ≡ Some x) where
  -- the bin of a party's key is not unborn
  pub bin_is_there : (t : Task K V F) (e : ℕ) → x.party_state.stage ≡ AtBin t e → content_at w.tables e (x.party_state.hash % 2 ^ e) ≡ IsUnborn → ⊥
  bin_is_there t e f unborn = by_key (key_of x.call) refl (key_of_task x.call t (subst (FollowsStage hash x.call) f (k.party_records p x at).stage))
    where
      by_key : (o : Option K) → key_of x.call ≡ o → IsSome o → ⊥
      by_key None key some = grind (arith, some)
      by_key (Some j) key some =
          looks_at cmp total hash lawful gives k.state.0 (state_of w) p e j k.state.1.tables (k.state.1.named p) (in_mode cmp total hash lawful gives w k p x at x.party_state (AtBin t e) f)
          (ap key_in (calls cmp total hash lawful gives w k p x at x.party_state) ∙ key) (ap (λ n. slot_of (content_at w.tables e (n % 2 ^ e))) (sym ((k.party_records p x at).own_hash j key)) ∙ ap slot_of unborn)

  there_bin : (t : Task K V F) (e : ℕ) → x.party_state.stage ≡ AtBin t e → IsThere w.tables (bin_part t e (x.party_state.hash % 2 ^ e))
  there_bin t e f = by_task t (place_of_content w.tables e (x.party_state.hash % 2 ^ e) (bin_is_there t e f))
    where
      by_task : (u : Task K V F) → IsSome (place_at w.tables e (x.party_state.hash % 2 ^ e)) → IsThere w.tables (bin_part u e (x.party_state.hash % 2 ^ e))
      by_task (Finds y j) h = h
      by_task (Removes y j) h = h
      by_task (RemovesSeen z) h = h
      by_task (Inserts j v) h = h
      by_task (Adds j v) h = h
      by_task (Computes j g) h = h
      by_task (Alters j may_add g) h = h

  there_move : (m : ClaimState) (a : Resume K V F) → x.party_state.stage ≡ AtHelp (Moving m) a → (d : Bool) → nat_lt m.range.low m.left ≡ d → IsThere w.tables (move_part m.range.table (cond {A = Option (ℕ × ℕ)} d (Some (m.range.table, m.left - 1)) None))
  there_move m a f false h = tt
  there_move m a f true h = (
    place_of_content w.tables m.range.table (m.left - 1) (λ z. born (content_at w.tables m.range.table (m.left - 1)) (k.state.1.cut.left_live p _ (m.left - 1) holds (omega (arith, less)) (omega (arith, less))) z),
    subst (λ n. IsSome (place_at w.tables n (m.left - 1))) (sym next_table) (place_of_made w.tables (suc m.range.table) (m.left - 1) k.tables made (omega (arith, in_table, double m.range.table))),
    subst (λ n. IsSome (place_at w.tables n (m.left - 1 + 2 ^ m.range.table))) (sym next_table) (place_of_made w.tables (suc m.range.table) (m.left - 1 + 2 ^ m.range.table) k.tables made (omega (arith, in_table, double m.range.table))),
  )
    where
      holds : (state_of w).claim p ≡ Some (record { table = m.range.table; low = m.range.low; left = m.left; high = m.range.high })
      holds = in_claim cmp total hash lawful gives w k p x at x.party_state (AtHelp (Moving m) a) f

      less : m.range.low < m.left
      less = ltb-true m.range.low m.left h

      next_table : m.range.table + 1 ≡ suc m.range.table
      next_table = omega arith

      claim_ok : (w.control_state.published ≡ Some m.range.table) × (m.range.low < m.range.high) × (m.range.low ≤ m.left) × (m.left ≤ m.range.high) × (m.range.high ≤ 2 ^ m.range.table)
      claim_ok = k.state.1.cut.claims p _ holds

      in_table : m.left - 1 < 2 ^ m.range.table
      in_table = omega (arith, claim_ok.3, claim_ok.4, less)

      born : (z : Content K V) → is_live (slot_of z) ≡ true → z ≡ IsUnborn → ⊥
      born z live g = let no : is_live (slot_of {K = K} {V = V} IsUnborn) ≡ true = ap (λ u. is_live (slot_of u)) (sym g) ∙ live in cc

      made : is_made (slots_of w.tables (suc m.range.table)) ≡ true
      made = by_growth w.control_state.growth refl (is_made (slots_of w.tables (suc m.range.table))) refl
        where
          by_growth : (g : Option ℕ) → w.control_state.growth ≡ g → (b : Bool) → is_made (slots_of w.tables (suc m.range.table)) ≡ b → b ≡ true
          by_growth g e true s = refl
          by_growth None e false s = let none : (state_of w).claim p ≡ None = k.state.1.cut.idle (ap (λ z. growth_of z w.tables) e) p in cc
          by_growth (Some n) e false s = absurd (k.next n e (unmade_empty (slots_of w.tables (suc n)) (ap (λ d. is_made (slots_of w.tables (suc d))) (same_some (sym (growing_is w.control_state.published w.control_state.growth n e k.control_state.growth) ∙ claim_ok.0)) ∙ s)))

  -- the bin that a walk or a clear goes over is not unborn
  pub frame_is_there : (u : SweepState K V) → x.party_state.stage ≡ AtSweep u → (f : CursorState K) → u.stage ≡ OverBins f → content_at w.tables f.top.table f.top.index ≡ IsUnborn → ⊥
  frame_is_there u e f over unborn = by_errand u.kind named
    where
      in_stage : (state_of w).mode p ≡ mode_over u.kind f
      in_stage = in_mode cmp total hash lawful gives w k p x at x.party_state (AtSweep u) e ∙ ap (λ z. mode_of_sweep z u.kind) over

      named : NamesNoUnborn {F = F} hash (is_some w.control_state.published) k.state.0 (state_of w).start ((state_of w).call p) (mode_over u.kind f)
      named = subst (λ m. NamesNoUnborn {F = F} hash (is_some w.control_state.published) k.state.0 (state_of w).start ((state_of w).call p) m) in_stage (k.state.1.named p)

      by_errand : (r : SweepKind) → NamesNoUnborn {F = F} hash (is_some w.control_state.published) k.state.0 (state_of w).start ((state_of w).call p) (mode_over r f) → ⊥
      by_errand Reads n = frame_is_born cmp hash k.state.0 (state_of w) (frame_of f.top) (map frame_of f.below) k.state.1.tables n.0 n.3 (ap slot_of unborn)
      by_errand (Wipes m) n = frame_is_born cmp hash k.state.0 (state_of w) (frame_of f.top) (map frame_of f.below) k.state.1.tables n.0 n.3 (ap slot_of unborn)

  there_frame : (u : SweepState K V) → x.party_state.stage ≡ AtSweep u → (f : CursorState K) → u.stage ≡ OverBins f → IsSome (place_at w.tables f.top.table f.top.index)
  there_frame u e f over = place_of_content w.tables f.top.table f.top.index (frame_is_there u e f over)

  there_sweep : (u : SweepState K V) → x.party_state.stage ≡ AtSweep u → (s : SweepStage K V) (er : SweepKind) → u.stage ≡ s → u.kind ≡ er → IsUnderWay s → IsThere w.tables (swept.part_at er s)
  there_sweep u e AtSweepStart er h q g = tt
  there_sweep u e (OverBins f) Reads h q g = there_frame u e f h
  there_sweep u e (OverBins f) (Wipes n) h q g = there_frame u e f h
  there_sweep u e AtTotal er h q g = tt
  there_sweep u e (AtEnd r) er h q g = absurd g
  there_sweep u e AfterEnd er h q g = absurd g

  there : (s : Stage K V F) → x.party_state.stage ≡ s → IsGoing s → IsThere w.tables (part_of x.party_state.hash s)
  there (AtBin t n) e g = there_bin t n e
  there (AtHelp (Moving m) a) e g = there_move m a e (nat_lt m.range.low m.left) refl
  there (AtSweep u) e g = there_sweep u e u.stage u.kind refl refl g
  there (AtDone r) e g = absurd g
  there AtTaken e g = absurd g
  there s e g = tt

  pub is_there : IsGoing x.party_state.stage → IsThere w.tables (wanted_part x.party_state)
  is_there g = there x.party_state.stage refl g
