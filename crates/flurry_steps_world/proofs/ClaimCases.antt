-- Steps of a call that helps a growth: at its board and the seats there, and at the control, where it publishes.
use Rattle.std.specs.Prelude.{ℕ, suc, ◌+◌, ◌-◌, ◌*◌, ◌^◌, ◌≤◌, ◌<◌, ◌==◌, ◌&&◌, nat_lt, Bool, true, false, length, slice_get, Option, Some, None, IsSome, option_map, MatchOption, if◌then◌else◌, ◌≡◌, ◌⊎◌}
use Rattle.std.specs.declared.cmp.Ordering.{Ordering}
use Rattle.std.specs.Cmp.{IsTotalOrder}
use Rattle.std.proofs.Common.{arith, refl, sym, ◌∙◌, ap, subst, inl, inr}
use Rattle.std.proofs.lemmas.Bool.{cases_eq, eq-eqb, ltb-true, ltb-false, le-leb}
use Rattle.std.proofs.lemmas.Option.{slice_get_within}
use Rattle.flurry_steps_claims.specs.PlainBoard.{PlainBoardState, unclaimed_of, attempt_of, has_seat, can_report, reports_last, board_after_take, after_attempt, after_report, after_give}
use Rattle.flurry_steps_claims.specs.Range.{Bounds, range_at}
use Rattle.flurry_steps_claims.specs.declared.range.Attempt.{Attempt}
use Rattle.flurry_steps_claims.specs.declared.range.Attempt.TheVariants.{Got, Nothing}
use Rattle.flurry_steps_control.specs.Claim.{ClaimState, whole_claim, moved_range}
use Rattle.flurry_steps_control.specs.Control.{ControlState, GrowthIsIn, after_publish, is_growing}
use Rattle.flurry_steps_stages.specs.Help.{Help, WantsSeat, AtBoard, Moving, Publishing, GivesBack, helped_table}
use Rattle.flurry_steps_stages.specs.Stage.{Resume, ThenBin, ThenRecount, ThenGrow, ForInsert, ForReserve, AtHelp, resumed_stage}
use Rattle.flurry_steps.specs.Party.{PartyState}
use Rattle.flurry_steps.specs.PartyBoard.{BoardAnswer, Seated, Attempted, Reported, TakenBack, HelpAsks, HasRange, StageAsks, help_after, help_attempted, stage_helping, stage_answered}
use Rattle.flurry_steps.specs.PartyControl.{event_published}
use Rattle.flurry_steps_sweep.specs.declared.step.Event.{Event}
use Rattle.flurry_steps_sweep.specs.declared.step.Event.TheVariants as event
use Rattle.flurry_steps_theory.specs.Map.{same}
use Rattle.flurry_steps_theory.specs.Trace.{is_lookup}
use Rattle.flurry_steps_theory.specs.Machine as machine
use Rattle.flurry_steps_theory.specs.Machine.{Claims, Reports, Publishes, is_complete, with_report, total}
use Rattle.flurry_steps_theory.specs.Invariant.{size}
use Rattle.flurry_steps_theory.proofs.Ranges.{part-total}
use Rattle.flurry_base.specs.declared.call.Call.{Call}
use Rattle.flurry_base.specs.declared.sizes.TheConstants.{MAX_TABLE}
use Rattle.flurry_base.specs.declared.verdict.Verdict.{Verdict}
use Rattle.flurry_steps_theory.specs.declared.Label.TheVariants as label
use Rattle.flurry_steps_world.specs.Tables.{Tables, board_at, put_board}
use Rattle.flurry_steps_world.specs.Parts.{BoardGives, AtBoardOf}
use Rattle.flurry_steps_world.specs.World.{PartyRecord, WorldState, state_of, machine_claim, growth_at, growth_of, mode_of_resume, mode_of_stage, FollowsResume, FollowsStage, IsWorld}
use Rattle.flurry_steps_world.specs.Steps.{label_of}
use Rattle.flurry_steps_world.proofs.TableLaws.{board_in, board_at-put}
use Rattle.flurry_steps_world.proofs.StateLaws.{held_of_stage, same_some}
use Rattle.flurry_steps_world.proofs.TransitionLaws.{with_board_there, is_claimed, is_reported, is_published}
use Rattle.flurry_steps_world.proofs.Frames.{growth_put, board_frame, IsStep}
use Rattle.flurry_steps_world.proofs.Cases.{in_mode, in_claim, in_told, no_lookup, settled, quiet}

module _ {K V F : Type 0} where
  -- where a call that stops helping goes on
  pub resumed_as : (hash : K → ℕ) (c : Call K V F) (a : Resume K V F) → FollowsResume c a → (mode_of_stage (resumed_stage a) ≡ mode_of_resume a) × (held_of_stage (resumed_stage a) ≡ (None, None)) × FollowsStage hash c (resumed_stage a)
  resumed_as hash c (ThenBin t e) h = (refl, refl, h.0)
  resumed_as hash c (ThenGrow n ForReserve) h = (refl, refl, h)
  resumed_as hash c a h = (refl, refl, h)

  pub helper_writes : (c : Call K V F) (a : Resume K V F) → FollowsResume c a → is_lookup (Some c) ≡ false
  helper_writes c (ThenBin t e) h = h.1
  helper_writes c (ThenRecount r) h = h.writes
  helper_writes c (ThenGrow n (ForInsert r)) h = h.writes
  helper_writes c (ThenGrow n ForReserve) (m, h) = ap (λ d. is_lookup (Some d)) h

-- a growth that runs is one of the published table
pub growing_is : (p g : Option ℕ) (e : ℕ) → g ≡ Some e → GrowthIsIn p g → p ≡ Some e
growing_is p g e is inside = (subst (GrowthIsIn p) is inside).0

module _ {K V F S : Type 0} (cmp : K → K → Ordering) (order : IsTotalOrder cmp) (hash : K → ℕ) (lawful : (j k : K) → same cmp j k ≡ true → hash j ≡ hash k) (gives : F → K → Option V → Verdict V → Type 0) (w : WorldState K V F S) (k : IsWorld cmp hash gives w) (p : ℕ) (x : PartyRecord K V F) (at : slice_get w.party_records p ≡ Some x) (c : PartyState K V F) where
  -- where the machine has a growth, the control has the growth from the published table
  growth_runs : (e : ℕ) → w.control_state.published ≡ Some e → ((state_of w).growth ≡ None → ⊥) → w.control_state.growth ≡ Some e
  growth_runs e there some = by_growth w.control_state.growth refl
    where
      by_growth : (g : Option ℕ) → w.control_state.growth ≡ g → w.control_state.growth ≡ Some e
      by_growth None is = absurd (some (ap (λ z. growth_of z w.tables) is))
      by_growth (Some n) is = is ∙ ap Some (same_some (sym (growing_is w.control_state.published w.control_state.growth n is k.control_state.growth) ∙ there))

  module _ (a : Resume K V F) (had : FollowsResume x.call a) where
    abbrev GoesTo : Tables K V → Type 0
    GoesTo t = IsStep cmp hash gives w p x w.control_state t c (label.Silent p)

    -- helping goes on, or ends, and the board shows the same growth
    module _ (h : Help) (f : x.party_state.stage ≡ AtHelp h a) (none : held_of_stage {F = F} (AtHelp h a) ≡ (None, None)) where
      rests : (o : Option Help) → c.stage ≡ stage_helping o a → held_of_stage {F = F} (stage_helping o a) ≡ (None, None) → GoesTo w.tables
      rests None g free =
          let (mode, plain_entries, follows) = resumed_as hash x.call a had in
          quiet cmp order hash lawful gives w k p x at c (AtHelp h a) f (ap mode_of_stage g ∙ mode) (ap held_of_stage g ∙ plain_entries ∙ sym none) (helper_writes x.call a had) (subst (FollowsStage hash x.call) (sym g) follows)
      rests (Some n) g free =
          quiet cmp order hash lawful gives w k p x at c (AtHelp h a) f (ap mode_of_stage g) (ap held_of_stage g ∙ free ∙ sym none) (helper_writes x.call a had) (subst (FollowsStage hash x.call) (sym g) had)

      rests_at : (o : Option Help) → c.stage ≡ stage_helping o a → held_of_stage {F = F} (stage_helping o a) ≡ (None, None) → (e : ℕ) (d d' : PlainBoardState) → board_at w.tables e ≡ Some d → d'.table ≡ d.table → growth_at d' ≡ growth_at d → GoesTo (put_board w.tables e d')
      rests_at o g free e d d' board table shows =
          let step = rests o g free in record {
            transition = step.transition;
            can = step.can;
            is = with_board_there cmp hash gives w p x at c (label.Silent p) step.transition (put_board w.tables e d') refl (growth_put w.control_state.growth w.tables e d d' board shows) step.is;
            follows = step.follows;
            frame = board_frame cmp hash gives w e d d' k board table (λ idle. ap (λ z. z.unclaimed) shows ∙ k.over e d board idle);
          }

    -- ---- at the seats

    takes_seat : (e : ℕ) (got : Bool) (t' : Tables K V) → x.party_state.stage ≡ AtHelp (WantsSeat e) a → c.stage ≡ stage_helping (help_after (WantsSeat e) (Seated got)) a → BoardGives e (Seated got) w.tables t' → GoesTo t'
    takes_seat e got t' f g gave = by_board (board_at w.tables e) refl gave
      where
        free : (b : Bool) → held_of_stage {F = F} (stage_helping (help_after (WantsSeat e) (Seated b)) a) ≡ (None, None)
        free true = refl
        free false = (resumed_as hash x.call a had).1

        by_board : (o : Option PlainBoardState) → board_at w.tables e ≡ o → MatchOption o ((got ≡ false) × (t' ≡ w.tables)) (λ d. (got ≡ has_seat d) × (t' ≡ put_board w.tables e (board_after_take d))) → GoesTo t'
        by_board None is h = subst GoesTo (sym h.1) (rests (WantsSeat e) f refl _ g (free got))
        by_board (Some d) is h = subst GoesTo (sym h.1) (rests_at (WantsSeat e) f refl _ g (free got) e d (board_after_take d) is refl refl)

    gives_back : (e : ℕ) (t' : Tables K V) → x.party_state.stage ≡ AtHelp (GivesBack e) a → c.stage ≡ resumed_stage a → BoardGives e TakenBack w.tables t' → GoesTo t'
    gives_back e t' f g gave = by_board (board_at w.tables e) refl gave
      where
        by_board : (o : Option PlainBoardState) → board_at w.tables e ≡ o → MatchOption o (t' ≡ w.tables) (λ d. t' ≡ put_board w.tables e (after_give d)) → GoesTo t'
        by_board None is h = subst GoesTo (sym h) (rests (GivesBack e) f refl None g (resumed_as hash x.call a had).1)
        by_board (Some d) is h = subst GoesTo (sym h) (rests_at (GivesBack e) f refl None g (resumed_as hash x.call a had).1 e d (after_give d) is refl refl)

    -- ---- attempts

    module _ (e : ℕ) (f : x.party_state.stage ≡ AtHelp (AtBoard e) a) (d : PlainBoardState) (board : board_at w.tables e ≡ Some d) where
      abbrev low : ℕ
      low = 2 ^ d.table - (d.next + 1) * d.stride

      -- a board that has bins left to claim is that of the growth that runs
      runs : 0 < unclaimed_of d → w.control_state.growth ≡ Some e
      runs some = by_growth w.control_state.growth refl
        where
          by_table : (n : ℕ) → w.control_state.growth ≡ Some n → (n ≡ e) ⊎ (n ≡ e → ⊥) → w.control_state.growth ≡ Some e
          by_table n is (inl here) = is ∙ ap Some here
          by_table n is (inr apart) = absurd (omega (arith, some, k.over e d board (λ h. apart (same_some (sym is ∙ h)))))

          by_growth : (g : Option ℕ) → w.control_state.growth ≡ g → w.control_state.growth ≡ Some e
          by_growth None is = absurd (omega (arith, some, k.over e d board (λ h. let no : None ≡ Some e = sym is ∙ h in cc)))
          by_growth (Some n) is = by_table n is (cases_eq n e)

      abbrev next_board : PlainBoardState
      next_board = record { table = d.table; stride = d.stride; next = d.next + 1; reported = d.reported; out = d.out }

      -- a range is claimed
      claims : 0 < unclaimed_of d → low < unclaimed_of d → c.stage ≡ AtHelp (Moving (whole_claim (range_at d.table d.stride d.next))) a → GoesTo (put_board w.tables e next_board)
      claims some less g = record {
        transition = Claims e (growth_at d) low;
        can = (in_claim cmp order hash lawful gives w k p x at c (AtHelp (AtBoard e) a) f, slice_get_within w.party_records p x at, growing_is w.control_state.published w.control_state.growth e running k.control_state.growth, ap (λ z. growth_of z w.tables) running ∙ ap (option_map growth_at) board, less, no_lookup cmp order hash lawful gives w k p x at c (helper_writes x.call a had));
        is = is_claimed cmp hash gives w p x at c e (growth_at d) (put_board w.tables e next_board) refl (ap mode_of_stage g ∙ sym (in_mode cmp order hash lawful gives w k p x at c (AtHelp (AtBoard e) a) f)) low
            (ap (λ z. growth_of z (put_board w.tables e next_board)) running ∙ ap (option_map growth_at) (board_at-put w.tables e next_board (board_in w.tables e d board)))
            (ap held_of_stage g ∙ ap (λ n. (Some (record { table = n; low = low; left = unclaimed_of d; high = unclaimed_of d }), None)) (k.tables.boards e d board)
            ∙ ap (λ o. (Some (record { table = e; low = low; left = unclaimed_of d; high = unclaimed_of d }), o)) (sym (ap (λ s. (held_of_stage s).1) f)));
        follows = subst (FollowsStage hash x.call) (sym g) had;
        frame = board_frame cmp hash gives w e d next_board k board refl (λ idle. absurd (idle running));
      }
        where
          running : w.control_state.growth ≡ Some e
          running = runs some

      attempts_at : (b : Bool) → nat_lt 0 (unclaimed_of d) ≡ b → (y : Attempt) (t' : Tables K V) → HasRange (Attempted y) → c.stage ≡ AtHelp (help_attempted e y) a → y ≡ (if b then Got (range_at d.table d.stride d.next) else Nothing)
          → t' ≡ put_board w.tables e (record { table = d.table; stride = d.stride; next = if b then d.next + 1 else d.next; reported = d.reported; out = d.out }) → GoesTo t'
      attempts_at true left y t' ranged g is after =
          subst GoesTo (sym after) (claims (ltb-true 0 (unclaimed_of d) left) (subst (λ z. HasRange (Attempted z)) is ranged).some (g ∙ ap (λ z. AtHelp (help_attempted e z) a) is))
      attempts_at false left y t' ranged g is after =
          subst GoesTo (sym after) (rests_at (AtBoard e) f refl (Some (GivesBack e)) (g ∙ ap (λ z. AtHelp (help_attempted e z) a) is) refl e d _ board refl refl)

    attempts : (e : ℕ) (y : Attempt) (t' : Tables K V) → x.party_state.stage ≡ AtHelp (AtBoard e) a → HasRange (Attempted y) → c.stage ≡ AtHelp (help_attempted e y) a → BoardGives e (Attempted y) w.tables t' → GoesTo t'
    attempts e y t' f ranged g gave = by_board (board_at w.tables e) refl gave
      where
        by_board : (o : Option PlainBoardState) → board_at w.tables e ≡ o → MatchOption o ((y ≡ Nothing) × (t' ≡ w.tables)) (λ d. (y ≡ attempt_of d) × (t' ≡ put_board w.tables e (after_attempt d))) → GoesTo t'
        by_board None is h = subst GoesTo (sym h.1) (rests (AtBoard e) f refl (Some (GivesBack e)) (g ∙ ap (λ z. AtHelp (help_attempted e z) a) h.0) refl)
        by_board (Some d) is h = attempts_at e f d is (nat_lt 0 (unclaimed_of d)) refl y t' ranged g h.0 h.1

    -- ---- a report

    module _ (m : ClaimState) (f : x.party_state.stage ≡ AtHelp (Moving m) a) (r : Bounds) (over : moved_range m ≡ Some r) (last : Bool) (g : c.stage ≡ AtHelp (if last then Publishing m.range.table else AtBoard m.range.table) a) where
      holds : (state_of w).claim p ≡ Some (machine_claim m)
      holds = in_claim cmp order hash lawful gives w k p x at c (AtHelp (Moving m) a) f

      claim_ok : (w.control_state.published ≡ Some m.range.table) × (m.range.low < m.range.high) × (m.range.low ≤ m.left) × (m.left ≤ m.range.high) × (m.range.high ≤ 2 ^ m.range.table)
      claim_ok = k.state.1.cut.claims p (machine_claim m) holds

      -- all its bins have moved
      is_over : (r ≡ m.range) × (m.left ≡ m.range.low)
      is_over = by_test (nat_lt m.range.low m.left) refl over
        where
          by_test : (b : Bool) → nat_lt m.range.low m.left ≡ b → (if b then None else Some m.range) ≡ Some r → (r ≡ m.range) × (m.left ≡ m.range.low)
          by_test true left h = let no : None ≡ Some r = h in cc
          by_test false left h = (same_some (sym h), omega (arith, ltb-false m.range.low m.left left, claim_ok.2))

      running : w.control_state.growth ≡ Some m.range.table
      running = growth_runs m.range.table claim_ok.0 (λ none. let no : (state_of w).claim p ≡ None = k.state.1.cut.idle none p in let clash : None ≡ Some (machine_claim m) = sym no ∙ holds in cc)

      reports_at : (d : PlainBoardState) → board_at w.tables m.range.table ≡ Some d → (t' : Tables K V) → last ≡ reports_last d r → t' ≡ put_board w.tables m.range.table (after_report d r) → GoesTo t'
      reports_at d board t' said after = subst GoesTo (sym (after ∙ ap (put_board w.tables m.range.table) reported)) (record {
        transition = Reports (machine_claim m) (growth_at d);
        can = (holds, is_over.1, shown, no_lookup cmp order hash lawful gives w k p x at c (helper_writes x.call a had));
        is = is_reported cmp hash gives w p x at c m.range.table (growth_at d) (put_board w.tables m.range.table with_range) refl (ap mode_of_stage g ∙ by_mode last ∙ sym (in_mode cmp order hash lawful gives w k p x at c (AtHelp (Moving m) a) f)) (machine_claim m)
            (ap (λ z. growth_of z (put_board w.tables m.range.table with_range)) running ∙ ap (option_map growth_at) (board_at-put w.tables m.range.table with_range (board_in w.tables m.range.table d board)))
            (ap (λ s. (held_of_stage s).1) f)
            (ap held_of_stage g ∙ by_told last ∙ ap (λ b. (None, (if b then Some m.range.table else None))) is_last);
        follows = subst (FollowsStage hash x.call) (sym g) (by_follows last);
        frame = board_frame cmp hash gives w m.range.table d with_range k board refl (λ idle. absurd (idle running));
      })
        where
          with_range : PlainBoardState
          with_range = record { table = d.table; stride = d.stride; next = d.next; reported = d.reported + (m.range.high - m.range.low); out = d.out }

          shown : (state_of w).growth ≡ Some (growth_at d)
          shown = ap (λ z. growth_of z w.tables) running ∙ ap (option_map growth_at) board

          table : d.table ≡ m.range.table
          table = k.tables.boards m.range.table d board

          can : can_report d m.range ≡ true
          can =
              let sums : unclaimed_of d + d.reported + total (λ q. size ((state_of w).claim q)) (length w.party_records) ≡ 2 ^ m.range.table = k.state.1.cut.sum m.range.table (growth_at d) claim_ok.0 shown in
              let own : size ((state_of w).claim p) ≡ m.range.high - m.range.low = ap size holds in
              let part : size ((state_of w).claim p) ≤ total (λ q. size ((state_of w).claim q)) (length w.party_records) = part-total (λ q. size ((state_of w).claim q)) p (length w.party_records) (slice_get_within w.party_records p x at) in
              let all : 2 ^ d.table ≡ 2 ^ m.range.table = ap (λ n. 2 ^ n) table in
              let fits : d.reported + (m.range.high - m.range.low) ≤ 2 ^ d.table - unclaimed_of d = omega (arith, sums, own, part, all) in
              rw (eq-eqb m.range.table d.table (sym table), le-leb (d.reported + (m.range.high - m.range.low)) (2 ^ d.table - unclaimed_of d) fits) refl

          reported : after_report d r ≡ with_range
          reported =
              ap (after_report d) is_over.0
              ∙ ap (λ b. record { table = d.table; stride = d.stride; next = d.next; reported = if b then d.reported + (m.range.high - m.range.low) else d.reported; out = d.out }) can

          is_last : last ≡ is_complete m.range.table (with_report (growth_at d) (machine_claim m))
          is_last = said ∙ ap (reports_last d) is_over.0 ∙ ap (λ b. b && (d.reported + (m.range.high - m.range.low) == 2 ^ d.table)) can ∙ ap (λ n. d.reported + (m.range.high - m.range.low) == 2 ^ n) table

          by_mode : (b : Bool) → mode_of_stage {F = F} (AtHelp (if b then Publishing m.range.table else AtBoard m.range.table) a) ≡ mode_of_resume a
          by_mode b = refl

          by_told : (b : Bool) → held_of_stage {F = F} (AtHelp (if b then Publishing m.range.table else AtBoard m.range.table) a) ≡ (None, (if b then Some m.range.table else None))
          by_told true = refl
          by_told false = refl

          by_follows : (b : Bool) → FollowsStage hash x.call (AtHelp (if b then Publishing m.range.table else AtBoard m.range.table) a)
          by_follows b = had

      reports : (t' : Tables K V) → BoardGives m.range.table (Reported r last) w.tables t' → GoesTo t'
      reports t' gave = by_board (board_at w.tables m.range.table) refl (k.running m.range.table running) gave
        where
          by_board : (o : Option PlainBoardState) → board_at w.tables m.range.table ≡ o → IsSome (board_at w.tables m.range.table) → MatchOption o ((last ≡ false) × (t' ≡ w.tables)) (λ d. (last ≡ reports_last d r) × (t' ≡ put_board w.tables m.range.table (after_report d r))) → GoesTo t'
          by_board None is some h = absurd (grind (arith, some, is))
          by_board (Some d) is some h = reports_at d is t' h.0 h.1

  -- ---- a step at a board, or at the seats there

  module _ (ev : Event) (b : ControlState) (t' : Tables K V) where
    pub helps_at : (h : Help) (a : Resume K V F) → x.party_state.stage ≡ AtHelp h a → FollowsResume x.call a → AtBoardOf (helped_table h) x.party_state w.control_state w.tables ev c b t' → IsStep cmp hash gives w p x b t' c (label_of p ev c.stage)
    helps_at h a f had (y, step, gave, same) =
        subst (λ z. IsStep cmp hash gives w p x z t' c (label_of p ev c.stage)) (sym same)
        (subst (λ z. IsStep cmp hash gives w p x w.control_state t' c (label_of p z c.stage)) (sym step.silent)
        (by_help h y f (subst (λ s. StageAsks s y) f step.asks) step.range (ap (λ z. z.stage) step.after ∙ ap (stage_answered y) f) gave))
      where
        by_help : (h : Help) (y : BoardAnswer) → x.party_state.stage ≡ AtHelp h a → HelpAsks h y → HasRange y → c.stage ≡ stage_helping (help_after h y) a → BoardGives (helped_table h) y w.tables t' → GoesTo a had t'
        by_help (WantsSeat n) (Seated got) f asks ranged g gave = takes_seat a had n got t' f g gave
        by_help (AtBoard n) (Attempted y) f asks ranged g gave = attempts a had n y t' f ranged g gave
        by_help (Moving m) (Reported r last) f asks ranged g gave = reports a had m f r asks last g t' gave
        by_help (GivesBack n) TakenBack f asks ranged g gave = gives_back a had n t' f g gave
        by_help _ _ f asks ranged g gave = absurd asks

    -- at the control, where it publishes the next table
    pub publishes : (e : ℕ) (a : Resume K V F) → x.party_state.stage ≡ AtHelp (Publishing e) a → FollowsResume x.call a
        → (ev ≡ event_published e w.control_state) × (c.stage ≡ AtHelp (GivesBack e) a) × (b ≡ after_publish e w.control_state) × (t' ≡ w.tables) → IsStep cmp hash gives w p x b t' c (label_of p ev c.stage)
    publishes e a f had (said, g, left, stays) =
        settled cmp order hash lawful gives w k p x at c ev (event.Published (e + 1)) (AtHelp (GivesBack e) a) b (record { published = Some (suc e); growth = None; count = w.control_state.count }) t' w.tables
        (said ∙ ap (λ d. if d then event.Published (e + 1) else event.Silent) grows) g
        (left ∙ ap (λ d. if d then record { published = Some (e + 1); growth = None; count = w.control_state.count } else w.control_state) grows ∙ ap (λ n. record { published = Some n; growth = None; count = w.control_state.count }) next_table) stays
        (subst (λ z. IsStep cmp hash gives w p x (record { published = Some (suc e); growth = None; count = w.control_state.count }) w.tables c (label.Published z)) (sym next_table) (record {
          transition = Publishes e shown;
          can = (told, told_of.0, told_of.2, no_lookup cmp order hash lawful gives w k p x at c (helper_writes x.call a had));
          is = is_published cmp hash gives w p x at c e shown (ap mode_of_stage g ∙ sym (in_mode cmp order hash lawful gives w k p x at c (AtHelp (Publishing e) a) f)) (ap held_of_stage g ∙ ap (λ o. (o, None)) (sym (ap (λ s. (held_of_stage s).0) f)));
          follows = subst (FollowsStage hash x.call) (sym g) had;
          frame = record {
            hashed = k.hashed;
            control_state = record { published = omega (arith, below); growth = tt };
            tables = k.tables;
            no_table = λ z. cc;
            next = λ d z. cc;
            running = λ d z. cc;
            over = λ d r there _. all_claimed d r there (cases_eq d e);
          };
        }))
      where
        told : (state_of w).told p ≡ Some e
        told = in_told cmp order hash lawful gives w k p x at c (AtHelp (Publishing e) a) f

        told_of : (w.control_state.published ≡ Some e) × (z : machine.Growth) × ((state_of w).growth ≡ Some z) × (z.reported ≡ 2 ^ e)
        told_of = k.state.1.cut.told p e told

        shown : machine.Growth
        shown = told_of.1

        running : w.control_state.growth ≡ Some e
        running = growth_runs e told_of.0 (λ none. let no : None ≡ Some shown = sym none ∙ told_of.2 in cc)

        grows : is_growing e w.control_state.growth ≡ true
        grows = ap (is_growing e) running ∙ eq-eqb e e refl

        next_table : e + 1 ≡ suc e
        next_table = omega arith

        below : e < MAX_TABLE
        below = (subst (GrowthIsIn w.control_state.published) running k.control_state.growth).1

        -- no bin of the board is left to claim
        all_claimed : (d : ℕ) (r : PlainBoardState) → board_at w.tables d ≡ Some r → (d ≡ e) ⊎ (d ≡ e → ⊥) → unclaimed_of r ≡ 0
        all_claimed d r there (inr apart) = k.over d r there (λ h. apart (same_some (sym h ∙ running)))
        all_claimed d r there (inl here) =
            let one : Some (growth_at r) ≡ Some shown = ap (option_map growth_at) (sym there ∙ ap (board_at w.tables) here) ∙ ap (λ z. growth_of z w.tables) (sym running) ∙ told_of.2 in
            let sums : shown.unclaimed + shown.reported + total (λ q. size ((state_of w).claim q)) (length w.party_records) ≡ 2 ^ e = k.state.1.cut.sum e shown told_of.0 told_of.2 in
            let own : unclaimed_of r ≡ shown.unclaimed = ap (λ z. z.unclaimed) (same_some one) in
            omega (arith, sums, own, told_of.3)
