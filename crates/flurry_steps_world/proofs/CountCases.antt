-- Steps at the control that count, and those that begin a growth.
use Rattle.std.specs.Prelude.{ℕ, pos, negsuc, suc, ◌+◌, ◌-◌, ◌*◌, ◌^◌, ◌<◌, ◌==◌, nat_lt, Bool, true, false, [], slice_get, Option, Some, None, IsSome, is_some, option_map, MatchOption, if◌then◌else◌, ◌≡◌}
use Rattle.std.specs.declared.cmp.Ordering.{Ordering}
use Rattle.std.specs.Cmp.{IsTotalOrder}
use Rattle.std.proofs.Common.{arith, refl, sym, ◌∙◌, ap, subst}
use Rattle.std.proofs.lemmas.Bool.{eqb-true, and_parts, ltb-true}
use Rattle.flurry_base.specs.Sizes.{stride_of}
use Rattle.flurry_steps_claims.specs.PlainBoard.{PlainBoardState, unclaimed_of}
use Rattle.flurry_steps_control.specs.Control as control
use Rattle.flurry_steps_control.specs.Control.{ControlState, after_begin, after_count, can_begin, BeginGives, grows_from}
use Rattle.flurry_steps_control.specs.declared.control.Advice.{Advice}
use Rattle.flurry_steps_control.specs.declared.control.Advice.TheVariants.{Enough, Join, Begin}
use Rattle.flurry_steps_control.specs.declared.control.BeginOutcome.{BeginOutcome}
use Rattle.flurry_steps_control.specs.declared.control.BeginOutcome.TheVariants as begin
use Rattle.flurry_steps_sweep.specs.Outcome.{Outcome, OutcomeReply, OutcomeEnded, OutcomeRefused}
use Rattle.flurry_steps_stages.specs.Help.{AtBoard, WantsSeat}
use Rattle.flurry_steps_stages.specs.Stage.{GrowFor, ForInsert, ForReserve, ThenRecount, ThenGrow, Stage, AtHelp, AtUncount, AtCount, AtRecount, AtBegin, AtGrow, AtDone, stage_grown}
use Rattle.flurry_steps.specs.Party.{PartyState}
use Rattle.flurry_steps.specs.PartyControl.{has_helped, stage_advised, stage_begun, stage_not_grown, stage_growing, event_begun, event_growing, event_not_grown}
use Rattle.flurry_steps_sweep.specs.declared.step.Event.{Event}
use Rattle.flurry_steps_sweep.specs.declared.step.Event.TheVariants as event
use Rattle.flurry_steps_theory.specs.Map.{same}
use Rattle.flurry_steps_theory.specs.Trace.{is_lookup}
use Rattle.flurry_steps_theory.specs.Machine.{Done, Places, IsRefused, RefusedAt}
use Rattle.flurry_base.specs.declared.call.Call.{Call}
use Rattle.flurry_steps_theory.specs.declared.Label.TheVariants as label
use Rattle.flurry_steps_world.specs.Tables.{Tables, slots_of, content_at, board_at, begun_board, PlaceGives}
use Rattle.flurry_steps_world.specs.World.{PartyRecord, WorldState, Near, state_of, growth_at, growth_of, reply_in, mode_of_grow_for, mode_of_stage, HasDecided, FollowsGrowFor, FollowsStage, IsWorld}
use Rattle.flurry_steps_world.specs.Steps.{label_of}
use Rattle.flurry_steps_world.proofs.StateLaws.{held_of_stage, same_some}
use Rattle.flurry_steps_world.proofs.TransitionLaws.{is_placed, is_refused}
use Rattle.flurry_steps_world.proofs.PlaceLaws.{refused_place}
use Rattle.flurry_steps_world.proofs.TableLaws.{AreTables-placed, not_made, is_made-placed, content_at-placed, board_at-begun, board_at-begun_other}
use Rattle.flurry_steps_world.proofs.Frames.{same_frame, IsStep}
use Rattle.flurry_steps_world.proofs.Cases.{calls, in_mode, in_claim, no_lookup, settled, quiet, is_counting}
use Rattle.flurry_base.specs.declared.sizes.TheConstants.{MAX_TABLE}
use Rattle.flurry_base.specs.declared.verdict.Verdict.{Verdict}

-- a growth that can begin
can_begin_is : (e : ℕ) (q : Option ℕ) (g : Option ℕ) → can_begin e q g ≡ true → (q ≡ Some e) × (g ≡ None) × (e < MAX_TABLE)
can_begin_is e (Some d) None h = (ap Some (eqb-true d e (and_parts (d == e) (nat_lt e MAX_TABLE) h).0), refl, ltb-true e 30 (and_parts (d == e) (nat_lt e MAX_TABLE) h).1)
can_begin_is e None (Some g) h = cc
can_begin_is e q g h = cc

module _ {K V F : Type 0} where
  -- the stage after a decision that was counted
  done_mode : (c : Call K V F) (r : Outcome K V) → IsSome (reply_in r) → mode_of_stage {F = F} (AtDone r) ≡ Done (reply_in r) 0 0
  done_mode c (OutcomeReply q) h = refl
  done_mode c OutcomeEnded h = cc
  done_mode c OutcomeRefused h = cc

  done_follows : (hash : K → ℕ) (c : Call K V F) (r : Outcome K V) → HasDecided c r → FollowsStage hash c (AtDone r)
  done_follows hash c (OutcomeReply q) h = h.one_key
  done_follows hash c OutcomeEnded h = let no : IsSome (reply_in {K = K} {V = V} OutcomeEnded) = h.reply in cc
  done_follows hash c OutcomeRefused h = tt

  -- the stage that follows an advice
  advised : (hash : K → ℕ) (c : Call K V F) (m o : Option ℕ) (r : Outcome K V) (a : Advice) → HasDecided c r → (mode_of_stage {F = F} (stage_advised m o r a) ≡ Done (reply_in r) 0 0) × (held_of_stage {F = F} (stage_advised m o r a) ≡ (None, None)) × FollowsStage hash c (stage_advised m o r a)
  advised hash c m o r Enough h = (done_mode c r h.reply, refl, done_follows hash c r h)
  advised hash c m o r (Join e) h = by_help (has_helped e m)
    where
      by_help : (b : Bool) → (mode_of_stage {F = F} (if b then AtDone r else AtHelp (WantsSeat e) (ThenRecount r)) ≡ Done (reply_in r) 0 0)
          × (held_of_stage {F = F} (if b then AtDone r else AtHelp (WantsSeat e) (ThenRecount r)) ≡ (None, None)) × FollowsStage hash c (if b then AtDone r else AtHelp (WantsSeat e) (ThenRecount r))
      by_help true = (done_mode c r h.reply, refl, done_follows hash c r h)
      by_help false = (refl, refl, h)
  advised hash c m None r Begin h = (done_mode c r h.reply, refl, done_follows hash c r h)
  advised hash c m (Some e) r Begin h = (refl, refl, h)

  -- growing ends
  grown : (hash : K → ℕ) (c : Call K V F) (g : GrowFor K V) → FollowsGrowFor c g → (mode_of_stage {F = F} (stage_grown g) ≡ mode_of_grow_for g) × (held_of_stage {F = F} (stage_grown g) ≡ (None, None)) × FollowsStage hash c (stage_grown g)
  grown hash c (ForInsert r) h = (refl, refl, h)
  grown hash c ForReserve h = (refl, refl, h)

  growing_writes : (c : Call K V F) (g : GrowFor K V) → FollowsGrowFor c g → is_lookup (Some c) ≡ false
  growing_writes c (ForInsert r) h = h.writes
  growing_writes c ForReserve (n, h) = ap (λ d. is_lookup (Some d)) h

module _ {K V F S : Type 0} (cmp : K → K → Ordering) (total : IsTotalOrder cmp) (hash : K → ℕ) (lawful : (j k : K) → same cmp j k ≡ true → hash j ≡ hash k) (gives : F → K → Option V → Verdict V → Type 0) (w : WorldState K V F S) (k : IsWorld cmp hash gives w) (p : ℕ) (x : PartyRecord K V F) (at : slice_get w.party_records p ≡ Some x) (c : PartyState K V F) where
  -- a party begins a growth, which so many processors share
  places : (s : Stage K V F) (e n : ℕ) (t : Tables K V) → x.party_state.stage ≡ s → can_begin e w.control_state.published w.control_state.growth ≡ true → PlaceGives w.tables (e + 1) (Some n) true t → held_of_stage s ≡ (None, None)
      → mode_of_stage c.stage ≡ mode_of_stage s → held_of_stage c.stage ≡ (None, None) → is_lookup (Some x.call) ≡ false → FollowsStage hash x.call c.stage → IsStep cmp hash gives w p x (after_begin e w.control_state) t c (label.Placed (e + 1))
  places s e n t f can made none mode claim lookup follows =
      subst (λ n. IsStep cmp hash gives w p x (after_begin e w.control_state) t c (label.Placed n)) (sym next_table) (record {
        transition = Places e;
        can = (may.0, ap (λ g. growth_of g w.tables) may.1, may.2, no_lookup cmp total hash lawful gives w k p x at c lookup);
        is = is_placed cmp hash gives w p x at c e t begun (λ d j. contents d j) (mode ∙ sym (in_mode cmp total hash lawful gives w k p x at c s f)) (claim ∙ sym (ap held_of_stage f ∙ none));
        follows = follows;
        frame = record {
          hashed = λ d i l h. k.hashed d i l (sym (contents d i) ∙ h);
          control_state = record { published = k.control_state.published; growth = (may.0, may.2) };
          tables = AreTables-placed w.tables (e + 1) (Some n) true t k.tables (omega (arith, may.2)) made;
          no_table = λ h. let no : None ≡ Some e = sym h ∙ may.0 in cc;
          next = λ d h g. not_made (slots_of t (e + 1)) (is_made-placed w.tables (e + 1) (Some n) t k.tables (omega (arith, may.2)) made) (subst (λ n. slots_of t n ≡ []) (ap suc (sym (same_some h)) ∙ sym next_table) g);
          running = λ d h. ap is_some (ap (board_at t) (sym (same_some h)) ∙ board);
          over = λ d r there idle. left d r there (λ here. idle (ap Some (sym here)));
        };
      })
    where
      may : (w.control_state.published ≡ Some e) × (w.control_state.growth ≡ None) × (e < MAX_TABLE)
      may = can_begin_is e w.control_state.published w.control_state.growth can

      next_table : e + 1 ≡ suc e
      next_table = omega arith

      board : board_at t e ≡ Some (begun_board e n)
      board = board_at-begun w.tables e n t k.tables may.2 made

      begun : growth_of (Some e) t ≡ Some (record { unclaimed = 2 ^ e; reported = 0 })
      begun = ap (option_map growth_at) board ∙ ap (λ u. Some (record { unclaimed = u; reported = 0 })) (let all : 2 ^ e - 0 * stride_of (2 ^ e) n ≡ 2 ^ e = omega arith in all)

      left : (d : ℕ) (r : PlainBoardState) → board_at t d ≡ Some r → (d ≡ e → ⊥) → unclaimed_of r ≡ 0
      left d r there apart = k.over d r (sym (board_at-begun_other w.tables e n t k.tables may.2 made d apart) ∙ there) (λ h. let no : None ≡ Some d = sym may.1 ∙ h in cc)

      contents : (d j : ℕ) → content_at t d j ≡ content_at w.tables d j
      contents d j = content_at-placed w.tables (e + 1) n true t k.tables (omega (arith, may.2)) made d j

  module _ (ev : Event) (b : ControlState) (t' : Tables K V) where
    pub uncounts : (r : Outcome K V) → x.party_state.stage ≡ AtUncount r → HasDecided x.call r → Near (2 ^ 62) w.control_state.count → (ev ≡ event.Silent) × (c.stage ≡ AtDone r) × (b ≡ after_count (negsuc 0) w.control_state) × (t' ≡ w.tables) → IsStep cmp hash gives w p x b t' c (label_of p ev c.stage)
    uncounts r f had near h =
        settled cmp total hash lawful gives w k p x at c ev event.Silent (AtDone r) b (after_count (negsuc 0) w.control_state) t' w.tables h.0 h.1 h.2 h.3
        (is_counting cmp total hash lawful gives w k p x at c (AtUncount r) r 0 1 (negsuc 0) f refl refl near refl (omega arith) (ap mode_of_stage h.1 ∙ done_mode x.call r had.reply) (ap held_of_stage h.1) had.writes (subst (FollowsStage hash x.call) (sym h.1) (done_follows hash x.call r had)))

    pub counts_one : (r : Outcome K V) → x.party_state.stage ≡ AtCount r → HasDecided x.call r → Near (2 ^ 62) w.control_state.count → (ev ≡ event.Silent) × (c.stage ≡ stage_advised x.party_state.helped w.control_state.published r (control.advice_of (after_count (pos 1) w.control_state))) × (b ≡ after_count (pos 1) w.control_state) × (t' ≡ w.tables)
        → IsStep cmp hash gives w p x b t' c (label_of p ev c.stage)
    counts_one r f had near h =
        let (mode, claim, follows) = advised hash x.call x.party_state.helped w.control_state.published r (control.advice_of (after_count (pos 1) w.control_state)) had in
        settled cmp total hash lawful gives w k p x at c ev event.Silent _ b (after_count (pos 1) w.control_state) t' w.tables h.0 h.1 h.2 h.3
        (is_counting cmp total hash lawful gives w k p x at c (AtCount r) r 1 0 (pos 1) f refl refl near refl (omega arith) (ap mode_of_stage h.1 ∙ mode) (ap held_of_stage h.1 ∙ claim) had.writes (subst (FollowsStage hash x.call) (sym h.1) follows))

    pub recounts : (r : Outcome K V) → x.party_state.stage ≡ AtRecount r → HasDecided x.call r → Near (2 ^ 62) w.control_state.count → (ev ≡ event.Silent) × (c.stage ≡ stage_advised x.party_state.helped w.control_state.published r (control.advice_of (after_count (pos 0) w.control_state))) × (b ≡ after_count (pos 0) w.control_state) × (t' ≡ w.tables)
        → IsStep cmp hash gives w p x b t' c (label_of p ev c.stage)
    recounts r f had near h =
        let (mode, claim, follows) = advised hash x.call x.party_state.helped w.control_state.published r (control.advice_of (after_count (pos 0) w.control_state)) had in
        settled cmp total hash lawful gives w k p x at c ev event.Silent _ b (after_count (pos 0) w.control_state) t' w.tables h.0 h.1 h.2 h.3
        (is_counting cmp total hash lawful gives w k p x at c (AtRecount r) r 0 0 (pos 0) f refl refl near refl (omega arith) (ap mode_of_stage h.1 ∙ mode) (ap held_of_stage h.1 ∙ claim) had.writes (subst (FollowsStage hash x.call) (sym h.1) follows))

    -- a growth that was advised
    pub begins : (e : ℕ) (r : Outcome K V) → x.party_state.stage ≡ AtBegin e r → HasDecided x.call r → (a : BeginOutcome) × BeginGives PlaceGives x.party_state.processors e w.control_state w.tables a b t' × (ev ≡ event_begun e a) × (c.stage ≡ stage_begun e r a) → IsStep cmp hash gives w p x b t' c (label_of p ev c.stage)
    begins e r f had (begin.Begun, gave, q, g) =
        settled cmp total hash lawful gives w k p x at c ev (event.Placed (e + 1)) (AtHelp (AtBoard e) (ThenRecount r)) b (after_begin e w.control_state) t' t' q g gave.1 refl
        (places (AtBegin e r) e x.party_state.processors t' f gave.0 gave.2 refl (ap mode_of_stage g) (ap held_of_stage g) had.writes (subst (FollowsStage hash x.call) (sym g) had))
    begins e r f had (begin.Refused, gave, q, g) =
        settled cmp total hash lawful gives w k p x at c ev event.Silent (AtDone r) b w.control_state t' w.tables q g gave.1 (refused_place w.tables (e + 1) (Some x.party_state.processors) t' gave.2)
        (quiet cmp total hash lawful gives w k p x at c (AtBegin e r) f (ap mode_of_stage g ∙ done_mode x.call r had.reply) (ap held_of_stage g) had.writes (subst (FollowsStage hash x.call) (sym g) (done_follows hash x.call r had)))
    begins e r f had (begin.Busy, gave, q, g) =
        settled cmp total hash lawful gives w k p x at c ev event.Silent (AtRecount r) b w.control_state t' w.tables q g gave.1 gave.2
        (quiet cmp total hash lawful gives w k p x at c (AtBegin e r) f (ap mode_of_stage g) (ap held_of_stage g) had.writes (subst (FollowsStage hash x.call) (sym g) had))

    -- growing to table n
    pub grows : (n : ℕ) (u : GrowFor K V) → x.party_state.stage ≡ AtGrow n u → FollowsGrowFor x.call u
        → MatchOption (grows_from n w.control_state) ((ev ≡ event.Silent) × (c.stage ≡ stage_grown u) × (b ≡ w.control_state) × (t' ≡ w.tables)) (λ e. (a : BeginOutcome) × BeginGives PlaceGives x.party_state.processors e w.control_state w.tables a b t' × (ev ≡ event_growing e u a) × (c.stage ≡ stage_growing e n u a))
        → IsStep cmp hash gives w p x b t' c (label_of p ev c.stage)
    grows n u f had h = by_table (grows_from n w.control_state) h
      where
        ends : (ev' : Event) → ev ≡ ev' → ev' ≡ event.Silent → c.stage ≡ stage_grown u → b ≡ w.control_state → t' ≡ w.tables → IsStep cmp hash gives w p x b t' c (label_of p ev c.stage)
        ends ev' q s g y z =
            let (mode, claim, follows) = grown hash x.call u had in
            settled cmp total hash lawful gives w k p x at c ev event.Silent (stage_grown u) b w.control_state t' w.tables (q ∙ s) g y z
            (quiet cmp total hash lawful gives w k p x at c (AtGrow n u) f (ap mode_of_stage g ∙ mode) (ap held_of_stage g ∙ claim) (growing_writes x.call u had) (subst (FollowsStage hash x.call) (sym g) follows))

        not_grown : (v : GrowFor K V) (e : ℕ) → u ≡ v → can_begin e w.control_state.published w.control_state.growth ≡ true → ev ≡ event_not_grown v → c.stage ≡ stage_not_grown v → b ≡ w.control_state → t' ≡ w.tables → IsStep cmp hash gives w p x b t' c (label_of p ev c.stage)
        not_grown (ForInsert r) e is can q g y z =
            let decided : HasDecided x.call r = subst (FollowsGrowFor x.call) is had in
            settled cmp total hash lawful gives w k p x at c ev event.Silent (AtCount r) b w.control_state t' w.tables q g y z
            (quiet cmp total hash lawful gives w k p x at c (AtGrow n u) f (ap mode_of_stage g ∙ ap mode_of_grow_for (sym is)) (ap held_of_stage g) decided.writes (subst (FollowsStage hash x.call) (sym g) decided))
        not_grown ForReserve e is can q g y z =
            let (m, reserve) = subst (FollowsGrowFor x.call) is had in
            let (there, idle, below) = can_begin_is e w.control_state.published w.control_state.growth can in
            settled cmp total hash lawful gives w k p x at c ev event.Refused (AtDone OutcomeRefused) b w.control_state t' w.tables q g y z (record {
              transition = IsRefused;
              can = (x.call, calls cmp total hash lawful gives w k p x at c, in_claim cmp total hash lawful gives w k p x at c (AtGrow n u) f, subst (RefusedAt cmp hash gives (state_of w) x.call) (sym (in_mode cmp total hash lawful gives w k p x at c (AtGrow n u) f ∙ ap mode_of_grow_for is)) (m, e, reserve, refl, refl, there, ap (λ g. growth_of g w.tables) idle, below));
              is = is_refused cmp hash gives w p x at c (ap mode_of_stage g) (ap held_of_stage g ∙ sym (ap held_of_stage f));
              follows = subst (FollowsStage hash x.call) (sym g) tt;
              frame = same_frame cmp hash gives w k;
            })

        by_start : (e : ℕ) (a : BeginOutcome) → BeginGives PlaceGives x.party_state.processors e w.control_state w.tables a b t' → ev ≡ event_growing e u a → c.stage ≡ stage_growing e n u a → IsStep cmp hash gives w p x b t' c (label_of p ev c.stage)
        by_start e begin.Begun gave q g =
            settled cmp total hash lawful gives w k p x at c ev (event.Placed (e + 1)) (AtHelp (AtBoard e) (ThenGrow n u)) b (after_begin e w.control_state) t' t' q g gave.1 refl
            (places (AtGrow n u) e x.party_state.processors t' f gave.0 gave.2 refl (ap mode_of_stage g) (ap held_of_stage g) (growing_writes x.call u had) (subst (FollowsStage hash x.call) (sym g) had))
        by_start e begin.Refused gave q g = not_grown u e refl gave.0 q g gave.1 (refused_place w.tables (e + 1) (Some x.party_state.processors) t' gave.2)
        by_start e begin.Busy gave q g = ends event.Silent q refl g gave.1 gave.2

        by_table : (o : Option ℕ) → MatchOption o ((ev ≡ event.Silent) × (c.stage ≡ stage_grown u) × (b ≡ w.control_state) × (t' ≡ w.tables)) (λ e. (a : BeginOutcome) × BeginGives PlaceGives x.party_state.processors e w.control_state w.tables a b t' × (ev ≡ event_growing e u a) × (c.stage ≡ stage_growing e n u a))
            → IsStep cmp hash gives w p x b t' c (label_of p ev c.stage)
        by_table None g = ends event.Silent g.0 refl g.1 g.2 g.3
        by_table (Some e) (a, gave, q, g) = by_start e a gave q g
