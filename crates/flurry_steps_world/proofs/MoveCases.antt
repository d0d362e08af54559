-- Steps that move a bin.
use Rattle.std.specs.Prelude.{ℕ, suc, ◌+◌, ◌-◌, ◌^◌, ◌≤◌, ◌<◌, ◌==◌, ◌&&◌, nat_lt, Bool, true, false, cond, List, [], ◌∷◌, length, slice_get, Option, Some, None, is_some, if◌then◌else◌, ◌≡◌}
use Rattle.std.specs.declared.cmp.Ordering.{Ordering}
use Rattle.std.specs.Cmp.{IsTotalOrder}
use Rattle.std.proofs.Common.{arith, refl, sym, ◌∙◌, ap, subst, inl, inr}
use Rattle.std.proofs.lemmas.Bool.{ltb-true}
use Rattle.flurry_bins_slots.specs.Slot as slots
use Rattle.flurry_bins_slots.specs.Slot.{SlotState, Content, IsLive, HasMoved, IsUnborn, IsSlot, IsLiveIn, IsContent, AreHalves, IfLive, half}
use Rattle.flurry_steps_control.specs.Claim.{ClaimState, next_of, moved_on}
use Rattle.flurry_steps_control.specs.Control.{ControlState}
use Rattle.flurry_steps_stages.specs.Help.{Moving}
use Rattle.flurry_steps_stages.specs.Stage.{Resume, AtHelp}
use Rattle.flurry_steps.specs.Party.{PartyState, with_stage}
use Rattle.flurry_steps.specs.PartySlots.{MoveGives, moved_stage}
use Rattle.flurry_steps_sweep.specs.declared.step.Event.{Event}
use Rattle.flurry_steps_sweep.specs.declared.step.Event.TheVariants as event
use Rattle.flurry_steps_theory.specs.Map.{same}
use Rattle.flurry_steps_theory.specs.Bin as bin
use Rattle.flurry_steps_theory.specs.Machine as machine
use Rattle.flurry_steps_theory.specs.Machine.{Live, Moved, Moves, update2}
use Rattle.flurry_steps_theory.specs.Invariant.{is_live}
use Rattle.flurry_steps_theory.specs.declared.Label.TheVariants as label
use Rattle.flurry_steps_world.specs.Entries.{slot_of, machine_entries, IsHashed}
use Rattle.flurry_steps_world.specs.Tables.{Tables, slots_of, place_at, content_at, put_place}
use Rattle.flurry_steps_world.specs.World.{PartyRecord, WorldState, state_of, mode_of_stage, machine_claim, told_of_stage, FollowsResume, FollowsStage, IsWorld}
use Rattle.flurry_steps_world.specs.Steps.{label_of}
use Rattle.flurry_steps_world.proofs.StateLaws.{held_of_stage}
use Rattle.flurry_steps_world.proofs.EntryLaws.{IsHashed-filter, low-entries, high-entries}
use Rattle.flurry_steps_world.proofs.TableLaws.{content_of_place, place_at-put_other, AreTables-put, length_of_put_slots}
use Rattle.flurry_steps_world.proofs.TransitionLaws.{is_moved}
use Rattle.flurry_steps_world.proofs.HomeLaws.{low_unborn, high_unborn, unborn_content, put_content}
use Rattle.flurry_steps_world.proofs.ClaimCases.{helper_writes}
use Rattle.flurry_steps_world.proofs.Frames.{same_growth, IsStep}
use Rattle.flurry_steps_world.proofs.Cases.{in_mode, in_claim, no_lookup}
use Rattle.flurry_base.specs.declared.verdict.Verdict.{Verdict}

none_is_not_some : {e : ℕ} → None ≡ Some e → ⊥
none_is_not_some h = cc

pub no_slots : {X : Type 0} (a b : List X) → length a ≡ length b → a ≡ [] → b ≡ []
no_slots a [] h e = refl
no_slots a (y ∷ b) h e = let none : length a ≡ 0 = ap length e in absurd (omega (arith, h, none))

module _ {K V F S : Type 0} (cmp : K → K → Ordering) (total : IsTotalOrder cmp) (hash : K → ℕ) (lawful : (j k : K) → same cmp j k ≡ true → hash j ≡ hash k) (gives : F → K → Option V → Verdict V → Type 0) (w : WorldState K V F S) (k : IsWorld cmp hash gives w) (p : ℕ) (x : PartyRecord K V F) (at : slice_get w.party_records p ≡ Some x) (c : PartyState K V F) where
  module _ (m : ClaimState) (a : Resume K V F) (f : x.party_state.stage ≡ AtHelp (Moving m) a) (had : FollowsResume x.call a) (e i : ℕ) (next : next_of m ≡ Some (e, i)) (q low high : SlotState K V)
      (q_at : place_at w.tables e i ≡ Some q) (low_at : place_at w.tables (e + 1) i ≡ Some low) (high_at : place_at w.tables (e + 1) (i + 2 ^ e) ≡ Some high) (inside : IsSlot cmp q) where
    abbrev plain_entries : machine.Claim
    plain_entries = machine_claim m

    holds : (state_of w).claim p ≡ Some plain_entries
    holds = in_claim cmp total hash lawful gives w k p x at c (AtHelp (Moving m) a) f

    claim_ok : (w.control_state.published ≡ Some m.range.table) × (m.range.low < m.range.high) × (m.range.low ≤ m.left) × (m.left ≤ m.range.high) × (m.range.high ≤ 2 ^ m.range.table)
    claim_ok = k.state.1.cut.claims p plain_entries holds

    -- the bin that is moved next
    pub record IsNext : Type 0 where
      pub table : e ≡ m.range.table
      pub left : m.left ≡ suc i
      pub above : m.range.low ≤ i

    is_next : IsNext
    is_next = by_test (nat_lt m.range.low m.left) refl next
      where
        by_test : (b : Bool) → nat_lt m.range.low m.left ≡ b → cond {A = Option (ℕ × ℕ)} b (Some (m.range.table, m.left - 1)) None ≡ Some (e, i) → IsNext
        by_test true g h =
            let less : m.range.low < m.left = ltb-true m.range.low m.left g in
            let same_table : e ≡ m.range.table = ap (λ o. table_or o) (sym h) in
            let same_index : i ≡ m.left - 1 = ap (λ o. index_or o) (sym h) in
            record { table = same_table; left = omega (arith, same_index, less); above = omega (arith, same_index, less) }
          where
            table_or : Option (ℕ × ℕ) → ℕ
            table_or None = e
            table_or (Some b) = b.0

            index_or : Option (ℕ × ℕ) → ℕ
            index_or None = i
            index_or (Some b) = b.1
        by_test false g h = cc

    at_table : w.control_state.published ≡ Some e
    at_table = claim_ok.0 ∙ ap Some (sym is_next.table)

    next_table : e + 1 ≡ suc e
    next_table = omega arith

    in_table : i < 2 ^ e
    in_table = let top : m.range.high ≤ 2 ^ e = subst (λ n. m.range.high ≤ 2 ^ n) (sym is_next.table) claim_ok.4 in omega (arith, top, claim_ok.3, is_next.left)

    made : is_some (state_of w).published ≡ true
    made = ap is_some at_table

    from : (state_of w).start ≤ e
    from = (k.state.1.tables.from e at_table).0

    bin_live : is_live ((state_of w).slot e i) ≡ true
    bin_live = subst (λ n. is_live ((state_of w).slot n i) ≡ true) (sym is_next.table) (k.state.1.cut.left_live p plain_entries i holds is_next.above (omega (arith, is_next.left)))

    q_here : content_at w.tables e i ≡ q.content
    q_here = content_of_place w.tables e i q q_at

    low_none : low.content ≡ IsUnborn
    low_none = sym (content_of_place w.tables (e + 1) i low low_at) ∙ unborn_content (content_at w.tables (e + 1) i) (ap (λ n. slot_of (content_at w.tables n i)) next_table ∙ low_unborn cmp hash k.state.0 (state_of w) e i k.state.1.tables made from in_table bin_live)

    high_none : high.content ≡ IsUnborn
    high_none = sym (content_of_place w.tables (e + 1) (i + 2 ^ e) high high_at) ∙ unborn_content (content_at w.tables (e + 1) (i + 2 ^ e)) (ap (λ n. slot_of (content_at w.tables n (i + 2 ^ e))) next_table ∙ high_unborn cmp hash k.state.0 (state_of w) e i k.state.1.tables made from in_table bin_live)

    q_is : (q.table ≡ e) × (q.index ≡ i)
    q_is = k.tables.order e i q q_at

    low_is : (low.table ≡ e + 1) × (low.index ≡ i)
    low_is = k.tables.order (e + 1) i low low_at

    high_is : (high.table ≡ e + 1) × (high.index ≡ i + 2 ^ e)
    high_is = k.tables.order (e + 1) (i + 2 ^ e) high high_at

    halves : AreHalves q low high
    halves = record {
      low_table = low_is.0 ∙ ap (λ n. n + 1) (sym q_is.0);
      high_table = high_is.0 ∙ ap (λ n. n + 1) (sym q_is.0);
      low_index = low_is.1 ∙ sym q_is.1;
      high_index = high_is.1 ∙ ap (λ n. n + 2 ^ e) (sym q_is.1) ∙ ap (λ n. q.index + 2 ^ n) (sym q_is.0);
      low_unborn = low_none;
      high_unborn = high_none;
    }

    live_content : (z : Content K V) → q.content ≡ z → is_live (slot_of z) ≡ true
    live_content z h = ap (λ y. is_live (slot_of y)) (sym (q_here ∙ h)) ∙ bin_live

    module _ (q' low' high' : SlotState K V) where
      abbrev moved_tables : Tables K V
      moved_tables = put_place (put_place (put_place w.tables e i q') (e + 1) i low') (e + 1) (i + 2 ^ e) high'

      other_table : e + 1 ≡ e → ⊥
      other_table h = omega (arith, h)

      other_index : i + 2 ^ e ≡ i → ⊥
      other_index h = omega (arith, h, in_table)

      low_there : place_at (put_place w.tables e i q') (e + 1) i ≡ Some low
      low_there = place_at-put_other w.tables e i q' (e + 1) i (λ h _. other_table h) ∙ low_at

      high_there : place_at (put_place (put_place w.tables e i q') (e + 1) i low') (e + 1) (i + 2 ^ e) ≡ Some high
      high_there = place_at-put_other (put_place w.tables e i q') (e + 1) i low' (e + 1) (i + 2 ^ e) (λ _ h. other_index h) ∙ place_at-put_other w.tables e i q' (e + 1) (i + 2 ^ e) (λ h _. other_table h) ∙ high_at

      contents : (d j : ℕ) → content_at moved_tables d j ≡ (if e + 1 == d && i + 2 ^ e == j then high'.content else (if e + 1 == d && i == j then low'.content else (if e == d && i == j then q'.content else content_at w.tables d j)))
      contents d j =
          put_content (put_place (put_place w.tables e i q') (e + 1) i low') (e + 1) (i + 2 ^ e) high' (ap is_some high_there) d j
          ∙ ap (λ z. if e + 1 == d && i + 2 ^ e == j then high'.content else z) (put_content (put_place w.tables e i q') (e + 1) i low' (ap is_some low_there) d j
          ∙ ap (λ z. if e + 1 == d && i == j then low'.content else z) (put_content w.tables e i q' (ap is_some q_at) d j))

      sizes : (d : ℕ) → length (slots_of moved_tables d) ≡ length (slots_of w.tables d)
      sizes d = length_of_put_slots (put_place (put_place w.tables e i q') (e + 1) i low') (e + 1) (i + 2 ^ e) high' d ∙ length_of_put_slots (put_place w.tables e i q') (e + 1) i low' d ∙ length_of_put_slots w.tables e i q' d

      moves : (b : slots.Live K V) (t' : Tables K V) → q.content ≡ IsLive b → t' ≡ moved_tables → q' ≡ record q { content = HasMoved } → low' ≡ record low { content = IsLive (half q.table 0 b) } → high' ≡ record high { content = IsLive (half q.table 1 b) }
          → c ≡ with_stage x.party_state (moved_stage x.party_state.stage) → IsStep cmp hash gives w p x w.control_state t' c (label.Moved e i)
      moves b t' live after q_after low_after high_after goes = subst (λ z. IsStep cmp hash gives w p x w.control_state z c (label.Moved e i)) (sym after) (subst (λ z. IsStep cmp hash gives w p x w.control_state moved_tables c (label.Moved z i)) (sym is_next.table) (record {
        transition = Moves plain_entries i (machine_entries b.plain_entries) b.writes;
        can = (holds, is_next.above, is_next.left, ap (λ n. slot_of (content_at w.tables n i)) (sym is_next.table) ∙ ap slot_of (q_here ∙ live), no_lookup cmp total hash lawful gives w k p x at c (helper_writes x.call a had));
        is = is_moved cmp hash gives w p x at c plain_entries i (machine_entries b.plain_entries) b.writes moved_tables (same_growth w.control_state.growth w.tables moved_tables refl) (λ d j. subst (λ n. slot_of (content_at moved_tables d j) ≡ update2 (update2 (update2 (state_of w).slot n i Moved) (suc n) i (Live (bin.half hash (suc n) i (machine_entries b.plain_entries)) b.writes)) (suc n) (i + 2 ^ n) (Live (bin.half hash (suc n) (i + 2 ^ n) (machine_entries b.plain_entries)) b.writes) d j) is_next.table (slots_after d j)) (mode_after) claim_after;
        follows = subst (FollowsStage hash x.call) (sym stage_after) had;
        frame = record {
          hashed = λ d j l h. hashed_in d j l (e + 1 == d && i + 2 ^ e == j) (e + 1 == d && i == j) (e == d && i == j) (sym (contents d j) ∙ h);
          control_state = k.control_state;
          tables = AreTables-put _ (e + 1) (i + 2 ^ e) high' high (AreTables-put _ (e + 1) i low' low (AreTables-put w.tables e i q' q k.tables q_at (ap (λ z. z.table) q_after) (ap (λ z. z.index) q_after)) low_there (ap (λ z. z.table) low_after) (ap (λ z. z.index) low_after)) high_there (ap (λ z. z.table) high_after) (ap (λ z. z.index) high_after);
          no_table = λ h. absurd (none_is_not_some (sym h ∙ at_table));
          next = λ g h z. k.next g h (no_slots _ _ (sizes (suc g)) z);
          running = k.running;
          over = k.over;
        };
      }))
        where
          stage_after : c.stage ≡ AtHelp (Moving (moved_on m)) a
          stage_after = ap (λ z. z.stage) goes ∙ ap moved_stage f

          mode_after : mode_of_stage c.stage ≡ (state_of w).mode p
          mode_after = ap mode_of_stage stage_after ∙ sym (in_mode cmp total hash lawful gives w k p x at c (AtHelp (Moving m) a) f)

          claim_after : held_of_stage c.stage ≡ (Some (record { table = m.range.table; low = m.range.low; left = i; high = m.range.high }), told_of_stage x.party_state.stage)
          claim_after =
              ap held_of_stage stage_after ∙ ap (λ n. (Some (record { table = m.range.table; low = m.range.low; left = n; high = m.range.high }), None)) (let n : m.left - 1 ≡ i = omega (arith, is_next.left) in n)
              ∙ ap (λ o. (Some (record { table = m.range.table; low = m.range.low; left = i; high = m.range.high }), o)) (sym (ap told_of_stage f))

          inside_live : IsLiveIn cmp q.table q.index b
          inside_live = subst (IsContent cmp q.table q.index) live inside.content

          lies : IsLiveIn cmp e i b
          lies = subst (λ n. IsLiveIn cmp n i b) q_is.0 (subst (λ n. IsLiveIn cmp q.table n b) q_is.1 inside_live)

          hashes : IsHashed hash b.plain_entries
          hashes = k.hashed e i b (q_here ∙ live)

          low_content : slot_of low'.content ≡ Live (bin.half hash (suc e) i (machine_entries b.plain_entries)) b.writes
          low_content = ap (λ z. slot_of z.content) low_after ∙ ap (λ n. slot_of (IsLive (half n 0 b))) q_is.0 ∙ ap (λ es. Live es b.writes) (low-entries hash e i b.plain_entries hashes lies.region)

          high_content : slot_of high'.content ≡ Live (bin.half hash (suc e) (i + 2 ^ e) (machine_entries b.plain_entries)) b.writes
          high_content = ap (λ z. slot_of z.content) high_after ∙ ap (λ n. slot_of (IsLive (half n 1 b))) q_is.0 ∙ ap (λ es. Live es b.writes) (high-entries hash e i b.plain_entries hashes lies.region)

          slots_after : (d j : ℕ) → slot_of (content_at moved_tables d j) ≡ update2 (update2 (update2 (state_of w).slot e i Moved) (suc e) i (Live (bin.half hash (suc e) i (machine_entries b.plain_entries)) b.writes)) (suc e) (i + 2 ^ e) (Live (bin.half hash (suc e) (i + 2 ^ e) (machine_entries b.plain_entries)) b.writes) d j
          slots_after d j = ap slot_of (contents d j) ∙ through (e + 1 == d && i + 2 ^ e == j) (e + 1 == d && i == j) (e == d && i == j) ∙ ap (λ n. if n == d && i + 2 ^ e == j then Live (bin.half hash (suc e) (i + 2 ^ e) (machine_entries b.plain_entries)) b.writes else (if n == d && i == j then Live (bin.half hash (suc e) i (machine_entries b.plain_entries)) b.writes else (if e == d && i == j then Moved else (state_of w).slot d j))) next_table
            where
              through : (y z u : Bool) → slot_of (if y then high'.content else (if z then low'.content else (if u then q'.content else content_at w.tables d j)))
                  ≡ (if y then Live (bin.half hash (suc e) (i + 2 ^ e) (machine_entries b.plain_entries)) b.writes else (if z then Live (bin.half hash (suc e) i (machine_entries b.plain_entries)) b.writes else (if u then Moved else (state_of w).slot d j)))
              through true z u = high_content
              through false true u = low_content
              through false false true = ap (λ z. slot_of z.content) q_after
              through false false false = refl

          hashed_in : (d j : ℕ) (l : slots.Live K V) (y z u : Bool) → (if y then high'.content else (if z then low'.content else (if u then q'.content else content_at w.tables d j))) ≡ IsLive l → IsHashed hash l.plain_entries
          hashed_in d j l true z u h = same_hashed (half q.table 1 b) (ap (λ z. z.content) (sym high_after) ∙ h) (IsHashed-filter hash _ b.plain_entries hashes)
            where
              same_hashed : (y : slots.Live K V) → IsLive y ≡ IsLive l → IsHashed hash y.plain_entries → IsHashed hash l.plain_entries
              same_hashed y g s = let one : y ≡ l = cc in subst (λ z. IsHashed hash z.plain_entries) one s
          hashed_in d j l false true u h = same_hashed (half q.table 0 b) (ap (λ z. z.content) (sym low_after) ∙ h) (IsHashed-filter hash _ b.plain_entries hashes)
            where
              same_hashed : (y : slots.Live K V) → IsLive y ≡ IsLive l → IsHashed hash y.plain_entries → IsHashed hash l.plain_entries
              same_hashed y g s = let one : y ≡ l = cc in subst (λ z. IsHashed hash z.plain_entries) one s
          hashed_in d j l false false true h = let no : HasMoved ≡ IsLive l = ap (λ z. z.content) (sym q_after) ∙ h in cc
          hashed_in d j l false false false h = k.hashed d j l h

      pub at_move : (ev : Event) (b : ControlState) (t' : Tables K V) → MoveGives x.party_state q low high ev c q' low' high' → b ≡ w.control_state → t' ≡ moved_tables → IsStep cmp hash gives w p x b t' c (label_of p ev c.stage)
      at_move (event.Moved d j) b t' (h, g, (_, into), goes) y z = by_content q.content refl into
        where
          by_content : (u : Content K V) → q.content ≡ u → IfLive u (λ l. (q' ≡ record q { content = HasMoved }) × (low' ≡ record low { content = IsLive (half q.table 0 l) }) × (high' ≡ record high { content = IsLive (half q.table 1 l) })) → IsStep cmp hash gives w p x b t' c (label_of p (event.Moved d j) c.stage)
          by_content (IsLive l) live (q_after, low_after, high_after) =
              subst (λ v. IsStep cmp hash gives w p x v t' c (label.Moved d j)) (sym y)
              (subst (λ v. IsStep cmp hash gives w p x w.control_state t' c (label.Moved v j)) (sym (h ∙ q_is.0))
              (subst (λ v. IsStep cmp hash gives w p x w.control_state t' c (label.Moved e v)) (sym (g ∙ q_is.1)) (moves l t' live z q_after low_after high_after goes)))
          by_content HasMoved moved never = absurd never
          by_content IsUnborn none never = absurd never
      at_move event.Silent b t' (_, _, _, inl (moved, _)) y z = let no : is_live (slot_of {K = K} {V = V} HasMoved) ≡ true = live_content HasMoved moved in cc
      at_move event.Silent b t' (_, _, _, inr (inl none, _)) y z = let no : is_live (slot_of {K = K} {V = V} IsUnborn) ≡ true = live_content IsUnborn none in cc
      at_move event.Silent b t' (_, _, _, inr (inr clash, _)) y z = absurd (by_content q.content clash)
        where
          by_content : (u : Content K V) → IfLive u (λ l. AreHalves q low high → ⊥) → ⊥
          by_content (IsLive l) apart = apart halves
          by_content HasMoved apart = apart
          by_content IsUnborn apart = apart
      at_move ev b t' g y z = absurd g
