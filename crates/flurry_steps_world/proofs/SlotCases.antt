-- Steps at the bin of a party's key.
use Rattle.std.specs.Prelude.{ℕ, suc, ◌-◌, ◌^◌, ◌%◌, ◌≤◌, ◌==◌, ◌&&◌, Bool, true, false, [], slice_get, Option, Some, None, IsSome, is_some, if◌then◌else◌, ◌≡◌}
use Rattle.std.specs.declared.cmp.Ordering.{Ordering}
use Rattle.std.specs.Cmp.{IsTotalOrder}
use Rattle.std.proofs.Common.{arith, refl, sym, ◌∙◌, ap, subst}
use Rattle.std.proofs.lemmas.Bool.{eqb-true}
use Rattle.flurry_bins_slots.specs.Slot as slots
use Rattle.flurry_bins_slots.specs.Slot.{SlotState, Content, IsLive, HasMoved, IsUnborn, IsLiveIn, IsContent}
use Rattle.flurry_steps_stages.specs.Stage.{Task, AtBin, outcome_in, task_of_call}
use Rattle.flurry_steps.specs.Party.{PartyState}
use Rattle.flurry_steps.specs.PartySlots as party
use Rattle.flurry_steps.specs.PartySlots.{DecidesAt, LiveGives, ContentGives}
use Rattle.flurry_steps_sweep.specs.declared.step.Event.{Event}
use Rattle.flurry_steps_sweep.specs.declared.step.Event.TheVariants as event
use Rattle.flurry_base.specs.OneKey.{key_of}
use Rattle.flurry_base.specs.declared.verdict.Verdict.{Verdict}
use Rattle.flurry_steps_theory.specs.Map.{same}
use Rattle.flurry_steps_theory.specs.Machine.{Live, Looking, Decides, Passes, IsRefused, RefusedAt, update2}
use Rattle.flurry_steps_theory.specs.Invariant.{is_live, key_in, writes_in, NamesNoUnborn}
use Rattle.flurry_steps_theory.proofs.NoUnbornBin.{looks_at}
use Rattle.flurry_steps_world.specs.Entries.{slot_of, machine_entries, IsHashed}
use Rattle.flurry_steps_world.specs.Tables.{Tables, AreTables, slots_of, content_at}
use Rattle.flurry_steps_world.specs.World.{PartyRecord, WorldState, state_of, mode_of_stage, FollowsStage, IsWorld}
use Rattle.flurry_steps_world.specs.Steps.{label_of, decide_label}
use Rattle.flurry_steps_world.proofs.StateLaws.{held_of_stage}
use Rattle.flurry_steps_world.proofs.CallLaws.{key_of_task}
use Rattle.flurry_steps_world.proofs.DecisionLaws.{Decision, decides, refused, moved_mode, moved_claim, moved_follows}
use Rattle.flurry_steps_world.proofs.TransitionLaws.{is_decided, is_passed, is_refused}
use Rattle.flurry_steps_world.proofs.PlaceLaws.{same_live}
use Rattle.flurry_steps_world.proofs.HomeLaws.{at_home}
use Rattle.flurry_steps_world.proofs.Frames.{same_growth, same_frame, running_on, over_on, IsStep}
use Rattle.flurry_steps_world.proofs.Cases.{calls, in_mode, in_claim}

-- the tables t' are t with another content at one slot
pub record Put {K V : Type 0} (t : Tables K V) (e i : ℕ) (c : Content K V) (t' : Tables K V) : Type 0 where
  pub contents : (d j : ℕ) → content_at t' d j ≡ (if e == d && i == j then c else content_at t d j)
  pub tables : AreTables t'
  pub boards : t'.boards ≡ t.boards
  pub made : (d : ℕ) → slots_of t' d ≡ [] → slots_of t d ≡ []
  pub no_table : (d : ℕ) → slots_of t d ≡ [] → slots_of t' d ≡ []

-- where that is what stood there, each slot has what it had
pub put_nothing : {K V : Type 0} (t : Tables K V) (e i : ℕ) (c : Content K V) (t' : Tables K V) → Put t e i c t' → c ≡ content_at t e i → (d j : ℕ) → content_at t' d j ≡ content_at t d j
put_nothing t e i c t' put stays d j = put.contents d j ∙ by_place (e == d) (i == j) refl refl
  where
    by_place : (a b : Bool) → (e == d) ≡ a → (i == j) ≡ b → (if a && b then c else content_at t d j) ≡ content_at t d j
    by_place true true g h = stays ∙ ap (λ n. content_at t n i) (eqb-true e d g) ∙ ap (content_at t d) (eqb-true i j h)
    by_place true false g h = refl
    by_place false b g h = refl

module _ {K V F S : Type 0} (cmp : K → K → Ordering) (total : IsTotalOrder cmp) (hash : K → ℕ) (lawful : (j k : K) → same cmp j k ≡ true → hash j ≡ hash k) (gives : F → K → Option V → Verdict V → Type 0) (w : WorldState K V F S) (k : IsWorld cmp hash gives w) (p : ℕ) (x : PartyRecord K V F) (at : slice_get w.party_records p ≡ Some x) (c : PartyState K V F) where
  module _ (t : Task K V F) (e : ℕ) (f : x.party_state.stage ≡ AtBin t e) (task : task_of_call x.call ≡ Some t) (q : SlotState K V) (here : content_at w.tables e (x.party_state.hash % 2 ^ e) ≡ q.content) (inside : IsContent cmp e (x.party_state.hash % 2 ^ e) q.content) where
    looking : (state_of w).mode p ≡ Looking e
    looking = in_mode cmp total hash lawful gives w k p x at c (AtBin t e) f

    free : (state_of w).claim p ≡ None
    free = in_claim cmp total hash lawful gives w k p x at c (AtBin t e) f

    of_call : (state_of w).call p ≡ Some x.call
    of_call = calls cmp total hash lawful gives w k p x at c

    made_from : (is_some w.control_state.published ≡ true) × ((state_of w).start ≤ e)
    made_from = let n = subst (λ m. NamesNoUnborn hash (is_some w.control_state.published) k.state.0 (state_of w).start ((state_of w).call p) m) looking (k.state.1.named p) in (n.0, n.1)

    -- the bin that it decides at
    decides_live : (j : K) (b d : slots.Live K V) (t' : Tables K V) → key_of x.call ≡ Some j → q.content ≡ IsLive b → DecidesAt cmp gives x.party_state.hash t e b c.stage d → Put w.tables e (x.party_state.hash % 2 ^ e) (IsLive d) t' → IsStep cmp hash gives w p x w.control_state t' c (decide_label p (outcome_in c.stage))
    decides_live j b d t' key live did put = subst (λ z. IsStep cmp hash gives w p x w.control_state t' c (decide_label p z)) (sym decision.said) (record {
      transition = Decides x.call j e (machine_entries b.plain_entries) b.writes decision.reply (machine_entries d.plain_entries) d.writes;
      can = (of_call, key, looking, free, at_slot, decision.did, decision.in_region);
      is = is_decided cmp hash gives w p x at c x.call j e (machine_entries b.plain_entries) b.writes decision.reply (machine_entries d.plain_entries) d.writes t' (same_growth w.control_state.growth w.tables t' put.boards) slots_after decision.mode (decision.claim ∙ sym (ap held_of_stage f));
      follows = decision.follows;
      frame = record {
        hashed = λ g i l h. hashed_in g i l (e == g && x.party_state.hash % 2 ^ e == i) (sym (put.contents g i) ∙ h);
        control_state = k.control_state;
        tables = put.tables;
        no_table = λ h g. put.no_table g (k.no_table h g);
        next = λ g h z. k.next g h (put.made (suc g) z);
        running = running_on cmp hash gives w t' k put.boards;
        over = over_on cmp hash gives w t' k put.boards;
      };
    })
      where
        own : x.party_state.hash ≡ hash j
        own = (k.party_records p x at).own_hash j key

        index : x.party_state.hash % 2 ^ e ≡ hash j % 2 ^ e
        index = ap (λ n. n % 2 ^ e) own

        at_slot : (state_of w).slot e (hash j % 2 ^ e) ≡ Live (machine_entries b.plain_entries) b.writes
        at_slot = ap (λ n. slot_of (content_at w.tables e n)) (sym index) ∙ ap slot_of (here ∙ live)

        plain_entries : IsLiveIn cmp e (x.party_state.hash % 2 ^ e) b
        plain_entries = subst (IsContent cmp e (x.party_state.hash % 2 ^ e)) live inside

        hashes : IsHashed hash b.plain_entries
        hashes = k.hashed e (x.party_state.hash % 2 ^ e) b (here ∙ live)

        homed : k.state.0 (hash j) ≡ e
        homed = at_home cmp hash k.state.0 (state_of w) (hash j) e k.state.1.tables made_from.0 made_from.1 (ap is_live at_slot)

        room : b.writes ≤ 2 ^ 64 - 1
        room = let most : writes_in ((state_of w).slot (k.state.0 (hash j)) (hash j % 2 ^ k.state.0 (hash j))) ≤ 2 ^ 64 - 1 = k.state.1.numbers.limit j in
            subst (λ n. n ≤ 2 ^ 64 - 1) (ap (λ n. writes_in ((state_of w).slot n (hash j % 2 ^ n))) homed ∙ ap writes_in at_slot) most

        decision : Decision cmp hash gives x.call b c.stage d e (hash j % 2 ^ e)
        decision = decides cmp total hash lawful gives b e (hash j % 2 ^ e) plain_entries.ascends hashes room (subst (λ n. slots.IsLiveIn cmp e n b) index plain_entries).region x.call t j c.stage d task key refl (subst (λ n. DecidesAt cmp gives n t e b c.stage d) own did)

        slots_after : (g i : ℕ) → slot_of (content_at t' g i) ≡ update2 (state_of w).slot e (hash j % 2 ^ e) (Live (machine_entries d.plain_entries) d.writes) g i
        slots_after g i = ap slot_of (put.contents g i) ∙ through (e == g && x.party_state.hash % 2 ^ e == i) ∙ ap (λ n. update2 (state_of w).slot e n (Live (machine_entries d.plain_entries) d.writes) g i) index
          where
            through : (b : Bool) → slot_of (if b then IsLive d else content_at w.tables g i) ≡ (if b then Live (machine_entries d.plain_entries) d.writes else slot_of (content_at w.tables g i))
            through true = refl
            through false = refl

        hashed_in : (g i : ℕ) (l : slots.Live K V) (z : Bool) → (if z then IsLive d else content_at w.tables g i) ≡ IsLive l → IsHashed hash l.plain_entries
        hashed_in g i l true h = subst (λ z. IsHashed hash z.plain_entries) (same_live h) decision.hashed
        hashed_in g i l false h = k.hashed g i l h

    module _ (ev : Event) (content : Content K V) (t' : Tables K V) (put : Put w.tables e (x.party_state.hash % 2 ^ e) content t') where
      nothing_changed : content ≡ q.content → IsStep cmp hash gives w p x w.control_state w.tables c (label_of p ev c.stage) → IsStep cmp hash gives w p x w.control_state t' c (label_of p ev c.stage)
      nothing_changed stays step = record {
        transition = step.transition;
        can = step.can;
        is = record {
          label_is = step.is.label_is;
          steps_are = step.is.steps_are;
          start = step.is.start;
          published = step.is.published;
          growth = same_growth w.control_state.growth w.tables t' put.boards ∙ step.is.growth;
          slot = λ d j. ap slot_of (as_before d j) ∙ step.is.slot d j;
          parties = step.is.parties;
          call = step.is.call;
          mode = step.is.mode;
          claim = step.is.claim;
          told = step.is.told;
          count = step.is.count;
          seen = step.is.seen;
          began_from = step.is.began_from;
        };
        follows = step.follows;
        frame = record {
          hashed = λ d i l h. k.hashed d i l (sym (as_before d i) ∙ h);
          control_state = k.control_state;
          tables = put.tables;
          no_table = λ h g. put.no_table g (k.no_table h g);
          next = λ g h z. k.next g h (put.made (suc g) z);
          running = running_on cmp hash gives w t' k put.boards;
          over = over_on cmp hash gives w t' k put.boards;
        };
      }
        where
          as_before : (d j : ℕ) → content_at t' d j ≡ content_at w.tables d j
          as_before = put_nothing w.tables e (x.party_state.hash % 2 ^ e) content t' put (stays ∙ sym here)

      by_key : (o : Option K) → key_of x.call ≡ o → IsSome o → ContentGives cmp gives x.party_state.hash t e q.content ev c.stage content → IsStep cmp hash gives w p x w.control_state t' c (label_of p ev c.stage)
      by_key None key some gave = absurd (grind (arith, some))
      by_key (Some j) key some gave = by_content q.content refl gave
        where
          own : x.party_state.hash ≡ hash j
          own = (k.party_records p x at).own_hash j key

          at_live : (b : slots.Live K V) → q.content ≡ IsLive b → (a : Event) → ev ≡ a → LiveGives cmp gives x.party_state.hash t e b a c.stage content → IsStep cmp hash gives w p x w.control_state t' c (label_of p ev c.stage)
          at_live b live event.Decide is (d, did, after) = subst (λ z. IsStep cmp hash gives w p x w.control_state t' c (label_of p z c.stage)) (sym is) (decides_live j b d t' key live did (subst (λ z. Put w.tables e (x.party_state.hash % 2 ^ e) z t') after put))
          at_live b live event.Refused is (g, after, may) = nothing_changed (after ∙ sym live) (subst (λ z. IsStep cmp hash gives w p x w.control_state w.tables c (label_of p z c.stage)) (sym is) (record {
            transition = IsRefused;
            can = (
              x.call,
              of_call,
              free,
              subst (RefusedAt cmp hash gives (state_of w) x.call) (sym looking) (
                j,
                machine_entries b.plain_entries,
                b.writes,
                key,
                ap (λ n. slot_of (content_at w.tables e (n % 2 ^ e))) (sym own) ∙ ap slot_of (here ∙ live),
                refused cmp total hash lawful gives b (k.hashed e (x.party_state.hash % 2 ^ e) b (here ∙ live)) x.call t j task key (subst (λ n. party.CanBeRefused cmp gives n t b) own may),
              ),
            );
            is = is_refused cmp hash gives w p x at c (ap mode_of_stage g) (ap held_of_stage g ∙ sym (ap held_of_stage f));
            follows = subst (FollowsStage hash x.call) (sym g) tt;
            frame = same_frame cmp hash gives w k;
          }))
          at_live b live (event.Opened d) is h = absurd h
          at_live b live (event.Placed d) is h = absurd h
          at_live b live (event.Moved d i) is h = absurd h
          at_live b live event.Read is h = absurd h
          at_live b live (event.Wipe _ _) is h = absurd h
          at_live b live (event.Published d) is h = absurd h
          at_live b live event.Silent is h = absurd h

          by_content : (z : Content K V) → q.content ≡ z → ContentGives cmp gives x.party_state.hash t e z ev c.stage content → IsStep cmp hash gives w p x w.control_state t' c (label_of p ev c.stage)
          by_content (IsLive b) live h = at_live b live ev refl h
          by_content HasMoved moved (is, g, after) = nothing_changed (after ∙ sym moved) (subst (λ z. IsStep cmp hash gives w p x w.control_state w.tables c (label_of p z c.stage)) (sym is) (record {
            transition = Passes e;
            can = (x.call, j, of_call, key, looking, ap (λ n. slot_of (content_at w.tables e (n % 2 ^ e))) (sym own) ∙ ap slot_of (here ∙ moved));
            is = is_passed cmp hash gives w p x at c e (ap mode_of_stage g ∙ moved_mode t e) (ap held_of_stage g ∙ moved_claim t e ∙ sym (ap held_of_stage f));
            follows = subst (FollowsStage hash x.call) (sym g) (moved_follows hash x.call t e task);
            frame = same_frame cmp hash gives w k;
          }))
          by_content IsUnborn unborn h = absurd (looks_at cmp total hash lawful gives k.state.0 (state_of w) p e j k.state.1.tables (k.state.1.named p) looking (ap key_in of_call ∙ key) (ap (λ n. slot_of (content_at w.tables e (n % 2 ^ e))) (sym own) ∙ ap slot_of (here ∙ unborn)))

      pub at_bin_step : ContentGives cmp gives x.party_state.hash t e q.content ev c.stage content → IsStep cmp hash gives w p x w.control_state t' c (label_of p ev c.stage)
      at_bin_step = by_key (key_of x.call) refl (key_of_task x.call t task)
