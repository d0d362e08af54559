-- The transitions of the machine, as steps of a world.
use Rattle.std.specs.Prelude.{ℕ, ℤ, pos, ◌+ℤ◌, ◌-ℤ◌, suc, ◌+◌, ◌-◌, ◌^◌, ◌%◌, ◌<◌, ◌==◌, Bool, true, false, cond, ◌&&◌, nat_lt, List, [], ◌∷◌, ◌++◌, length, reverse, slice_get, Option, Some, None, option_map, if◌then◌else◌, unwrap_or, ◌≡◌}
use Rattle.std.specs.declared.cmp.Ordering.{Ordering}
use Rattle.std.proofs.Common.{arith, refl, sym, ◌∙◌, ap}
use Rattle.std.proofs.lemmas.Bool.{eqb-true}
use Rattle.std.proofs.lemmas.Int.{ints}
use Rattle.std.proofs.lemmas.List.{reverse-append, length-set}
use Rattle.std.proofs.lemmas.Option.{slice_get_within}
use Rattle.flurry_steps_theory.proofs.Ranges.{place_here, total-change, total-zero}
use Rattle.flurry_base.specs.declared.reply.KeptReply.{KeptReply}
use Rattle.flurry_steps_theory.specs.Bin.{Entry, half}
use Rattle.flurry_steps_theory.specs.Machine as machine
use Rattle.flurry_steps_theory.specs.Machine.{Mode, Done, Live, Moved, Transition, total, owes_added, owes_removed, mode_after_count, update, update2, effect, next_state, goes, label, is_complete, with_report, Quiet, Counts, Finds, Opens, IsRefused, DecidesEmpty, Passes, Decides, Places, Claims, Moves, Reports, Publishes, Replies, Ends, found_by}
use Rattle.flurry_base.specs.declared.call.Call.{Call}
use Rattle.flurry_base.specs.declared.verdict.Verdict.{Verdict}
use Rattle.flurry_steps_theory.specs.declared.Label.{Label}
use Rattle.flurry_steps_theory.specs.declared.Label.TheVariants as label
use Rattle.flurry_steps_stages.specs.Stage.{last_seen}
use Rattle.flurry_steps.specs.Party.{PartyState}
use Rattle.flurry_steps_world.specs.Entries.{slot_of}
use Rattle.flurry_steps_world.specs.Tables.{Tables, content_at}
use Rattle.flurry_steps_world.specs.World.{PartyRecord, WorldState, state_of, start_of, growth_of, mode_of_stage, mode_in, claim_of_stage, claim_in, told_of_stage, told_in, seen_in, began_from_in, steps_in, history}
use Rattle.flurry_steps_world.specs.Steps.{with_step}
use Rattle.flurry_steps_world.proofs.StateLaws.{IsTransition, held_of_stage, is_step, one_more_step, read_set, same_place}

-- the sum at one number alone
total-own : (f : ℕ → ℕ) (p n : ℕ) → p < n → total (λ q. if p == q then f q else 0) n ≡ f p
total-own f p n l = omega (arith, total-change (λ q. if p == q then f q else 0) (λ _. 0) p n l (λ q ne. grind (arith, eqb-true p q, ne)), total-zero (λ _. 0) n (λ _. refl), place_here (λ _. 0) p (f p))

-- the mode of one party alone is settled
own_settled : {K V : Type 0} (f : ℕ → Mode K V) (p : ℕ) (m : Mode K V) → mode_after_count (f p) ≡ m → (q : ℕ) → update f p m q ≡ cond (p == q) (mode_after_count (f q)) (f q)
own_settled f p m h q = through (p == q) refl
  where
    through : (b : Bool) → (p == q) ≡ b → cond b m (f q) ≡ cond b (mode_after_count (f q)) (f q)
    through true e = sym h ∙ ap (λ n. mode_after_count (f n)) (eqb-true p q e)
    through false e = refl

module _ {K V F S : Type 0} (cmp : K → K → Ordering) (hash : K → ℕ) (gives : F → K → Option V → Verdict V → Type 0) (w : WorldState K V F S) (p : ℕ) (x : PartyRecord K V F) (at : slice_get w.party_records p ≡ Some x) (c : PartyState K V F) where
  begun : (state_of w).call p ≡ Some x.call
  begun = ap (option_map (λ (z : PartyRecord K V F). z.call)) at

  below : p < length w.party_records
  below = slice_get_within w.party_records p x at

  same_claim : held_of_stage c.stage ≡ held_of_stage x.party_state.stage → (q : ℕ) → update (state_of w).claim p (claim_of_stage c.stage) q ≡ (state_of w).claim q
  same_claim plain_entries q = same_place (state_of w).claim p (claim_of_stage c.stage) (ap claim_in at ∙ sym (ap (λ h. h.0) plain_entries)) q

  same_told : held_of_stage c.stage ≡ held_of_stage x.party_state.stage → (q : ℕ) → update (state_of w).told p (told_of_stage c.stage) q ≡ (state_of w).told q
  same_told plain_entries q = same_place (state_of w).told p (told_of_stage c.stage) (ap told_in at ∙ sym (ap (λ h. h.1) plain_entries)) q

  -- nobody is told that was not before
  none_told : told_of_stage c.stage ≡ told_of_stage x.party_state.stage → (q : ℕ) → update (state_of w).told p (told_of_stage c.stage) q ≡ (state_of w).told q
  none_told same q = same_place (state_of w).told p (told_of_stage c.stage) (ap told_in at ∙ sym same) q

  stepped : (l : Transition K V F) → is_step l ≡ true → machine.steps_after cmp hash gives (state_of w) p l ≡ suc ((state_of w).steps p)
  stepped l own = one_more_step cmp hash gives (state_of w) p _ x.call l begun refl own

  -- a transition that changes the party's mode alone
  pub is_goes : (lab : Label K V F) (l : Transition K V F) (m : Mode K V) → effect cmp hash gives (state_of w) p l ≡ goes cmp hash gives (state_of w) p m → lab ≡ label cmp hash gives p l → is_step l ≡ true
      → start_of w.first (lab ∷ history w) ≡ (state_of w).start → mode_of_stage c.stage ≡ m → held_of_stage c.stage ≡ held_of_stage x.party_state.stage → IsTransition cmp hash gives w p w.control_state w.tables c lab l
  is_goes lab l m e named own start mode claim = record {
    label_is = named;
    steps_are = stepped l own;
    start = start ∙ ap (λ z. z.start) (sym e);
    published = ap (λ z. z.published) (sym e);
    growth = ap (λ z. z.growth) (sym e);
    slot = λ d j. ap (λ z. z.slot d j) (sym e);
    parties = ap (λ z. z.parties) (sym e);
    call = λ q. ap (λ z. z.call q) (sym e);
    mode = λ q. ap (λ n. update (state_of w).mode p n q) mode ∙ ap (λ z. z.mode q) (sym e);
    claim = λ q. same_claim claim q ∙ ap (λ z. z.claim q) (sym e);
    told = λ q. same_told claim q ∙ ap (λ z. z.told q) (sym e);
    count = ap (λ z. z.count) (sym e);
    seen = λ q. ap (λ z. z.seen q) (sym e);
    began_from = λ q. ap (λ z. z.began_from q) (sym e);
  }

  pub is_quiet : mode_of_stage c.stage ≡ (state_of w).mode p → held_of_stage c.stage ≡ held_of_stage x.party_state.stage → IsTransition cmp hash gives w p w.control_state w.tables c (label.Silent p) Quiet
  is_quiet mode claim = is_goes (label.Silent p) Quiet ((state_of w).mode p) (λ i. record (state_of w) { mode = λ q. sym (same_place (state_of w).mode p ((state_of w).mode p) refl q) i }) refl refl refl mode claim

  pub is_finds : (e : ℕ) → mode_of_stage c.stage ≡ found_by cmp hash gives (Some x.call) e → held_of_stage c.stage ≡ held_of_stage x.party_state.stage → IsTransition cmp hash gives w p w.control_state w.tables c (label.Silent p) (Finds e)
  is_finds e mode claim = is_goes (label.Silent p) (Finds e) _ refl refl refl refl (mode ∙ ap (λ o. found_by cmp hash gives o e) (sym begun)) claim

  pub is_refused : mode_of_stage c.stage ≡ machine.Finished → held_of_stage c.stage ≡ held_of_stage x.party_state.stage → IsTransition cmp hash gives w p w.control_state w.tables c (label.Refused p) IsRefused
  is_refused mode claim = is_goes (label.Refused p) IsRefused _ refl refl refl refl mode claim

  pub is_decided_empty : (d : Call K V F) (r : KeptReply K V) → mode_of_stage c.stage ≡ Done (Some r) 0 0 → held_of_stage c.stage ≡ held_of_stage x.party_state.stage → IsTransition cmp hash gives w p w.control_state w.tables c (label.Decide p r) (DecidesEmpty d r)
  is_decided_empty d r mode claim = is_goes (label.Decide p r) (DecidesEmpty d r) _ refl refl refl refl mode claim

  pub is_passed : (e : ℕ) → mode_of_stage c.stage ≡ machine.Looking (suc e) → held_of_stage c.stage ≡ held_of_stage x.party_state.stage → IsTransition cmp hash gives w p w.control_state w.tables c (label.Silent p) (Passes e)
  is_passed e mode claim = is_goes (label.Silent p) (Passes e) _ refl refl refl refl mode claim

  pub is_replied : (r : KeptReply K V) → mode_of_stage c.stage ≡ machine.Finished → held_of_stage c.stage ≡ held_of_stage x.party_state.stage → IsTransition cmp hash gives w p w.control_state w.tables c (label.Reply p r) (Replies r)
  is_replied r mode claim = is_goes (label.Reply p r) (Replies r) _ refl refl refl refl mode claim

  pub is_ended : mode_of_stage c.stage ≡ machine.Finished → held_of_stage c.stage ≡ held_of_stage x.party_state.stage → IsTransition cmp hash gives w p w.control_state w.tables c (label.End p) Ends
  is_ended mode claim = is_goes (label.End p) Ends _ refl refl refl refl mode claim

  -- the pairs that it added or removed are counted
  pub is_counted : (r : Option (KeptReply K V)) (added removed : ℕ) (n : ℤ) → (state_of w).mode p ≡ Done r added removed → n ≡ w.control_state.count +ℤ pos added -ℤ pos removed → mode_of_stage c.stage ≡ Done r 0 0 → held_of_stage c.stage ≡ held_of_stage x.party_state.stage
      → IsTransition cmp hash gives w p (record { published = w.control_state.published; growth = w.control_state.growth; count = n }) w.tables c (label.Silent p) (Counts (λ q. p == q))
  is_counted r added removed n before count mode claim = record {
    label_is = refl;
    steps_are = stepped (Counts (λ q. p == q)) refl;
    start = refl;
    published = refl;
    growth = refl;
    slot = λ d j. refl;
    parties = refl;
    call = λ q. refl;
    mode = λ q. own_settled (state_of w).mode p (mode_of_stage c.stage) (ap mode_after_count before ∙ sym mode) q;
    claim = λ q. same_claim claim q;
    told = λ q. same_told claim q;
    count = omega (arith, ints, count, total-own (λ q. owes_added ((state_of w).mode q)) p (length w.party_records) below, total-own (λ q. owes_removed ((state_of w).mode q)) p (length w.party_records) below, ap owes_added before, ap owes_removed before);
    seen = λ q. refl;
    began_from = λ q. refl;
  }

  -- the first table is made and published
  pub is_opened : (e : ℕ) (t : Tables K V) → w.first ≡ None → growth_of w.control_state.growth t ≡ growth_of w.control_state.growth w.tables → ((d j : ℕ) → slot_of (content_at t d j) ≡ (if e == d && nat_lt j (2 ^ e) then Live [] 0 else slot_of (content_at w.tables d j)))
      → mode_of_stage c.stage ≡ found_by cmp hash gives (Some x.call) e → held_of_stage c.stage ≡ held_of_stage x.party_state.stage
      → IsTransition cmp hash gives w p (record { published = Some e; growth = w.control_state.growth; count = w.control_state.count }) t c (label.Opened e) (Opens e)
  is_opened e t none same slot mode claim = record {
    label_is = refl;
    steps_are = stepped (Opens e) refl;
    start = ap (λ f. unwrap_or f e) none;
    published = refl;
    growth = same;
    slot = slot;
    parties = refl;
    call = λ q. refl;
    mode = λ q. ap (λ m. update (state_of w).mode p m q) (mode ∙ ap (λ o. found_by cmp hash gives o e) (sym begun));
    claim = λ q. same_claim claim q;
    told = λ q. same_told claim q;
    count = refl;
    seen = λ q. refl;
    began_from = λ q. refl;
  }

  -- a growth begins: its table has no bins yet
  pub is_placed : (e : ℕ) (t : Tables K V) → growth_of (Some e) t ≡ Some (record { unclaimed = 2 ^ e; reported = 0 }) → ((d j : ℕ) → content_at t d j ≡ content_at w.tables d j) → mode_of_stage c.stage ≡ (state_of w).mode p → held_of_stage c.stage ≡ held_of_stage x.party_state.stage
      → IsTransition cmp hash gives w p (record { published = w.control_state.published; growth = Some e; count = w.control_state.count }) t c (label.Placed (suc e)) (Places e)
  is_placed e t begun slot mode claim = record {
    label_is = refl;
    steps_are = stepped (Places e) refl;
    start = refl;
    published = refl;
    growth = begun;
    slot = λ d j. ap slot_of (slot d j);
    parties = refl;
    call = λ q. refl;
    mode = λ q. same_place (state_of w).mode p (mode_of_stage c.stage) (sym mode) q;
    claim = λ q. same_claim claim q;
    told = λ q. same_told claim q;
    count = refl;
    seen = λ q. refl;
    began_from = λ q. refl;
  }

  -- where the board of a growth is another, which shows the same growth
  pub with_board_there : (lab : Label K V F) (l : Transition K V F) (t : Tables K V) → t.slots ≡ w.tables.slots → growth_of w.control_state.growth t ≡ growth_of w.control_state.growth w.tables
      → IsTransition cmp hash gives w p w.control_state w.tables c lab l → IsTransition cmp hash gives w p w.control_state t c lab l
  with_board_there lab l t slots same i = record {
    label_is = i.label_is;
    steps_are = i.steps_are;
    start = i.start;
    published = i.published;
    growth = same ∙ i.growth;
    slot = λ d j. ap (λ s. slot_of (content_at (record { slots = s; boards = t.boards }) d j)) slots ∙ i.slot d j;
    parties = i.parties;
    call = i.call;
    mode = i.mode;
    claim = i.claim;
    told = i.told;
    count = i.count;
    seen = i.seen;
    began_from = i.began_from;
  }

  module _ (e : ℕ) (g : machine.Growth) (t : Tables K V) (slots : t.slots ≡ w.tables.slots) (mode : mode_of_stage c.stage ≡ (state_of w).mode p) where
    -- bins are claimed
    pub is_claimed : (low : ℕ) → growth_of w.control_state.growth t ≡ Some (record { unclaimed = low; reported = g.reported })
        → held_of_stage c.stage ≡ (Some (record { table = e; low = low; left = g.unclaimed; high = g.unclaimed }), told_of_stage x.party_state.stage)
        → IsTransition cmp hash gives w p w.control_state t c (label.Silent p) (Claims e g low)
    is_claimed low after plain_entries = record {
      label_is = refl;
      steps_are = stepped (Claims e g low) refl;
      start = refl;
      published = refl;
      growth = after;
      slot = λ d j. ap (λ s. slot_of (content_at (record { slots = s; boards = t.boards }) d j)) slots;
      parties = refl;
      call = λ q. refl;
      mode = λ q. same_place (state_of w).mode p (mode_of_stage c.stage) (sym mode) q;
      claim = λ q. ap (λ a. update (state_of w).claim p a q) (ap (λ h. h.0) plain_entries);
      told = λ q. none_told (ap (λ h. h.1) plain_entries) q;
      count = refl;
      seen = λ q. refl;
      began_from = λ q. refl;
    }

    -- a claim is reported; if that was the last one, the party is told to publish
    pub is_reported : (a : machine.Claim) → growth_of w.control_state.growth t ≡ Some (with_report g a) → told_of_stage x.party_state.stage ≡ None
        → held_of_stage c.stage ≡ (None, (if is_complete a.table (with_report g a) then Some a.table else None))
        → IsTransition cmp hash gives w p w.control_state t c (label.Silent p) (Reports a g)
    is_reported a after untold plain_entries = record {
      label_is = refl;
      steps_are = stepped (Reports a g) refl;
      start = refl;
      published = refl;
      growth = after;
      slot = λ d j. ap (λ s. slot_of (content_at (record { slots = s; boards = t.boards }) d j)) slots;
      parties = refl;
      call = λ q. refl;
      mode = λ q. same_place (state_of w).mode p (mode_of_stage c.stage) (sym mode) q;
      claim = λ q. ap (λ a. update (state_of w).claim p a q) (ap (λ h. h.0) plain_entries);
      told = λ q. ap (λ o. update (state_of w).told p o q) (ap (λ h. h.1) plain_entries) ∙ by_last (is_complete a.table (with_report g a)) q;
      count = refl;
      seen = λ q. refl;
      began_from = λ q. refl;
    }
      where
        by_last : (b : Bool) (q : ℕ) → update (state_of w).told p (if b then Some a.table else None) q ≡ cond b (update (state_of w).told p (Some a.table)) (state_of w).told q
        by_last true q = refl
        by_last false q = same_place (state_of w).told p None (ap told_in at ∙ untold) q

  -- the next table is published
  pub is_published : (e : ℕ) (g : machine.Growth) → mode_of_stage c.stage ≡ (state_of w).mode p → held_of_stage c.stage ≡ (claim_of_stage x.party_state.stage, None)
      → IsTransition cmp hash gives w p (record { published = Some (suc e); growth = None; count = w.control_state.count }) w.tables c (label.Published (suc e)) (Publishes e g)
  is_published e g mode plain_entries = record {
    label_is = refl;
    steps_are = stepped (Publishes e g) refl;
    start = refl;
    published = refl;
    growth = refl;
    slot = λ d j. refl;
    parties = refl;
    call = λ q. refl;
    mode = λ q. same_place (state_of w).mode p (mode_of_stage c.stage) (sym mode) q;
    claim = λ q. same_place (state_of w).claim p (claim_of_stage c.stage) (ap claim_in at ∙ sym (ap (λ h. h.0) plain_entries)) q;
    told = λ q. ap (λ o. update (state_of w).told p o q) (ap (λ h. h.1) plain_entries);
    count = refl;
    seen = λ q. refl;
    began_from = λ q. refl;
  }

  -- the next bin of its claim has moved
  pub is_moved : (a : machine.Claim) (i : ℕ) (es : List (Entry K V)) (n : ℕ) (t : Tables K V) → growth_of w.control_state.growth t ≡ growth_of w.control_state.growth w.tables
      → ((d j : ℕ) → slot_of (content_at t d j) ≡ update2 (update2 (update2 (state_of w).slot a.table i Moved) (suc a.table) i (Live (half hash (suc a.table) i es) n)) (suc a.table) (i + 2 ^ a.table) (Live (half hash (suc a.table) (i + 2 ^ a.table) es) n) d j)
      → mode_of_stage c.stage ≡ (state_of w).mode p → held_of_stage c.stage ≡ (Some (record { table = a.table; low = a.low; left = i; high = a.high }), told_of_stage x.party_state.stage)
      → IsTransition cmp hash gives w p w.control_state t c (label.Moved a.table i) (Moves a i es n)
  is_moved a i es n t same slot mode claim = record {
    label_is = refl;
    steps_are = stepped (Moves a i es n) refl;
    start = refl;
    published = refl;
    growth = same;
    slot = slot;
    parties = refl;
    call = λ q. refl;
    mode = λ q. same_place (state_of w).mode p (mode_of_stage c.stage) (sym mode) q;
    claim = λ q. ap (λ a. update (state_of w).claim p a q) (ap (λ h. h.0) claim);
    told = λ q. none_told (ap (λ h. h.1) claim) q;
    count = refl;
    seen = λ q. refl;
    began_from = λ q. refl;
  }

  -- it decides at its bin
  pub is_decided : (d : Call K V F) (k : K) (e : ℕ) (es : List (Entry K V)) (n : ℕ) (r : KeptReply K V) (fs : List (Entry K V)) (m : ℕ) (t : Tables K V) → growth_of w.control_state.growth t ≡ growth_of w.control_state.growth w.tables
      → ((g j : ℕ) → slot_of (content_at t g j) ≡ update2 (state_of w).slot e (hash k % 2 ^ e) (Live fs m) g j)
      → mode_of_stage c.stage ≡ Done (Some r) (length fs - length es) (length es - length fs) → held_of_stage c.stage ≡ held_of_stage x.party_state.stage
      → IsTransition cmp hash gives w p w.control_state t c (label.Decide p r) (Decides d k e es n r fs m)
  is_decided d k e es n r fs m t same slot mode claim = record {
    label_is = refl;
    steps_are = stepped (Decides d k e es n r fs m) refl;
    start = refl;
    published = refl;
    growth = same;
    slot = slot;
    parties = refl;
    call = λ q. refl;
    mode = λ q. ap (λ m. update (state_of w).mode p m q) mode;
    claim = λ q. same_claim claim q;
    told = λ q. same_told claim q;
    count = refl;
    seen = λ q. refl;
    began_from = λ q. refl;
  }

  -- a clear wipes a bin
  pub is_wiped : (d e i : ℕ) (f : machine.Frame K) (fs : List (machine.Frame K)) (es : List (Entry K V)) (n : ℕ) (t : Tables K V) → growth_of w.control_state.growth t ≡ growth_of w.control_state.growth w.tables
      → ((g j : ℕ) → slot_of (content_at t g j) ≡ update2 (state_of w).slot f.table f.index (Live [] n) g j)
      → mode_of_stage c.stage ≡ machine.onward (machine.Clearing (d + length es)) (Done None 0 (d + length es)) e i fs → held_of_stage c.stage ≡ held_of_stage x.party_state.stage
      → IsTransition cmp hash gives w p w.control_state t c (label.Wipe p f.table f.index) (machine.Wipes d e i f fs es n)
  is_wiped d e i f fs es n t same slot mode claim = record {
    label_is = refl;
    steps_are = stepped (machine.Wipes d e i f fs es n) refl;
    start = refl;
    published = refl;
    growth = same;
    slot = slot;
    parties = refl;
    call = λ q. refl;
    mode = λ q. ap (λ m. update (state_of w).mode p m q) mode;
    claim = λ q. same_claim claim q;
    told = λ q. same_told claim q;
    count = refl;
    seen = λ q. refl;
    began_from = λ q. refl;
  }

  -- a walk reads an entry
  pub does_read : (e i : ℕ) (f : machine.Frame K) (fs : List (machine.Frame K)) (es : List (Entry K V)) (n : ℕ) (y : Entry K V)
      → mode_of_stage c.stage ≡ machine.Walking e i (record { table = f.table; index = f.index; bound = Some y.key } ∷ fs) → held_of_stage c.stage ≡ held_of_stage x.party_state.stage → last_seen c.stage ≡ Some (record { key = y.key; value = y.value; number = y.number })
      → state_of (with_step w p x w.control_state w.tables c (label.Read p y.key y.value)) ≡ next_state cmp hash gives (state_of w) p (machine.Reads e i f fs es n y)
  does_read e i f fs es n y mode claim seen = λ j. record {
    start = ap (start_of w.first) after_field_step j;
    published = w.control_state.published;
    growth = (state_of w).growth;
    slot = (state_of w).slot;
    parties = length-set w.party_records p z j;
    call = λ q. (read_set (option_map (λ (r : PartyRecord K V F). r.call)) w.party_records p q z below ∙ same_place (state_of w).call p (Some x.call) begun q) j;
    mode = λ q. (read_set mode_in w.party_records p q z below ∙ ap (λ m. update (state_of w).mode p m q) mode) j;
    claim = λ q. (read_set claim_in w.party_records p q z below ∙ same_claim claim q) j;
    told = λ q. (read_set told_in w.party_records p q z below ∙ same_told claim q) j;
    count = w.control_state.count;
    seen = λ q. (read_set seen_in w.party_records p q z below ∙ ap (λ m. update (state_of w).seen p m q) seen) j;
    began_from = λ q. (read_set began_from_in w.party_records p q z below ∙ same_place (state_of w).began_from p x.began_from (ap began_from_in at) q) j;
    steps = λ q. (read_set steps_in w.party_records p q z below ∙ ap (λ m. update (state_of w).steps p m q) (ap suc (sym (ap steps_in at)) ∙ sym (stepped (machine.Reads e i f fs es n y) refl))) j;
    trace = after_field_step j;
  }
    where
      z : PartyRecord K V F
      z = record { call = x.call; began_from = x.began_from; party_state = c; steps = suc x.steps }

      after_field_step : reverse (w.trace ++ label.Read p y.key y.value ∷ []) ≡ label.Read p y.key y.value ∷ history w
      after_field_step = reverse-append w.trace (label.Read p y.key y.value ∷ [])
