-- The ranges of a growth.
use Rattle.std.specs.Prelude.{ℕ, suc, zero, ◌+◌, ◌-◌, ◌%◌, ◌^◌, ◌<◌, ◌≤◌, Bool, true, false, cond, List, [], Option, Some, None, is_some, ◌≡◌, ◌⊎◌}
use Rattle.std.specs.declared.cmp.Ordering.{Ordering}
use Rattle.std.proofs.Common.{arith, refl, sym, ◌∙◌, ap, subst, inl, inr}
use Rattle.std.proofs.lemmas.Bool.{eqb-true, eq-eqb, cases_order, cases_lt, cases_eq, and_parts, and_from, lt-ltb, ltb-true, leb-true, le-leb}
use Rattle.std.proofs.lemmas.Nat.{mod_below, pow_pos}
use Rattle.flurry_steps_theory.specs.Bin.{Entry}
use Rattle.flurry_steps_theory.specs.Machine.{State, Slot, Claim, Growth, is_complete, with_report, Transition, MayOpen, Enabled, next_state, update, update2, Live, Moved, Unborn, Begins, Opens, Decides, Places, Claims, Moves, Reports, Publishes, Wipes}
use Rattle.flurry_steps_theory.specs.Machine.{total}
use Rattle.flurry_steps_theory.specs.Invariant.{IsParty, is_live, Tables, size, claim_holds, IsPartition}
use Rattle.flurry_steps_theory.proofs.Bins.{small_mod}
use Rattle.flurry_steps_theory.proofs.Tables.{placing, update2_elim, dead_stays}
use Rattle.flurry_base.specs.declared.call.Call.{Call}
use Rattle.flurry_base.specs.declared.call.Call.TheVariants.{Insert, TryInsert, Alter, Reserve}
use Rattle.flurry_base.specs.declared.verdict.Verdict.{Verdict}
use Rattle.flurry_base.specs.declared.sizes.TheConstants.{MAX_TABLE}

pub place_here : {X : Type 0} (f : ℕ → X) (p : ℕ) (x : X) → update f p x p ≡ x
place_here f p x = grind (arith, eq-eqb p p refl)

pub place_other : {X : Type 0} (f : ℕ → X) (p q : ℕ) (x : X) → (q ≡ p → ⊥) → update f p x q ≡ f q
place_other f p q x ne = grind (arith, eqb-true p q, ne)

none_of : {X : Type 0} (o : Option X) → ((x : X) → o ≡ Some x → ⊥) → o ≡ None
none_of None h = refl
none_of (Some x) h = absurd (h x refl)

-- where a place is emptied, what is left stands elsewhere
taken_out : {X : Type 0} (f : ℕ → Option X) (p q : ℕ) (x : X) → update f p None q ≡ Some x → (q ≡ p → ⊥) × (f q ≡ Some x)
taken_out f p q x h = go (cases_eq q p)
  where
    go : (q ≡ p) ⊎ (q ≡ p → ⊥) → (q ≡ p → ⊥) × (f q ≡ Some x)
    go (inl e) = absurd (grind (arith, h, e, place_here f p None))
    go (inr ne) = (ne, sym (place_other f p q None ne) ∙ h)

pub total-same : (f g : ℕ → ℕ) (n : ℕ) → ((q : ℕ) → q < n → f q ≡ g q) → total f n ≡ total g n
total-same f g zero h = refl
total-same f g (suc n) h = omega (arith, total-same f g n (λ q l. h q (omega (arith, l))), h n (omega arith))

pub total-change : (f g : ℕ → ℕ) (p n : ℕ) → p < n → ((q : ℕ) → (q ≡ p → ⊥) → f q ≡ g q) → total f n + g p ≡ total g n + f p
total-change f g p zero l h = absurd (omega (arith, l))
total-change f g p (suc n) l h = go (λ m. total-change f g p n m h) (cases_order n p)
  where
    go : (p < n → total f n + g p ≡ total g n + f p) → (n ≡ p) ⊎ ((n < p) ⊎ (p < n)) → total f (suc n) + g p ≡ total g (suc n) + f p
    go more (inl e) = let w : total f n ≡ total g n = total-same f g n (λ q m. h q (omega (arith, m, e))) in omega (arith, w, ap f e, ap g e)
    go more (inr (inl e)) = absurd (omega (arith, l, e))
    go more (inr (inr e)) = omega (arith, more e, h n (omega (arith, e)))

pub total-zero : (f : ℕ → ℕ) (n : ℕ) → ((q : ℕ) → f q ≡ 0) → total f n ≡ 0
total-zero f zero h = refl
total-zero f (suc n) h = omega (arith, total-zero f n h, h n)

pub part-total : (f : ℕ → ℕ) (p n : ℕ) → p < n → f p ≤ total f n
part-total f p zero l = absurd (omega (arith, l))
part-total f p (suc n) l = go (part-total f p n) (cases_order n p)
  where
    go : (p < n → f p ≤ total f n) → (n ≡ p) ⊎ ((n < p) ⊎ (p < n)) → f p ≤ total f (suc n)
    go more (inl e) = omega (arith, ap f e)
    go more (inr (inl e)) = absurd (omega (arith, l, e))
    go more (inr (inr e)) = omega (arith, more e)

module _ {K V F : Type 0} (cmp : K → K → Ordering) (hash : K → ℕ) (gives : F → K → Option V → Verdict V → Type 0) where
  -- a party that holds a claim has begun
  claims_known : (s : State K V F) (p : ℕ) (a : Claim) → IsParty s p → s.claim p ≡ Some a → p < s.parties
  claims_known s p a o h = go (cases_lt p s.parties)
    where
      go : (p < s.parties) ⊎ (s.parties ≤ p) → p < s.parties
      go (inl l) = l
      go (inr l) = grind (arith, o.beyond l, h)

  claims_cover : (s : State K V F) (p e : ℕ) (g : Growth) (low : ℕ) → Enabled cmp hash gives s p (Claims e g low) → IsPartition s → (d j : ℕ) → s.published ≡ Some d → j < 2 ^ d → (z : Growth) → Some (record { unclaimed = low; reported = g.reported }) ≡ Some z
      → (s.slot d j ≡ Moved) ⊎ ((j < z.unclaimed) ⊎ ((q : ℕ) × (claim_holds ((next_state cmp hash gives s p (Claims e g low)).claim q) j ≡ true)))
  claims_cover s p e g low can u d j h l z y = go (cases_lt j low) (u.cover d j g h can.3 l)
    where
      go : (j < low) ⊎ (low ≤ j) → (s.slot d j ≡ Moved) ⊎ ((j < g.unclaimed) ⊎ ((q : ℕ) × (claim_holds (s.claim q) j ≡ true))) → (s.slot d j ≡ Moved) ⊎ ((j < z.unclaimed) ⊎ ((q : ℕ) × (claim_holds ((next_state cmp hash gives s p (Claims e g low)).claim q) j ≡ true)))
      go (inl m) w = inr (inl (grind (arith, m, y)))
      go (inr m) (inl w) = inl w
      go (inr m) (inr (inl w)) = inr (inr (p, rw (place_here s.claim p (Some (record { table = e; low = low; left = g.unclaimed; high = g.unclaimed }))) (and_from _ _ (le-leb _ _ m) (lt-ltb _ _ w))))
      go (inr m) (inr (inr w)) = inr (inr (w.0, grind (arith, w.1, can.0, eqb-true)))

  reports_cover : (s : State K V F) (p : ℕ) (a : Claim) (g : Growth) → Enabled cmp hash gives s p (Reports a g) → IsPartition s → (d j : ℕ) → s.published ≡ Some d → j < 2 ^ d → (z : Growth) → Some (with_report g a) ≡ Some z
      → (s.slot d j ≡ Moved) ⊎ ((j < z.unclaimed) ⊎ ((q : ℕ) × (claim_holds ((next_state cmp hash gives s p (Reports a g)).claim q) j ≡ true)))
  reports_cover s p a g can u d j h l z y = go (u.cover d j g h can.2 l)
    where
      here : (q : ℕ) → claim_holds (s.claim q) j ≡ true → (q ≡ p) ⊎ ((q < p) ⊎ (p < q)) → (s.slot d j ≡ Moved) ⊎ ((j < z.unclaimed) ⊎ ((q : ℕ) × (claim_holds ((next_state cmp hash gives s p (Reports a g)).claim q) j ≡ true)))
      here q w (inl e) = inl (grind (arith, e, w, h, can, u.claims p a can.0, u.rest_moved p a j can.0, and_parts, leb-true, ltb-true))
      here q w (inr (inl e)) = inr (inr (q, rw (place_other s.claim p q None (λ x. omega (arith, x, e))) w))
      here q w (inr (inr e)) = inr (inr (q, rw (place_other s.claim p q None (λ x. omega (arith, x, e))) w))

      go : (s.slot d j ≡ Moved) ⊎ ((j < g.unclaimed) ⊎ ((q : ℕ) × (claim_holds (s.claim q) j ≡ true))) → (s.slot d j ≡ Moved) ⊎ ((j < z.unclaimed) ⊎ ((q : ℕ) × (claim_holds ((next_state cmp hash gives s p (Reports a g)).claim q) j ≡ true)))
      go (inl w) = inl w
      go (inr (inl w)) = inr (inl (grind (arith, w, y)))
      go (inr (inr w)) = here w.0 w.1 (cases_order w.0 p)

  -- where a party is told to publish, no bin is unclaimed, and none is claimed
  told_counts : (s : State K V F) (p e : ℕ) (g : Growth) → s.told p ≡ Some e → s.growth ≡ Some g → IsPartition s → (g.unclaimed ≡ 0) × (total (λ q. size (s.claim q)) s.parties ≡ 0)
  told_counts s p e g h y u =
      let w : (s.published ≡ Some e) × (z : Growth) × (s.growth ≡ Some z) × (z.reported ≡ 2 ^ e) = u.told p e h in
      let r : g.reported ≡ 2 ^ e = grind (arith, w.2, w.3, y) in
      (omega (arith, u.sum e g w.0 y, r), omega (arith, u.sum e g w.0 y, r))

  -- so nobody is told while a claim is held
  none_told : (s : State K V F) (p : ℕ) (a : Claim) → IsParty s p → s.claim p ≡ Some a → IsPartition s → (q e : ℕ) → s.told q ≡ Some e → ⊥
  none_told s p a o h u q e t =
      let w : (s.published ≡ Some e) × (z : Growth) × (s.growth ≡ Some z) × (z.reported ≡ 2 ^ e) = u.told q e t in
      let z : size (s.claim p) ≤ total (λ r. size (s.claim r)) s.parties = part-total (λ r. size (s.claim r)) p s.parties (claims_known s p a o h) in
      let y : size (s.claim p) ≡ a.high - a.low = ap size h in
      omega (arith, z, y, (u.claims p a h).1, (told_counts s q e w.1 t w.2 u).1)

  -- and no claim is held while a party is told
  no_claim : (s : State K V F) (p e : ℕ) → s.told p ≡ Some e → ((q : ℕ) → IsParty s q) → IsPartition s → (q : ℕ) → s.claim q ≡ None
  no_claim s p e h o u q = go (s.claim q) refl
    where
      go : (b : Option Claim) → s.claim q ≡ b → s.claim q ≡ None
      go None x = x
      go (Some a) x = absurd (none_told s q a (o q) x u p e h)

  -- the party that is told finds every bin moved
  pub told_moved : (s : State K V F) (p e : ℕ) (g : Growth) → Enabled cmp hash gives s p (Publishes e g) → ((q : ℕ) → IsParty s q) → IsPartition s → (i : ℕ) → i < 2 ^ e → s.slot e i ≡ Moved
  told_moved s p e g can o u i l = go (u.cover e i g can.1 can.2 l)
    where
      go : (s.slot e i ≡ Moved) ⊎ ((i < g.unclaimed) ⊎ ((q : ℕ) × (claim_holds (s.claim q) i ≡ true))) → s.slot e i ≡ Moved
      go (inl w) = w
      go (inr (inl w)) = absurd (omega (arith, w, (told_counts s p e g can.0 can.2 u).0))
      go (inr (inr w)) = absurd (grind (arith, w.1, no_claim s p e can.0 o u w.0))

  -- a report tells its own party alone, and only if it is the last
  told_by_report : (s : State K V F) (p : ℕ) (a : Claim) (g : Growth) → Enabled cmp hash gives s p (Reports a g) → IsParty s p → IsPartition s → (q d : ℕ) → (next_state cmp hash gives s p (Reports a g)).told q ≡ Some d → (q ≡ p) × (d ≡ a.table) × (is_complete a.table (with_report g a) ≡ true)
  told_by_report s p a g can o u q d h = go (is_complete a.table (with_report g a)) refl h
    where
      here : is_complete a.table (with_report g a) ≡ true → update s.told p (Some a.table) q ≡ Some d → (q ≡ p) ⊎ (q ≡ p → ⊥) → (q ≡ p) × (d ≡ a.table) × (is_complete a.table (with_report g a) ≡ true)
      here c t (inl e) = (e, grind (arith, t, e, place_here s.told p (Some a.table)), c)
      here c t (inr ne) = absurd (none_told s p a o can.0 u q d (sym (place_other s.told p q (Some a.table) ne) ∙ t))

      go : (b : Bool) → is_complete a.table (with_report g a) ≡ b → cond b (update s.told p (Some a.table)) s.told q ≡ Some d → (q ≡ p) × (d ≡ a.table) × (is_complete a.table (with_report g a) ≡ true)
      go true c t = here c t (cases_eq q p)
      go false c t = absurd (none_told s p a o can.0 u q d t)

  -- and if it is the last, it does
  reporter_told : (s : State K V F) (p : ℕ) (a : Claim) (g : Growth) → Enabled cmp hash gives s p (Reports a g) → IsPartition s → (d : ℕ) (z : Growth) → s.published ≡ Some d → Some (with_report g a) ≡ Some z → z.reported ≡ 2 ^ d → (next_state cmp hash gives s p (Reports a g)).told p ≡ Some d
  reporter_told s p a g can u d z h y k =
      let at : Some a.table ≡ Some d = sym (u.claims p a can.0).0 ∙ h in
      let c : is_complete a.table (with_report g a) ≡ true = eq-eqb _ _ (grind (arith, at, y, k)) in
      ap (λ b. cond b (update s.told p (Some a.table)) s.told p) c ∙ place_here s.told p (Some a.table) ∙ at

  opening_limit : (c : Call K V F) (e : ℕ) → MayOpen c e → e ≤ MAX_TABLE
  opening_limit (Insert k v) e h = omega (arith, h)
  opening_limit (TryInsert k v) e h = omega (arith, h)
  opening_limit (Alter k true f) e h = omega (arith, h)
  opening_limit (Reserve n) e h = h
  opening_limit c e h = absurd h

  -- the parts of a state that its cut speaks of
  abbrev cut_parts : State K V F → Option ℕ × Option Growth × (ℕ → ℕ → Slot K V) × ℕ × (ℕ → Option Claim) × (ℕ → Option ℕ)
  cut_parts s = (s.published, s.growth, s.slot, s.parties, s.claim, s.told)

  -- where these stay, the cut does
  cut_same : (s z : State K V F) → cut_parts s ≡ cut_parts z → IsPartition s → IsPartition z
  cut_same s z same was =
      let u : IsPartition (record s { published = z.published; growth = z.growth; slot = z.slot; parties = z.parties; claim = z.claim; told = z.told }) = subst (λ t. IsPartition (record s { published = t.0; growth = t.1; slot = t.2; parties = t.3; claim = t.4; told = t.5 })) same was in
      record { made = u.made; idle = u.idle; limit = u.limit; growth_limit = u.growth_limit; near = u.near; idle_live = u.idle_live; claims = u.claims; above_unclaimed = u.above_unclaimed; left_live = u.left_live; rest_moved = u.rest_moved; unclaimed_live = u.unclaimed_live; apart = u.apart; cover = u.cover; sum = u.sum; told = u.told; one_told = u.one_told; some_told = u.some_told }

  cut_begins : (home : ℕ → ℕ) (s : State K V F) (p : ℕ) (c : Call K V F) (w : Option ℕ) → Enabled cmp hash gives s p (Begins c w) → ((q : ℕ) → IsParty s q) → Tables cmp hash home s → IsPartition s → IsPartition (next_state cmp hash gives s p (Begins c w))
  cut_begins home s p c w can o t u = record {
    made = u.made;
    idle = λ h q. grind (placing, h, can, o p, u.idle);
    near = u.near;
    idle_live = u.idle_live;
    claims = λ q w h. grind (placing, h, can, o p, u.claims q w);
    above_unclaimed = λ q w z h y. grind (placing, h, y, can, o p, u.above_unclaimed q w z);
    left_live = λ q w j h x y. grind (placing, h, x, y, can, o p, u.left_live q w j, u.claims q w);
    rest_moved = λ q w j h x y. grind (placing, h, x, y, can, o p, u.rest_moved q w j, u.claims q w);
    unclaimed_live = u.unclaimed_live;
    apart = λ q v w z ne h y. grind (placing, h, y, ne, can, o p, u.apart q v w z ne);
    cover = λ d j z h y l. grind (placing, h, y, l, can, o p, u.cover d j z);
    sum = λ d z h y. grind (placing, h, y, can, o p, u.sum d z);
    limit = u.limit;
    growth_limit = u.growth_limit;
    told = λ q d h. u.told q d (taken_out s.told p q d h).1;
    one_told = λ q r d f h y. u.one_told q r d f (taken_out s.told p q d h).1 (taken_out s.told p r f y).1;
    some_told = λ d z h y k. let w : (q : ℕ) × (s.told q ≡ Some d) = u.some_told d z h y k in (w.0, place_other s.told p w.0 None (λ e. grind (arith, e, w.1, can.0, (o p).beyond)) ∙ w.1);
  }

  -- where no growth runs, and nobody has a claim or is told to publish
  pub idle_cut : (z : State K V F) → z.growth ≡ None → ((p : ℕ) → z.claim p ≡ None) → ((p : ℕ) → z.told p ≡ None) → ((e : ℕ) → z.published ≡ Some e → e ≤ MAX_TABLE) → ((f d j : ℕ) → z.published ≡ Some f → suc f < d → z.slot d j ≡ Unborn)
      → ((e i : ℕ) → z.published ≡ Some e → i < 2 ^ e → is_live (z.slot e i) ≡ true) → IsPartition z
  idle_cut z idle unclaimed untold limit near live = record {
    made = λ g h. absurd (grind (arith, h, idle));
    idle = λ _. unclaimed;
    limit = limit;
    growth_limit = λ e g h y. absurd (grind (arith, y, idle));
    near = near;
    idle_live = λ _. live;
    claims = λ p a h. absurd (grind (arith, h, unclaimed p));
    above_unclaimed = λ p a g h. absurd (grind (arith, h, unclaimed p));
    left_live = λ p a i h. absurd (grind (arith, h, unclaimed p));
    rest_moved = λ p a i h. absurd (grind (arith, h, unclaimed p));
    unclaimed_live = λ e i g h y. absurd (grind (arith, y, idle));
    apart = λ p q a b ne h. absurd (grind (arith, h, unclaimed p));
    cover = λ e i g h y. absurd (grind (arith, y, idle));
    sum = λ e g h y. absurd (grind (arith, y, idle));
    told = λ p e h. absurd (grind (arith, h, untold p));
    one_told = λ p q e f h. absurd (grind (arith, h, untold p));
    some_told = λ e g h y. absurd (grind (arith, y, idle));
  }

  cut_opens : (home : ℕ → ℕ) (s : State K V F) (p : ℕ) (e : ℕ) → Enabled cmp hash gives s p (Opens e) → Tables cmp hash home s → IsPartition s → IsPartition (next_state cmp hash gives s p (Opens e))
  cut_opens home s p e can t u = idle_cut _ idle (u.idle idle) (λ q. none_of (s.told q) (λ d h. grind (arith, can.3, u.told q d h))) (λ d h. grind (arith, h, opening_limit (can.0) e can.4)) (λ f d j h l. grind (arith, h, l, t.no_table can.3 d j, eqb-true, and_parts)) (λ d j h l. grind (arith, h, l, lt-ltb, eq-eqb))
    where
      idle : s.growth ≡ None
      idle = none_of s.growth (λ g h. grind (arith, can.3, u.made g h))

  -- where a live bin has other entries, the cut stays
  cut_put : (s : State K V F) (e i : ℕ) (es : List (Entry K V)) (n : ℕ) (fs : List (Entry K V)) (m : ℕ) → s.slot e i ≡ Live es n → IsPartition s → IsPartition (record s { slot = update2 s.slot e i (Live fs m) })
  cut_put s e i es n fs m there u = record {
    made = u.made;
    idle = u.idle;
    near = λ z d j h l. stays d j Unborn refl (u.near z d j h l);
    idle_live = λ h d j y l. lives d j (u.idle_live h d j y l);
    claims = u.claims;
    above_unclaimed = u.above_unclaimed;
    left_live = λ q w j h x y. lives w.table j (u.left_live q w j h x y);
    rest_moved = λ q w j h x y. stays w.table j Moved refl (u.rest_moved q w j h x y);
    unclaimed_live = λ d j z h y. let w = u.unclaimed_live d j z h y in (w.0, λ l. lives d j (w.1 l));
    apart = u.apart;
    cover = λ d j z h y l. over d j (u.cover d j z h y l);
    sum = u.sum;
    limit = u.limit;
    growth_limit = u.growth_limit;
    told = u.told;
    one_told = u.one_told;
    some_told = u.some_told;
  }
    where
      stays : (d j : ℕ) (v : Slot K V) → is_live v ≡ false → s.slot d j ≡ v → update2 s.slot e i (Live fs m) d j ≡ v
      stays = dead_stays s.slot e i es n fs m there

      lives : (d j : ℕ) → is_live (s.slot d j) ≡ true → is_live (update2 s.slot e i (Live fs m) d j) ≡ true
      lives d j = update2_elim s.slot e i (Live fs m) (λ d j w. is_live (s.slot d j) ≡ true → is_live w ≡ true) d j (λ _. refl) (λ _ h. h)

      over : {X : Type 0} (d j : ℕ) → (s.slot d j ≡ Moved) ⊎ X → (update2 s.slot e i (Live fs m) d j ≡ Moved) ⊎ X
      over d j (inl h) = inl (stays d j Moved refl h)
      over d j (inr h) = inr h

  cut_places : (home : ℕ → ℕ) (s : State K V F) (p : ℕ) (e : ℕ) → Enabled cmp hash gives s p (Places e) → ((q : ℕ) → IsParty s q) → Tables cmp hash home s → IsPartition s → IsPartition (next_state cmp hash gives s p (Places e))
  cut_places home s p e can o t u = record {
    made = λ z h. ap is_some can.0;
    idle = λ h. absurd (grind (arith, h));
    near = u.near;
    idle_live = λ h. absurd (grind (arith, h));
    claims = λ q w h. absurd (grind (arith, h, u.idle can.1 q));
    above_unclaimed = λ q w z h. absurd (grind (arith, h, u.idle can.1 q));
    left_live = λ q w j h. absurd (grind (arith, h, u.idle can.1 q));
    rest_moved = λ q w j h. absurd (grind (arith, h, u.idle can.1 q));
    unclaimed_live = λ d j z h y. (grind (arith, h, y, can.0), λ l. u.idle_live can.1 d j h (grind (arith, h, y, l, can.0)));
    apart = λ q v w z ne h. absurd (grind (arith, h, u.idle can.1 q));
    cover = λ d j z h y l. inr (inl (grind (arith, h, y, l, can.0)));
    sum = λ d z h y. grind (arith, h, y, can.0, total-zero (λ q. size (s.claim q)) s.parties (λ q. ap size (u.idle can.1 q)));
    limit = u.limit;
    growth_limit = λ d z h y. grind (arith, h, can);
    told = λ q d h. absurd (grind (arith, can.1, u.told q d h));
    one_told = u.one_told;
    some_told = λ d z h y k. absurd (grind (arith, y, k, pow_pos d));
  }

  cut_claims : (home : ℕ → ℕ) (s : State K V F) (p : ℕ) (e : ℕ) (g : Growth) (low : ℕ) → Enabled cmp hash gives s p (Claims e g low) → ((q : ℕ) → IsParty s q) → Tables cmp hash home s → IsPartition s → IsPartition (next_state cmp hash gives s p (Claims e g low))
  cut_claims home s p e g low can o t u = record {
    made = λ z h. grind (placing, h, can, u.made z);
    idle = λ h q. grind (placing, h, can, u.idle);
    near = u.near;
    idle_live = λ h. grind (arith, h);
    claims = λ q w h. grind (placing, h, can, u.claims q w);
    above_unclaimed = λ q w z h y. grind (placing, h, y, can, u.above_unclaimed q w z);
    left_live = λ q w j h x y. grind (placing, h, x, y, can, u.left_live q w j, u.claims q w);
    rest_moved = λ q w j h x y. grind (placing, h, x, y, can, u.rest_moved q w j, u.claims q w);
    unclaimed_live = λ d j z h y. grind (placing, h, y, can, u.unclaimed_live d j z);
    apart = λ q v w z ne h y. grind (placing, h, y, ne, can, u.apart q v w z ne);
    cover = λ d j z h y l. claims_cover s p e g low can u d j h l z y;
    sum = λ d z h y. grind (arith, h, y, can, u.sum d g, u.above_unclaimed, total-change (λ q. size ((next_state cmp hash gives s p (Claims e g low)).claim q)) (λ q. size (s.claim q)) p s.parties can.1 (λ q ne. ap size (place_other s.claim p q _ ne)), place_here s.claim p (Some (record { table = e; low = low; left = g.unclaimed; high = g.unclaimed })));
    limit = u.limit;
    growth_limit = λ d z h y. u.growth_limit d g h can.3;
    told = λ q d h. let w : (s.published ≡ Some d) × (z : Growth) × (s.growth ≡ Some z) × (z.reported ≡ 2 ^ d) = u.told q d h in (w.0, record { unclaimed = low; reported = g.reported }, refl, grind (arith, w.2, w.3, can.3));
    one_told = u.one_told;
    some_told = λ d z h y k. u.some_told d g h can.3 (grind (arith, y, k));
  }

  cut_moves : (home : ℕ → ℕ) (s : State K V F) (p : ℕ) (a : Claim) (i : ℕ) (es : List (Entry K V)) (n : ℕ) → Enabled cmp hash gives s p (Moves a i es n) → ((q : ℕ) → IsParty s q) → Tables cmp hash home s → IsPartition s → IsPartition (next_state cmp hash gives s p (Moves a i es n))
  cut_moves home s p a i es n can o t u = record {
    made = u.made;
    idle = λ h q. grind (placing, h, can, u.claims p a can.0, u.idle);
    near = λ z d j h l. grind (placing, h, l, can, u.claims p a can.0, u.near z d j);
    idle_live = λ h d j y l. grind (placing, h, y, l, can, u.claims p a can.0, u.idle_live, u.idle h p);
    claims = λ q w h. grind (placing, h, can, u.claims p a can.0, u.claims q w);
    above_unclaimed = λ q w z h y. grind (placing, h, y, can, u.claims p a can.0, u.above_unclaimed q w z);
    left_live = λ q w j h x y. grind (placing, h, x, y, can, u.claims p a can.0, u.left_live q w j, u.claims q w);
    rest_moved = λ q w j h x y. grind (placing, h, x, y, can, u.claims p a can.0, u.rest_moved q w j, u.claims q w);
    unclaimed_live = λ d j z h y. grind (placing, h, y, can, u.claims p a can.0, u.unclaimed_live d j z);
    apart = λ q v w z ne h y. grind (placing, h, y, ne, can, u.claims p a can.0, u.apart q v w z ne);
    cover = λ d j z h y l. grind (placing, h, y, l, can, u.claims p a can.0, u.cover d j z);
    sum = λ d z h y. grind (placing, h, y, can, u.claims p a can.0, u.sum d z);
    limit = u.limit;
    growth_limit = u.growth_limit;
    told = u.told;
    one_told = u.one_told;
    some_told = u.some_told;
  }

  cut_reports : (home : ℕ → ℕ) (s : State K V F) (p : ℕ) (a : Claim) (g : Growth) → Enabled cmp hash gives s p (Reports a g) → ((q : ℕ) → IsParty s q) → Tables cmp hash home s → IsPartition s → IsPartition (next_state cmp hash gives s p (Reports a g))
  cut_reports home s p a g can o t u = record {
    made = λ z h. grind (placing, h, can, u.claims p a can.0, u.made z);
    idle = λ h q. grind (placing, h, can, u.claims p a can.0, u.idle);
    near = u.near;
    idle_live = λ h. grind (arith, h);
    claims = λ q w h. grind (placing, h, can, u.claims p a can.0, u.claims q w);
    above_unclaimed = λ q w z h y. grind (placing, h, y, can, u.claims p a can.0, u.above_unclaimed q w z);
    left_live = λ q w j h x y. grind (placing, h, x, y, can, u.claims p a can.0, u.left_live q w j, u.claims q w);
    rest_moved = λ q w j h x y. grind (placing, h, x, y, can, u.claims p a can.0, u.rest_moved q w j, u.claims q w);
    unclaimed_live = λ d j z h y. grind (placing, h, y, can, u.claims p a can.0, u.unclaimed_live d j z);
    apart = λ q v w z ne h y. grind (placing, h, y, ne, can, u.claims p a can.0, u.apart q v w z ne);
    cover = λ d j z h y l. reports_cover s p a g can u d j h l z y;
    sum = λ d z h y. grind (arith, h, y, can, u.claims p a can.0, u.sum d g, total-change (λ q. size ((next_state cmp hash gives s p (Reports a g)).claim q)) (λ q. size (s.claim q)) p s.parties (claims_known s p a (o p) can.0) (λ q ne. ap size (place_other s.claim p q _ ne)), place_here s.claim p None);
    limit = u.limit;
    growth_limit = λ d z h y. u.growth_limit d g h can.2;
    told = λ q d h. let w : (q ≡ p) × (d ≡ a.table) × (is_complete a.table (with_report g a) ≡ true) = told_by_report s p a g can (o p) u q d h in (rw w.1 (u.claims p a can.0).0, with_report g a, refl, rw w.1 (eqb-true _ _ w.2));
    one_told = λ q r d f h y. (told_by_report s p a g can (o p) u q d h).0 ∙ sym (told_by_report s p a g can (o p) u r f y).0;
    some_told = λ d z h y k. (p, reporter_told s p a g can u d z h y k);
  }

  cut_publishes : (home : ℕ → ℕ) (s : State K V F) (p e : ℕ) (g : Growth) → Enabled cmp hash gives s p (Publishes e g) → ((q : ℕ) → IsParty s q) → Tables cmp hash home s → IsPartition s → IsPartition (next_state cmp hash gives s p (Publishes e g))
  cut_publishes home s p e g can o t u = idle_cut _ refl (no_claim s p e can.0 o u) (λ q. none_of (update s.told p None q) (λ d h. (taken_out s.told p q d h).0 (u.one_told q p d e (taken_out s.told p q d h).1 can.0))) (λ d h. grind (arith, h, u.growth_limit e g can.1 can.2)) (λ f d j h l. grind (arith, h, l, can, u.near e d j))
      (λ d j y l. grind (arith, y, l, small_mod d j l, can.1, told_moved s p e g can o u (j % 2 ^ e) (mod_below j (2 ^ e) (pow_pos e)), t.live (grind (arith, can.1)) j, (t.from e can.1).1 j, u.near e (home j) (j % 2 ^ home j), cases_order (home j) (suc e)))

  pub cut_ok : (home : ℕ → ℕ) (s : State K V F) (p : ℕ) (l : Transition K V F) → Enabled cmp hash gives s p l → ((q : ℕ) → IsParty s q) → Tables cmp hash home s → IsPartition s → IsPartition (next_state cmp hash gives s p l)
  cut_ok home s p (Begins c w) can o t u = cut_begins home s p c w can o t u
  cut_ok home s p (Opens e) can o t u = cut_opens home s p e can t u
  cut_ok home s p (Decides c k e es n r fs m) can o t u = cut_same _ _ refl (cut_put s e (hash k % 2 ^ e) es n fs m can.4 u)
  cut_ok home s p (Places e) can o t u = cut_places home s p e can o t u
  cut_ok home s p (Claims e g low) can o t u = cut_claims home s p e g low can o t u
  cut_ok home s p (Moves a i es n) can o t u = cut_moves home s p a i es n can o t u
  cut_ok home s p (Reports a g) can o t u = cut_reports home s p a g can o t u
  cut_ok home s p (Publishes e g) can o t u = cut_publishes home s p e g can o t u
  cut_ok home s p (Wipes wiped e i f fs es n) can o t u = cut_same _ _ refl (cut_put s f.table f.index es n [] n can.1 u)
  cut_ok home s p l can o t u = cut_same s _ refl u

  -- no table has an exponent above the greatest
  pub home_limit : (home : ℕ → ℕ) (s : State K V F) (h : ℕ) → Tables cmp hash home s → IsPartition s → is_some s.published ≡ true → home h ≤ MAX_TABLE
  home_limit home s h t u m = go s.published refl s.growth refl
    where
      go : (o : Option ℕ) → s.published ≡ o → (b : Option Growth) → s.growth ≡ b → home h ≤ MAX_TABLE
      go None e b g = absurd (grind (arith, e, m))
      go (Some f) e (Some g) y = grind (arith, u.growth_limit f g e y, u.near f (home h) (h % 2 ^ home h) e, t.live m h)
      go (Some f) e None y = grind (arith, u.limit f e, (t.from f e).1 h, u.idle_live y f (h % 2 ^ f) e (mod_below h (2 ^ f) (pow_pos f)), t.below m h f (t.from f e).0, cases_order f (home h))
