-- How far walks and clears have come.
use Rattle.std.specs.Prelude.{length, ℕ, suc, ◌+◌, ◌%◌, ◌^◌, ◌<◌, nat_lt, Bool, true, false, cond, List, [], ◌∷◌, Option, Some, None, ◌≡◌, ◌⊎◌}
use Rattle.std.specs.declared.cmp.Ordering.{Ordering}
use Rattle.std.specs.Cmp.{IsTotalOrder}
use Rattle.std.proofs.Common.{arith, refl, sym, ◌∙◌, ap, inl, inr}
use Rattle.std.proofs.lemmas.Bool.{eqb-false, eq-eqb, cases_eq, cond-true, ltb-false}
use Rattle.std.proofs.lemmas.Nat.{mod_below, pow_pos}
use Rattle.flurry_steps_theory.specs.Map.{same, find}
use Rattle.flurry_steps_theory.specs.Trace.{Trace, begins, names, in_region, pairs, at}
use Rattle.flurry_steps_theory.specs.Bin.{Entry, pairs_of, past, IsAscending, InRegion}
use Rattle.flurry_steps_theory.specs.Machine.{State, Enabled, found_by, onward, halves, Live, Mode, Locating, Looking, Walking, Clearing, Done, Finished, Frame, Reads, Leaves, Wipes}
use Rattle.flurry_steps_theory.specs.Invariant.{Tables, Progress, Remains, InFrame, InFrames, Off, Within, Apart, AreFrames}
use Rattle.flurry_steps_theory.proofs.Bins.{find-wiped, region-first_past, past_trans, past_differs, find-first_past, find-none_past, found-first_past, in_a_half, in_low_half, in_high_half}
use Rattle.flurry_steps_theory.proofs.Tables.{homes, content_at}
use Rattle.flurry_steps_theory.specs.Legal.{HasRead, HasLacked, StaysPresent, WalkMay}
use Rattle.flurry_base.specs.declared.call.Call.{Call}
use Rattle.flurry_base.specs.declared.call.Call.TheVariants.{Reserve, Clear, Walk}
use Rattle.flurry_base.specs.declared.verdict.Verdict.{Verdict}
use Rattle.flurry_steps_theory.specs.declared.Label.{Label}
use Rattle.flurry_steps_theory.specs.declared.Label.TheVariants.{Begin, Wipe, Read, Silent}

module _ {K V F : Type 0} (cmp : K → K → Ordering) (hash : K → ℕ) (gives : F → K → Option V → Verdict V → Type 0) where
  read_more : (t : Trace K V F) (l : Label K V F) (p : ℕ) (k : K) → HasRead cmp hash gives t p k → HasRead cmp hash gives (l ∷ t) p k
  read_more t (Read q j v) p k h = inr h
  read_more t l p k h = h

  pub read_back : (t : Trace K V F) (l : Label K V F) (p : ℕ) (k : K) → names p l ≡ false → HasRead cmp hash gives (l ∷ t) p k → HasRead cmp hash gives t p k
  read_back t (Read q j v) p k n (inl h) = absurd (eqb-false q p n h.0)
  read_back t (Read q j v) p k n (inr h) = h
  read_back t l p k n h = h

  pub not_begun : (l : Label K V F) (p : ℕ) → names p l ≡ false → begins p l ≡ false
  not_begun (Begin q c) p n = n
  not_begun l p n = refl

  Missing : (Label K V F → Bool) → Trace K V F → ℕ → K → Type 0
  Missing test t p k = HasLacked cmp hash gives test t p k

  missing_more : (test : Label K V F → Bool) (t : Trace K V F) (l : Label K V F) (p : ℕ) (k : K) → begins p l ≡ false → HasLacked cmp hash gives test t p k → HasLacked cmp hash gives test (l ∷ t) p k
  missing_more test t l p k b h = (b, inr h)

  pub missing_now : (test : Label K V F → Bool) (t : Trace K V F) (l : Label K V F) (p : ℕ) (k : K) → begins p l ≡ false → test l ≡ true → at cmp hash (l ∷ t) k ≡ None → HasLacked cmp hash gives test (l ∷ t) p k
  missing_now test t l p k b y h = (b, inl (y, grind (arith, h)))

  -- a class that stayed was not missing
  pub stays_not_missing : (test : Label K V F → Bool) (t : Trace K V F) (p : ℕ) (k : K) → StaysPresent cmp hash gives t p k → HasLacked cmp hash gives test t p k → ⊥
  stays_not_missing test [] p k h m = h
  stays_not_missing test (l ∷ t) p k (h, inl b) (m, n) = grind (arith, b, m)
  stays_not_missing test (l ∷ t) p k (h, inr b) (m, inl n) = grind (arith, h, n)
  stays_not_missing test (l ∷ t) p k (h, inr b) (m, inr n) = stays_not_missing test t p k b n

  -- a label after which the party's mode is another one
  pub advance : (call : Option (Call K V F)) (m n : Mode K V) (t : Trace K V F) (l : Label K V F) (p : ℕ) → begins p l ≡ false → ((k : K) → HasRead cmp hash gives (l ∷ t) p k → HasRead cmp hash gives t p k) → (m ≡ Finished → n ≡ Finished)
      → (call ≡ Some Walk → (k : K) → Remains cmp hash gives m k → HasRead cmp hash gives (l ∷ t) p k ⊎ (HasLacked cmp hash gives (λ _. true) (l ∷ t) p k ⊎ Remains cmp hash gives n k))
      → (call ≡ Some Clear → (k : K) → Remains cmp hash gives m k → HasLacked cmp hash gives (names p) (l ∷ t) p k ⊎ Remains cmp hash gives n k)
      → ((k : K) → Remains cmp hash gives n k → Remains cmp hash gives m k) → AreFrames cmp hash gives n → Progress cmp hash gives call m t p → Progress cmp hash gives call n (l ∷ t) p
  advance call m n t l p b back fin see clear fewer fr g = record {
    unbegun = λ e k h. g.unbegun e k (back k h);
    seen = λ e f k. go e k (g.seen e (λ x. f (fin x)) k);
    unread = λ e f k r h. g.unread e (λ x. f (fin x)) k (fewer k r) (back k h);
    cleared = λ e f k. go' e k (g.cleared e (λ x. f (fin x)) k);
    frames = fr;
  }
    where
      go : call ≡ Some Walk → (k : K) → HasRead cmp hash gives t p k ⊎ (HasLacked cmp hash gives (λ _. true) t p k ⊎ Remains cmp hash gives m k) → HasRead cmp hash gives (l ∷ t) p k ⊎ (HasLacked cmp hash gives (λ _. true) (l ∷ t) p k ⊎ Remains cmp hash gives n k)
      go e k (inl h) = inl (read_more t l p k h)
      go e k (inr (inl h)) = inr (inl (missing_more (λ _. true) t l p k b h))
      go e k (inr (inr h)) = see e k h

      go' : call ≡ Some Clear → (k : K) → HasLacked cmp hash gives (names p) t p k ⊎ Remains cmp hash gives m k → HasLacked cmp hash gives (names p) (l ∷ t) p k ⊎ Remains cmp hash gives n k
      go' e k (inl h) = inl (missing_more (names p) t l p k b h)
      go' e k (inr h) = clear e k h

  -- a label that changes nothing for the party
  pub keeps : (call : Option (Call K V F)) (m : Mode K V) (t : Trace K V F) (l : Label K V F) (p : ℕ) → begins p l ≡ false → ((k : K) → HasRead cmp hash gives (l ∷ t) p k → HasRead cmp hash gives t p k) → Progress cmp hash gives call m t p → Progress cmp hash gives call m (l ∷ t) p
  keeps call m t l p b back g = advance call m m t l p b back (λ x. x) (λ _ k h. inr (inr h)) (λ _ k h. inr h) (λ k h. h) g.frames g

  pub finishes : (call : Option (Call K V F)) (m : Mode K V) (t : Trace K V F) (l : Label K V F) (p : ℕ) → ((k : K) → HasRead cmp hash gives (l ∷ t) p k → HasRead cmp hash gives t p k) → Progress cmp hash gives call m t p → Progress cmp hash gives call Finished (l ∷ t) p
  finishes call m t l p back g = record { unbegun = λ e k h. g.unbegun e k (back k h); seen = λ e f. absurd (f refl); unread = λ e f. absurd (f refl); cleared = λ e f. absurd (f refl); frames = tt }

  -- a call that is no walk and no clear
  pub neither : (call : Option (Call K V F)) (m n : Mode K V) (t : Trace K V F) (l : Label K V F) (p : ℕ) → ((k : K) → HasRead cmp hash gives (l ∷ t) p k → HasRead cmp hash gives t p k) → (call ≡ Some Walk → ⊥) → (call ≡ Some Clear → ⊥) → AreFrames cmp hash gives n → Progress cmp hash gives call m t p → Progress cmp hash gives call n (l ∷ t) p
  neither call m n t l p back w c fr g = record { unbegun = λ e k h. g.unbegun e k (back k h); seen = λ e. absurd (w e); unread = λ e. absurd (w e); cleared = λ e. absurd (c e); frames = fr }

  first_frame : (e : ℕ) (k : K) → (0 < hash k % 2 ^ e) ⊎ InFrames cmp hash gives (record { table = e; index = 0; bound = None } ∷ []) k
  first_frame e k = go (cases_eq (hash k % 2 ^ e) 0)
    where
      go : (hash k % 2 ^ e ≡ 0) ⊎ (hash k % 2 ^ e ≡ 0 → ⊥) → (0 < hash k % 2 ^ e) ⊎ InFrames cmp hash gives (record { table = e; index = 0; bound = None } ∷ []) k
      go (inl h) = inr (inl (h, refl))
      go (inr h) = inl (omega (arith, h))

  pub finds : (call : Option (Call K V F)) (t : Trace K V F) (l : Label K V F) (p e : ℕ) → begins p l ≡ false → ((k : K) → HasRead cmp hash gives (l ∷ t) p k → HasRead cmp hash gives t p k) → Progress cmp hash gives call Locating t p → Progress cmp hash gives call (found_by cmp hash gives call e) (l ∷ t) p
  finds None t l p e b back g = finishes None Locating t l p back g
  finds (Some (Reserve n)) t l p e b back g = neither (Some (Reserve n)) Locating (Done None 0 0) t l p back (λ h. grind (arith, h)) (λ h. grind (arith, h)) tt g
  finds (Some Walk) t l p e b back g = advance (Some Walk) Locating (Walking e 0 (record { table = e; index = 0; bound = None } ∷ [])) t l p b back (λ h. absurd (grind (arith, h))) (λ _ k _. inr (inr (first_frame e k))) (λ _ k _. inr (first_frame e k)) (λ _ _. tt) ((tt, tt), (λ h x. x, tt)) g
  finds (Some Clear) t l p e b back g = advance (Some Clear) Locating (Clearing 0 e 0 (record { table = e; index = 0; bound = None } ∷ [])) t l p b back (λ h. absurd (grind (arith, h))) (λ _ k _. inr (inr (first_frame e k))) (λ _ k _. inr (first_frame e k)) (λ _ _. tt) ((tt, tt), (λ h x. x, tt)) g
  finds call t l p e b back g = neither call Locating (Looking e) t l p back (λ h. grind (arith, h)) (λ h. grind (arith, h)) tt g

  -- what a walk or a clear has yet to come to, in bin i and with these frames
  abbrev Rest : ℕ → ℕ → List (Frame K) → K → Type 0
  Rest e i fs k = (i < hash k % 2 ^ e) ⊎ InFrames cmp hash gives fs k

  -- behind a frame that is done, with the modes of a walk or of a clear
  module _ (to : ℕ → ℕ → List (Frame K) → Mode K V) (end : Mode K V) (e i : ℕ) (f : Frame K) where
    fewer : (fs : List (Frame K)) (k : K) → ((j : ℕ) (gs : List (Frame K)) → Remains cmp hash gives (to e j gs) k → Rest e j gs k) → (Remains cmp hash gives end k → ⊥) → Remains cmp hash gives (onward to end e i fs) k → Rest e i (f ∷ fs) k
    fewer (g ∷ gs) k is over h = more (is i (g ∷ gs) h)
      where
        more : Rest e i (g ∷ gs) k → Rest e i (f ∷ g ∷ gs) k
        more (inl h) = inl h
        more (inr h) = inr (inr h)
    fewer [] k is over h = inl (go (nat_lt (suc i) (2 ^ e)) h)
      where
        next : Rest e (suc i) (record { table = e; index = suc i; bound = None } ∷ []) k → i < hash k % 2 ^ e
        next (inl h) = omega (arith, h)
        next (inr (inl h)) = omega (arith, h.0)
        next (inr (inr h)) = absurd h

        go : (b : Bool) → Remains cmp hash gives (cond b (to e (suc i) (record { table = e; index = suc i; bound = None } ∷ [])) end) k → i < hash k % 2 ^ e
        go true h = next (is (suc i) (record { table = e; index = suc i; bound = None } ∷ []) h)
        go false h = absurd (over h)

    frames : (fs : List (Frame K)) → ((j : ℕ) (gs : List (Frame K)) → Apart cmp hash gives gs × Within cmp hash gives e j gs → AreFrames cmp hash gives (to e j gs)) → AreFrames cmp hash gives end → Apart cmp hash gives (f ∷ fs) × Within cmp hash gives e i (f ∷ fs) → AreFrames cmp hash gives (onward to end e i fs)
    frames (g ∷ gs) is over h = is i (g ∷ gs) (h.0.1, h.1.1)
    frames [] is over h = go (nat_lt (suc i) (2 ^ e))
      where
        go : (b : Bool) → AreFrames cmp hash gives (cond b (to e (suc i) (record { table = e; index = suc i; bound = None } ∷ [])) end)
        go true = is (suc i) (record { table = e; index = suc i; bound = None } ∷ []) ((tt, tt), (λ h x. x, tt))
        go false = over

    rest : (fs : List (Frame K)) (k : K) → ((j : ℕ) (gs : List (Frame K)) → Rest e j gs k → Remains cmp hash gives (to e j gs) k) → Rest e i (f ∷ fs) k → InFrame cmp hash gives f k ⊎ Remains cmp hash gives (onward to end e i fs) k
    rest fs k is (inr (inl h)) = inl h
    rest (g ∷ gs) k is (inl h) = inr (is i (g ∷ gs) (inl h))
    rest (g ∷ gs) k is (inr (inr h)) = inr (is i (g ∷ gs) (inr h))
    rest [] k is (inr (inr h)) = absurd h
    rest [] k is (inl h) = inr (go (nat_lt (suc i) (2 ^ e)) refl (cases_eq (hash k % 2 ^ e) (suc i)))
      where
        go : (b : Bool) → nat_lt (suc i) (2 ^ e) ≡ b → (hash k % 2 ^ e ≡ suc i) ⊎ (hash k % 2 ^ e ≡ suc i → ⊥) → Remains cmp hash gives (cond b (to e (suc i) (record { table = e; index = suc i; bound = None } ∷ [])) end) k
        go true y (inl x) = is (suc i) (record { table = e; index = suc i; bound = None } ∷ []) (inr (inl (x, refl)))
        go true y (inr x) = is (suc i) (record { table = e; index = suc i; bound = None } ∷ []) (inl (omega (arith, h, x)))
        go false y x = absurd (omega (arith, h, mod_below (hash k) (2 ^ e) (pow_pos e), ltb-false _ _ y))

  -- the two halves of a frame
  pub rest_split : (e i : ℕ) (f : Frame K) (fs : List (Frame K)) (k : K) → Rest e i (f ∷ fs) k → Rest e i (halves f fs) k
  rest_split e i f fs k (inl h) = inl h
  rest_split e i f fs k (inr (inr h)) = inr (inr (inr h))
  rest_split e i f fs k (inr (inl h)) = inr (go (in_a_half (hash k) f.table f.index h.0))
    where
      go : (hash k % 2 ^ suc f.table ≡ f.index) ⊎ (hash k % 2 ^ suc f.table ≡ f.index + 2 ^ f.table) → InFrames cmp hash gives (halves f fs) k
      go (inl x) = inl (x, h.1)
      go (inr x) = inr (inl (x, h.1))

  pub rest_joined : (e i : ℕ) (f : Frame K) (fs : List (Frame K)) (k : K) → f.index < 2 ^ f.table → Rest e i (halves f fs) k → Rest e i (f ∷ fs) k
  rest_joined e i f fs k l (inl h) = inl h
  rest_joined e i f fs k l (inr (inl h)) = inr (inl (in_low_half (hash k) f.table f.index l h.0, h.1))
  rest_joined e i f fs k l (inr (inr (inl h))) = inr (inl (in_high_half (hash k) f.table f.index l h.0, h.1))
  rest_joined e i f fs k l (inr (inr (inr h))) = inr (inr h)

  off_half : (f g : Frame K) (fs : List (Frame K)) → ((h : ℕ) → h % 2 ^ g.table ≡ g.index → h % 2 ^ f.table ≡ f.index) → Off cmp hash gives f fs → Off cmp hash gives g fs
  off_half f g [] r o = tt
  off_half f g (x ∷ fs) r o = (λ h a b. o.0 h (r h a) b, off_half f g fs r o.1)

  pub split_frames : (e i : ℕ) (f : Frame K) (fs : List (Frame K)) → f.index < 2 ^ f.table → Apart cmp hash gives (f ∷ fs) × Within cmp hash gives e i (f ∷ fs) → Apart cmp hash gives (halves f fs) × Within cmp hash gives e i (halves f fs)
  split_frames e i f fs l h =
      let low : Frame K = record { table = suc f.table; index = f.index; bound = f.bound } in
      let high : Frame K = record { table = suc f.table; index = f.index + 2 ^ f.table; bound = f.bound } in (
        ((λ u a b. omega (arith, a, b, pow_pos f.table), off_half f low fs (λ u. in_low_half u f.table f.index l) h.0.0), (off_half f high fs (λ u. in_high_half u f.table f.index l) h.0.0, h.0.1)),
        ((λ u a. h.1.0 u (in_low_half u f.table f.index l a)), ((λ u a. h.1.0 u (in_high_half u f.table f.index l a)), h.1.1)),
      )

module _ {K V F : Type 0} (cmp : K → K → Ordering) (total : IsTotalOrder cmp) (hash : K → ℕ) (lawful : (j k : K) → same cmp j k ≡ true → hash j ≡ hash k) (gives : F → K → Option V → Verdict V → Type 0) where
  -- STEPS
  -- what a live bin has at the classes of its region
  pub bin_content : (home : ℕ → ℕ) (s : State K V F) (d j : ℕ) (es : List (Entry K V)) (n : ℕ) (k : K) → Tables cmp hash home s → s.slot d j ≡ Live es n → hash k % 2 ^ d ≡ j → find cmp (pairs_of es) k ≡ at cmp hash s.trace k
  bin_content home s d j es n k t l r = content_at cmp total hash lawful gives home s k d j es n t (homes cmp total hash lawful gives home s d j es n (hash k) t l r) r l

  off_frames : (f : Frame K) (fs : List (Frame K)) (k : K) → Off cmp hash gives f fs → hash k % 2 ^ f.table ≡ f.index → InFrames cmp hash gives fs k → ⊥
  off_frames f [] k o r h = h
  off_frames f (g ∷ fs) k o r (inl h) = o.0 (hash k) r h.0
  off_frames f (g ∷ fs) k o r (inr h) = off_frames f fs k o.1 r h

  pub reads : (home : ℕ → ℕ) (s : State K V F) (p e i : ℕ) (f : Frame K) (fs : List (Frame K)) (es : List (Entry K V)) (n : ℕ) (x : Entry K V) → Enabled cmp hash gives s p (Reads e i f fs es n x) → Tables cmp hash home s → s.call p ≡ Some Walk
      → Progress cmp hash gives (s.call p) (Walking e i (f ∷ fs)) s.trace p → Progress cmp hash gives (s.call p) (Walking e i (record { table = f.table; index = f.index; bound = Some x.key } ∷ fs)) (Read p x.key x.value ∷ s.trace) p
  reads home s p e i f fs es n x can t w g = record {
    unbegun = λ h. absurd (grind (arith, h, w));
    seen = λ h y k. seen k (g.seen h (λ z. grind (arith, z)) k);
    unread = λ h y k r u. unread k r u;
    cleared = λ h. absurd (grind (arith, h, w));
    frames = g.frames;
  }
    where
      asc : IsAscending cmp hash es × InRegion hash f.table f.index es
      asc = t.ascending f.table f.index es n can.1

      place : hash x.key % 2 ^ f.table ≡ f.index
      place = region-first_past cmp total hash lawful f.bound es x f.table f.index asc.1 can.2

      fewer : (k : K) → Remains cmp hash gives (Walking e i (record { table = f.table; index = f.index; bound = Some x.key } ∷ fs)) k → Remains cmp hash gives (Walking e i (f ∷ fs)) k
      fewer k (inl h) = inl h
      fewer k (inr (inl h)) = inr (inl (h.0, past_trans cmp total hash lawful f.bound x.key k (found-first_past cmp total hash lawful f.bound es x asc.0 can.2).1 h.1))
      fewer k (inr (inr h)) = inr (inr h)

      here : (k : K) → hash k % 2 ^ f.table ≡ f.index → past cmp hash f.bound k ≡ true → (b : Bool) → past cmp hash (Some x.key) k ≡ b
          → HasRead cmp hash gives (Read p x.key x.value ∷ s.trace) p k ⊎ (HasLacked cmp hash gives (λ _. true) (Read p x.key x.value ∷ s.trace) p k ⊎ Remains cmp hash gives (Walking e i (record { table = f.table; index = f.index; bound = Some x.key } ∷ fs)) k)
      here k r y true z = inr (inr (inr (inl (r, z))))
      here k r y false z = go (find-first_past cmp total hash lawful f.bound es x k asc.0 can.2 y z)
        where
          go : (same cmp x.key k ≡ true) ⊎ (find cmp (pairs_of es) k ≡ None) → HasRead cmp hash gives (Read p x.key x.value ∷ s.trace) p k ⊎ (HasLacked cmp hash gives (λ _. true) (Read p x.key x.value ∷ s.trace) p k ⊎ Remains cmp hash gives (Walking e i (record { table = f.table; index = f.index; bound = Some x.key } ∷ fs)) k)
          go (inl h) = inl (inl (refl, h))
          go (inr h) = inr (inl (missing_now cmp hash gives (λ _. true) s.trace (Read p x.key x.value) p k refl refl (sym (bin_content home s f.table f.index es n k t can.1 r) ∙ h)))

      seen : (k : K) → HasRead cmp hash gives s.trace p k ⊎ (HasLacked cmp hash gives (λ _. true) s.trace p k ⊎ Remains cmp hash gives (Walking e i (f ∷ fs)) k)
          → HasRead cmp hash gives (Read p x.key x.value ∷ s.trace) p k ⊎ (HasLacked cmp hash gives (λ _. true) (Read p x.key x.value ∷ s.trace) p k ⊎ Remains cmp hash gives (Walking e i (record { table = f.table; index = f.index; bound = Some x.key } ∷ fs)) k)
      seen k (inl h) = inl (inr h)
      seen k (inr (inl h)) = inr (inl (missing_more cmp hash gives (λ _. true) s.trace (Read p x.key x.value) p k refl h))
      seen k (inr (inr (inl h))) = inr (inr (inl h))
      seen k (inr (inr (inr (inr h)))) = inr (inr (inr (inr h)))
      seen k (inr (inr (inr (inl h)))) = here k h.0 h.1 (past cmp hash (Some x.key) k) refl

      unread : (k : K) → Remains cmp hash gives (Walking e i (record { table = f.table; index = f.index; bound = Some x.key } ∷ fs)) k → HasRead cmp hash gives (Read p x.key x.value ∷ s.trace) p k → ⊥
      unread k r (inr h) = g.unread w (λ z. grind (arith, z)) k (fewer k r) h
      unread k (inl r) (inl h) = omega (arith, r, g.frames.1.0 (hash x.key) place, ap (λ n. n % 2 ^ e) (lawful x.key k h.1))
      unread k (inr (inl r)) (inl h) = grind (arith, past_differs cmp total hash lawful x.key k r.1, h.1)
      unread k (inr (inr r)) (inl h) = off_frames f fs k g.frames.0.0 (sym (ap (λ n. n % 2 ^ f.table) (lawful x.key k h.1)) ∙ place) r

  pub read_lawful : (home : ℕ → ℕ) (s : State K V F) (p e i : ℕ) (f : Frame K) (fs : List (Frame K)) (es : List (Entry K V)) (n : ℕ) (x : Entry K V) → Enabled cmp hash gives s p (Reads e i f fs es n x) → Tables cmp hash home s → s.call p ≡ Some Walk
      → Progress cmp hash gives (s.call p) (Walking e i (f ∷ fs)) s.trace p → WalkMay cmp hash gives s.trace (Read p x.key x.value)
  read_lawful home s p e i f fs es n x can t w g =
      let asc : IsAscending cmp hash es × InRegion hash f.table f.index es = t.ascending f.table f.index es n can.1 in
      let place : hash x.key % 2 ^ f.table ≡ f.index = region-first_past cmp total hash lawful f.bound es x f.table f.index asc.1 can.2 in
      let there : (find cmp (pairs_of es) x.key ≡ Some (x.key, x.value)) × (past cmp hash f.bound x.key ≡ true) = found-first_past cmp total hash lawful f.bound es x asc.0 can.2 in
      (sym (bin_content home s f.table f.index es n x.key t can.1 place) ∙ there.0, g.unread w (λ z. grind (arith, z)) x.key (inr (inl (place, there.1))))

  pub leaves : (home : ℕ → ℕ) (s : State K V F) (p e i : ℕ) (f : Frame K) (fs : List (Frame K)) (es : List (Entry K V)) (n : ℕ) → Enabled cmp hash gives s p (Leaves e i f fs es n) → Tables cmp hash home s → s.call p ≡ Some Walk
      → Progress cmp hash gives (s.call p) (Walking e i (f ∷ fs)) s.trace p → Progress cmp hash gives (s.call p) (onward Walking (Done None 0 0) e i fs) (Silent p ∷ s.trace) p
  leaves home s p e i f fs es n can t w g = advance cmp hash gives (s.call p) (Walking e i (f ∷ fs)) (onward Walking (Done None 0 0) e i fs) s.trace (Silent p) p refl (λ k h. h) (λ h. grind (arith, h))
      (λ _ k r. go k (rest cmp hash gives Walking (Done None 0 0) e i f fs k (λ _ _ h. h) r)) (λ h. absurd (grind (arith, h, w))) (λ k r. fewer cmp hash gives Walking (Done None 0 0) e i f fs k (λ _ _ h. h) (λ h. h) r) (frames cmp hash gives Walking (Done None 0 0) e i f fs (λ _ _ h. h) tt g.frames) g
    where
      go : (k : K) → InFrame cmp hash gives f k ⊎ Remains cmp hash gives (onward Walking (Done None 0 0) e i fs) k → HasRead cmp hash gives (Silent p ∷ s.trace) p k ⊎ (HasLacked cmp hash gives (λ _. true) (Silent p ∷ s.trace) p k ⊎ Remains cmp hash gives (onward Walking (Done None 0 0) e i fs) k)
      go k (inr h) = inr (inr h)
      go k (inl h) = inr (inl (missing_now cmp hash gives (λ _. true) s.trace (Silent p) p k refl refl (sym (bin_content home s f.table f.index es n k t can.1 h.0) ∙ find-none_past cmp total hash lawful f.bound es k can.2 h.1)))

  pub wipes : (home : ℕ → ℕ) (s : State K V F) (p wiped e i : ℕ) (f : Frame K) (fs : List (Frame K)) (es : List (Entry K V)) (n : ℕ) → Enabled cmp hash gives s p (Wipes wiped e i f fs es n) → s.call p ≡ Some Clear
      → Progress cmp hash gives (s.call p) (Clearing wiped e i (f ∷ fs)) s.trace p → Progress cmp hash gives (s.call p) (onward (Clearing (wiped + length es)) (Done None 0 (wiped + length es)) e i fs) (Wipe p f.table f.index ∷ s.trace) p
  wipes home s p wiped e i f fs es n can w g = advance cmp hash gives (s.call p) (Clearing wiped e i (f ∷ fs)) (onward (Clearing (wiped + length es)) (Done None 0 (wiped + length es)) e i fs) s.trace (Wipe p f.table f.index) p refl (λ k h. h) (λ h. grind (arith, h))
      (λ h. absurd (grind (arith, h, w))) (λ _ k r. go k (rest cmp hash gives (Clearing (wiped + length es)) (Done None 0 (wiped + length es)) e i f fs k (λ _ _ h. h) r)) (λ k r. fewer cmp hash gives (Clearing (wiped + length es)) (Done None 0 (wiped + length es)) e i f fs k (λ _ _ h. h) (λ h. h) r) (frames cmp hash gives (Clearing (wiped + length es)) (Done None 0 (wiped + length es)) e i f fs (λ _ _ h. h) tt g.frames) g
    where
      go : (k : K) → InFrame cmp hash gives f k ⊎ Remains cmp hash gives (onward (Clearing (wiped + length es)) (Done None 0 (wiped + length es)) e i fs) k → HasLacked cmp hash gives (names p) (Wipe p f.table f.index ∷ s.trace) p k ⊎ Remains cmp hash gives (onward (Clearing (wiped + length es)) (Done None 0 (wiped + length es)) e i fs) k
      go k (inr h) = inr h
      go k (inl h) = inl (missing_now cmp hash gives (names p) s.trace (Wipe p f.table f.index) p k refl (eq-eqb p p refl) (find-wiped cmp total hash lawful f.table f.index (pairs cmp hash s.trace) k ∙ cond-true (in_region f.table f.index (hash k)) None (at cmp hash s.trace k) (eq-eqb _ _ h.0)))
