-- The receipts of shares, one share after another.
use Rattle.std.proofs.Common.{◌≡◌, ◌≤◌, ◌<◌, ◌+◌, ◌&&◌, ℕ, Bool, true, false, List, [], ◌∷◌, ◌++◌, get_or, length, map, take, drop, refl, sym, ap, subst, ◌∙◌, length-append, arith}
use Rattle.std.specs.Prelude.{All, IsTrue, Decides, slice_get, Option, Some, None}
use Rattle.std.specs.List.{list_all}
use Rattle.std.proofs.lemmas.Grind.{flat_map-append}
use Rattle.std.proofs.lemmas.List.{append-nil, map-append, take_all}
use Rattle.std.proofs.lemmas.List.Folds.{list_all-append}
use Rattle.std.proofs.lemmas.List.Sums.{AllPass-from_list_all, list_all-from_AllPass}
use Rattle.std.proofs.lemmas.Option.{slice_get_within}
use Rattle.flurry_seq_recorded.specs.Closing.{all_receipts, places, is_kept, AreNumbered, PlacesStand, HasFault, AllStand, IsClosed}
use Rattle.flurry_seq_recorded.specs.Histories.{Replays}
use Rattle.flurry_seq_recorded.specs.declared.closed.CloseFault.{CloseFault}
use Rattle.std.specs.declared.cmp.Ordering.{Ordering}
use Rattle.flurry_seq_recorded.specs.Marks.{AreMarked, AreOnce}
use Rattle.flurry_seq_recorded.specs.Shares.{ShareContents}
use Rattle.flurry_seq_recorded.specs.declared.kept.KeptCall.{KeptCall}
use Rattle.flurry_seq_recorded.specs.declared.kept.KeptEntry.{KeptEntry}
use Rattle.flurry_seq_recorded.specs.declared.share.Receipt.{Receipt}
use Rattle.flurry_base.specs.declared.reply.KeptReply.{KeptReply}
use Rattle.flurry_seq_recorded.proofs.PlaceLemmas.{take_next, parted, all_from_map}
use Rattle.flurry_seq_recorded.proofs.MarkLemmas.{once_from_distinct, distinct_from_once, below_from_once}
use Rattle.std.specs.List.Sorted.{IsStrictlyIncreasing}
use Rattle.std.proofs.lemmas.List.Elements.{All-map}

-- The next of some shares is s, at i.
module _ {K V : Type 0} (ss : List (ShareContents K V)) (i : ℕ) (s : ShareContents K V) (within : i < length ss) (is : s ≡ get_or ss i s) where
  abbrev before : List (Receipt K V)
  before = all_receipts (take i ss)

  abbrev behind : List (Receipt K V)
  behind = all_receipts (drop (i + 1) ss)

  joined : all_receipts (take i ss ++ s ∷ []) ≡ before ++ s.receipts
  joined = flat_map-append (λ (t : ShareContents K V). t.receipts) (take i ss) (s ∷ []) ∙ ap (λ l. before ++ l) (append-nil s.receipts)

  receipts_next : all_receipts (take (i + 1) ss) ≡ before ++ s.receipts
  receipts_next = ap (λ l. all_receipts l) (take_next ss i s within is) ∙ joined

  receipts_parted : all_receipts ss ≡ (before ++ s.receipts) ++ behind
  receipts_parted =
      ap (λ l. all_receipts l) (parted ss i s within is) ∙ flat_map-append (λ (t : ShareContents K V). t.receipts) (take i ss ++ s ∷ []) (drop (i + 1) ss)
      ∙ ap (λ l. l ++ behind) joined

  pub count_next : length (all_receipts (take (i + 1) ss)) ≡ length before + length s.receipts
  count_next = ap length receipts_next ∙ length-append before s.receipts

  pub count_up_to : length before + length s.receipts ≤ length (all_receipts ss)
  count_up_to = omega (arith, ap length receipts_parted, length-append (before ++ s.receipts) behind, length-append before s.receipts)

  -- the places of s have their marks too
  pub marked_share : (marks : List Bool) (rs : List (Receipt K V)) → rs ≡ s.receipts → AreMarked marks (places before ++ places rs) → AreMarked marks (places (all_receipts (take (i + 1) ss)))
  marked_share marks rs same marked =
      subst (λ l. AreMarked marks l)
      (ap (λ l. places before ++ places l) same ∙ sym (ap (λ l. places l) receipts_next ∙ map-append (λ (r : Receipt K V). r.place) before s.receipts)) marked

  -- the places of s cannot all be marked
  pub not_once_share : (n m : ℕ) (rs : List (Receipt K V)) → n ≡ m → rs ≡ s.receipts → ((ys : List ℕ) → ¬ AreOnce m (places before ++ places rs ++ ys)) → ¬ AreOnce n (places (all_receipts ss))
  not_once_share n m rs count same never once =
      let place = λ (r : Receipt K V). r.place in
      let whole : places (all_receipts ss) ≡ places before ++ places rs ++ places behind =
      ap (λ l. places l) receipts_parted ∙ map-append place (before ++ s.receipts) behind ∙ ap (λ l. l ++ places behind) (map-append place before s.receipts)
      ∙ ap (λ l. places before ++ places l ++ places behind) (sym same) in
      never (places behind) (subst (λ k. AreOnce k (places before ++ places rs ++ places behind)) count (subst (λ l. AreOnce n l) whole once))

module _ {K V : Type 0} where
  pub marked_shares : (marks : List Bool) (ss : List (ShareContents K V)) (i : ℕ) → length ss ≤ i → AreMarked marks (places (all_receipts (take i ss))) → AreMarked marks (places (all_receipts ss))
  marked_shares marks ss i past marked = subst (λ l. AreMarked marks (places (all_receipts l))) (take_all i ss past) marked

  -- the shares' numbers, by a test of their marks
  pub numbered : (k n : ℕ) (ss : List (ShareContents K V)) (b : Bool) → k ≡ n → length ss ≡ n → Decides b (AreOnce k (map (λ (s : ShareContents K V). s.number) ss)) → Decides b (AreNumbered n ss)
  numbered k n ss b count as_many tells =
      let number = λ (s : ShareContents K V). s.number in (
        (λ yes.
            let once = subst (λ m. AreOnce m (map number ss)) count (tells.0 yes) in
            (as_many, all_from_map number (λ x. x < n) ss (below_from_once n (map number ss) once), distinct_from_once n (map number ss) once)),
        (λ stand.
            tells.1 (subst (λ m. AreOnce m (map number ss)) (sym count) (once_from_distinct n (map number ss) stand.2 (All-map (λ x. x < n) number ss stand.1)))),
      )

  -- the places of their receipts, by a test of the marks
  pub placed : (k n : ℕ) (ss : List (ShareContents K V)) (b : Bool) → k ≡ n → All (λ s. IsStrictlyIncreasing (places s.receipts)) ss → All (λ r. r.place < n) (all_receipts ss)
      → Decides b (AreOnce k (places (all_receipts ss))) → Decides b (PlacesStand ss)
  placed k n ss b count ascend within tells = (
    (λ yes. record { ascend = ascend; once = distinct_from_once k (places (all_receipts ss)) (tells.0 yes) }),
    (λ stand.
        tells.1
        (subst (λ m. AreOnce m (places (all_receipts ss))) (sym count)
        (once_from_distinct n (places (all_receipts ss)) stand.once (All-map (λ x. x < n) (λ (r : Receipt K V). r.place) (all_receipts ss) within)))),
  )

  module _ (p : Receipt K V → Bool) where
    tests_all : (ss : List (ShareContents K V)) → list_all (λ (s : ShareContents K V). list_all p s.receipts) ss ≡ list_all p (all_receipts ss)
    tests_all [] = refl
    tests_all (s ∷ ss) = ap (λ b. list_all p s.receipts && b) (tests_all ss) ∙ sym (list_all-append p s.receipts (all_receipts ss))

    pub all_pass : (ss : List (ShareContents K V)) → list_all (λ (s : ShareContents K V). list_all p s.receipts) ss ≡ true → All (λ r. IsTrue (p r)) (all_receipts ss)
    all_pass ss is = AllPass-from_list_all p (all_receipts ss) (sym (tests_all ss) ∙ is)

    pub not_all_pass : (ss : List (ShareContents K V)) → list_all (λ (s : ShareContents K V). list_all p s.receipts) ss ≡ false → ¬ All (λ r. IsTrue (p r)) (all_receipts ss)
    not_all_pass ss is all = let yes = list_all-from_AllPass p (all_receipts ss) all in let no = tests_all ss in cc

  -- a receipt that is kept has its place in the history
  pub kept_within : (same_call : KeptCall K V → KeptCall K V → Bool) (same_reply : KeptReply K V → KeptReply K V → Bool) (history : List (KeptEntry K V)) (rs : List (Receipt K V))
      → All (λ r. IsTrue (is_kept same_call same_reply history r)) rs → All (λ r. r.place < length history) rs
  kept_within same_call same_reply history rs kept k d within = by_case (get_or rs k d) (slice_get history (get_or rs k d).place) refl (kept k d within)
    where
      by_case : (r : Receipt K V) (o : Option (KeptEntry K V)) → slice_get history r.place ≡ o → IsTrue (is_kept same_call same_reply history r) → r.place < length history
      by_case r (Some e) is kept = slice_get_within history r.place e is
      by_case r None is kept = let never = rw is at kept in cc

module _ {K V : Type 0} (same_call : KeptCall K V → KeptCall K V → Bool) (same_reply : KeptReply K V → KeptReply K V → Bool) where
  -- a fault, told of equal lists
  pub fault_of : (n m : ℕ) (h k : List (KeptEntry K V)) (ss ts : List (ShareContents K V)) (f : CloseFault) → n ≡ m → h ≡ k → ss ≡ ts → HasFault same_call same_reply n h ss f → HasFault same_call same_reply m k ts f
  fault_of n m h k ss ts f same_n same_h same_s has =
      subst (λ x. HasFault same_call same_reply x k ts f) same_n (subst (λ x. HasFault same_call same_reply n x ts f) same_h (subst (λ x. HasFault same_call same_reply n h x f) same_s has))

  -- shares without a fault, and a history that replays
  pub closed_of : (cmp : K → K → Ordering) (n : ℕ) (h k : List (KeptEntry K V)) (ss ts : List (ShareContents K V)) (pairs : List (K × V)) → h ≡ k → ss ≡ ts → AllStand same_call same_reply n h ss → Replays cmp k pairs → IsClosed same_call same_reply cmp k pairs ts
  closed_of cmp n h k ss ts pairs same_h same_s all replays =
      let here : AllStand same_call same_reply n k ts = subst (λ x. AllStand same_call same_reply n x ts) same_h (subst (λ x. AllStand same_call same_reply n h x) same_s all) in
      record { replays = replays; stand = subst (λ m. AllStand same_call same_reply m k ts) (sym here.stand.numbered.0) here }
