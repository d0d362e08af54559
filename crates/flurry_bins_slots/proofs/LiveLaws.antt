-- A call of a bin as a step at the live bin that it is.
use Rattle.std.proofs.Common.{◌≡◌, ℕ, Bool, false, not, if◌then◌else◌, ◌&&◌, nat_le, List, [], ◌∷◌, length, Option, None, Some, option_map, is_none, refl, sym, ap, ◌∙◌, subst}
use Rattle.std.specs.Option.{IsNone, IsSome, is_some}
use Rattle.std.specs.Arc.{arc_value}
use Rattle.std.specs.declared.sync.Arc.{Arc}
use Rattle.std.specs.Cmp.{IsTotalOrder}
use Rattle.std.specs.List.{AllByRecursion}
use Rattle.std.specs.Map.{keys_of}
use Rattle.std.proofs.lemmas.List.{length-map}
use Rattle.flurry_bins.specs.declared.bin.adaptive.Bin.{Bin}
use Rattle.flurry_bins.specs.declared.bin.entry.Entry.{Entry}
use Rattle.flurry_bins.specs.Bin.{entries_of_bin, ascending_of_bin, sized_of_bin, is_tree}
use Rattle.flurry_base.specs.BinSizes.{IsSized, asks_for_growth, grows_into_tree}
use Rattle.flurry_bins.specs.Entries.{IsInsertion, entry_at, with_entry, with_value_at, without as without_place, with_bit}
use Rattle.flurry_base.specs.FiniteMap.{with_pair, without}
use Rattle.flurry_bins_slots.specs.LiveView.{live_of}
use Rattle.flurry_base.specs.HashOrder.{hash_then_key}
use Rattle.flurry_bins.specs.PlainEntries.{numbered_pair, numbered_pairs}
use Rattle.flurry_base.specs.HashOrder.{InRegion}
use Rattle.flurry_bins.specs.PlainEntries.{AllInRegion}
use Rattle.flurry_bins_slots.specs.Slot.{PlainEntry, Live, IsLiveIn, entry_of_live, after_write, after_take, half, next_number, write_reply}
use Rattle.flurry_base.proofs.OptionLaws.{absent_is}
use Rattle.flurry_bins.proofs.PlainEntryLaws.{paired-entry_at, paired-without, paired-with_entry, paired-with_value_at, paired-with_bit, paired-ascending, paired-region}

-- what a slot sees of an entry beside its place
abbrev pub value_and_number : {K V A : Type 0} → Entry K V A → V × ℕ
value_and_number d = (arc_value d.value, d.number)

live_alike : {K V : Type 0} {plain_entries plain_entries' : List (PlainEntry K V)} {tree tree' : Bool} (writes : ℕ) → plain_entries ≡ plain_entries' → tree ≡ tree'
    → ◌≡◌ {A = Live K V} (record { plain_entries = plain_entries; tree = tree; writes = writes }) (record { plain_entries = plain_entries'; tree = tree'; writes = writes })
live_alike {plain_entries = plain_entries} {plain_entries' = plain_entries'} {tree = tree} writes e f = ap (λ x. record { plain_entries = x; tree = tree; writes = writes }) e ∙ ap (λ x. record { plain_entries = plain_entries'; tree = x; writes = writes }) f

region_of_held : {K V A : Type 0} (table index : ℕ) (es : List (Entry K V A)) → AllByRecursion (λ (q : ℕ × K). InRegion table index q.0) (keys_of (numbered_pairs es)) → AllInRegion table index es
region_of_held table index [] h = tt
region_of_held table index (d ∷ es) h = (h.0, region_of_held table index es h.1)

is_absent : {X : Type 0} (w : Option X) → w ≡ None → IsNone w
is_absent None h = refl
is_absent (Some x) h = cc

is_there : {X Y : Type 0} (f : X → Y) (w : Option X) {y : Y} → option_map f w ≡ Some y → IsSome w
is_there f None h = cc
is_there f (Some x) h = refl

module _ {K V A : Type 0} {o : _} {e : _} {p : _} (b : Bin K V A o e p) (n : ℕ) where
  pub live_found : (h : ℕ) (k : K) → entry_of_live o.cmp (live_of b n) h k ≡ option_map numbered_pair (entry_at o.cmp h k (entries_of_bin b))
  live_found h k = paired-entry_at o.cmp value_and_number h k (entries_of_bin b)

  pub IsLiveIn-bin : (table index : ℕ) → AllInRegion table index (entries_of_bin b) → IsLiveIn o.cmp table index (live_of b n)
  IsLiveIn-bin table index all = record {
    ascends = paired-ascending o.cmp value_and_number (entries_of_bin b) (ascending_of_bin b);
    sized = subst (IsSized (is_tree b)) (sym (length-map (entries_of_bin b) numbered_pair)) (sized_of_bin b);
    region = paired-region o.cmp value_and_number table index (entries_of_bin b) all;
  }

  -- and back
  pub live_region : (table index : ℕ) → IsLiveIn o.cmp table index (live_of b n) → AllInRegion table index (entries_of_bin b)
  live_region table index l = region_of_held table index (entries_of_bin b) l.region

  module _ (total : IsTotalOrder o.cmp) (c : Bin K V A o e p) where
    pub live_rewritten : (bins h : ℕ) (k : K) (v : Arc V A) → IsSome (entry_at o.cmp h k (entries_of_bin b)) → entries_of_bin c ≡ with_value_at o.cmp h k v (next_number n) (entries_of_bin b) → is_tree c ≡ is_tree b
        → live_of c (next_number n) ≡ after_write o.cmp bins (live_of b n) h k (arc_value v)
    live_rewritten bins h k v some is kind =
        let there : is_none (entry_of_live o.cmp (live_of b n) h k) ≡ false = ap is_none (live_found h k) ∙ here (entry_at o.cmp h k (entries_of_bin b)) some in
        live_alike (next_number n)
        (ap numbered_pairs is ∙ paired-with_value_at total value_and_number h k v (next_number n) (arc_value v, next_number n) (entries_of_bin b) (λ d. refl) (ascending_of_bin b) some)
        (rw there kind)
      where
        here : (w : Option (Entry K V A)) → IsSome w → is_none (option_map numbered_pair w) ≡ false
        here None s = cc
        here (Some x) s = refl

    pub live_added : (bins : ℕ) (x : Entry K V A) → x.number ≡ next_number n → IsNone (entry_at o.cmp x.hash (arc_value x.key) (entries_of_bin b)) → entries_of_bin c ≡ with_entry o.cmp x (entries_of_bin b)
        → is_tree c ≡ grows_into_tree bins (is_tree b) (length (entries_of_bin b)) → live_of c (next_number n) ≡ after_write o.cmp bins (live_of b n) x.hash (arc_value x.key) (arc_value x.value)
    live_added bins x number none is kind =
        let absent : entry_of_live o.cmp (live_of b n) x.hash (arc_value x.key) ≡ None = live_found x.hash (arc_value x.key) ∙ ap (option_map numbered_pair) (absent_is _ none) in
        live_alike (next_number n)
        (ap numbered_pairs is ∙ paired-with_entry total value_and_number x (entries_of_bin b) (ascending_of_bin b) none
        ∙ ap (λ m. with_pair (hash_then_key o.cmp) (numbered_pairs (entries_of_bin b)) (x.hash, arc_value x.key) (arc_value x.value, m)) number)
        (rw absent (kind ∙ ap (grows_into_tree bins (is_tree b)) (sym (length-map (entries_of_bin b) numbered_pair))))

    -- an insertion in one pass, by the value that the key had
    pub live_inserted : (bins h : ℕ) (k : K) (v : Arc V A) (old : Option (Arc V A)) → IsInsertion o.cmp h k v (next_number n) old (entries_of_bin b) (entries_of_bin c)
        → is_tree c ≡ (if is_some old then is_tree b else grows_into_tree bins (is_tree b) (length (entries_of_bin b))) → live_of c (next_number n) ≡ after_write o.cmp bins (live_of b n) h k (arc_value v)
    live_inserted bins h k v None i kind =
        let x = i.1 in
        let of = i.2 in
        let none : IsNone (entry_at o.cmp x.hash (arc_value x.key) (entries_of_bin b)) = rw (of.0, of.1) (is_absent _ i.0) in
        live_added bins x of.3 none i.3 kind ∙ ap (λ j. after_write o.cmp bins (live_of b n) j (arc_value x.key) (arc_value x.value)) of.0
        ∙ ap (λ j. after_write o.cmp bins (live_of b n) h j (arc_value x.value)) of.1 ∙ ap (λ j. after_write o.cmp bins (live_of b n) h k (arc_value j)) of.2
    live_inserted bins h k v (Some w) i kind = live_rewritten bins h k v (is_there _ _ i.0) i.1 kind

    pub live_taken : (h : ℕ) (k : K) → entries_of_bin c ≡ without_place o.cmp h k (entries_of_bin b) → is_tree c ≡ (is_tree b && nat_le 7 (length (entries_of_bin c))) → live_of c n ≡ after_take o.cmp (live_of b n) h k
    live_taken h k is kind =
        let same : numbered_pairs (entries_of_bin c) ≡ without (hash_then_key o.cmp) (numbered_pairs (entries_of_bin b)) (h, k) = ap numbered_pairs is ∙ paired-without total value_and_number h k (entries_of_bin b) (ascending_of_bin b) in
        live_alike n same (kind ∙ ap (λ m. is_tree b && nat_le 7 m) (sym (length-map (entries_of_bin c) numbered_pair) ∙ ap length same))

  pub live_half : (c : Bin K V A o e p) (place bit : ℕ) → entries_of_bin c ≡ with_bit place bit (entries_of_bin b) → is_tree c ≡ (is_tree b && nat_le 7 (length (entries_of_bin c))) → live_of c n ≡ half place bit (live_of b n)
  live_half c place bit is kind =
      let same = ap numbered_pairs is ∙ paired-with_bit o.cmp value_and_number place bit (entries_of_bin b) in
      live_alike n same (kind ∙ ap (λ m. is_tree b && nat_le 7 m) (sym (length-map (entries_of_bin c) numbered_pair) ∙ ap length same))

-- the old value of an entry that is there
pub value_of_entry : {K V A : Type 0} (w : Option (Entry K V A)) (v : Arc V A) → option_map (λ (d : Entry K V A). d.value) w ≡ Some v → option_map (λ (d : PlainEntry K V). d.1.0) (option_map numbered_pair w) ≡ Some (arc_value v)
value_of_entry None v h = cc
value_of_entry (Some x) v h = let same : x.value ≡ v = cc in ap (λ y. Some (arc_value y)) same

some_reply : {X Y : Type 0} (f : X → Y) (w : Option X) (y : Y) (q : Bool) → option_map f w ≡ Some y → ◌≡◌ {A = Option Y × Bool} (Some y, false) (option_map f w, is_none w && q)
some_reply f None y q h = cc
some_reply f (Some x) y q h = ap {B = Option _ × Bool} (λ z. (z, false)) (sym h)

-- what an insertion in one pass answers
pub inserted_reply : {K V A : Type 0} {o : _} {e : _} {p : _} (b : Bin K V A o e p) (n bins h : ℕ) (k : K) (v : Arc V A) (m : ℕ) (old : Option (Arc V A)) (new : List (Entry K V A)) (asking : Bool)
    → IsInsertion o.cmp h k v m old (entries_of_bin b) new → asking ≡ (not (is_some old) && asks_for_growth bins (is_tree b) (length (entries_of_bin b)))
    → ◌≡◌ {A = Option V × Bool} (option_map arc_value old, asking) (write_reply o.cmp bins (live_of b n) h k)
inserted_reply {o = o} b n bins h k v m None new asking i is =
    let absent = live_found b n h k ∙ ap (option_map numbered_pair) i.0 in
    rw (absent, length-map (entries_of_bin b) numbered_pair, is) refl
inserted_reply {o = o} b n bins h k v m (Some w) new asking i is =
    let there = value_of_entry (entry_at o.cmp h k (entries_of_bin b)) w i.0 in
    rw (is, live_found b n h k) (some_reply _ (option_map numbered_pair (entry_at o.cmp h k (entries_of_bin b))) (arc_value w) _ there)
