-- An insertion at a place, into a tree and into a list, and what is known of the entries after it.
use Rattle.std.proofs.Common.{◌≡◌, ℕ, ◌+◌, arith, Bool, true, false, List, [], ◌∷◌, ◌++◌, length, reverse, ◌≤◌, Option, Some, None, Result, Ok, Err, IfOk, OnErr, refl, sym, ap, ◌∙◌, cond, append_assoc}
use Rattle.std.specs.List.{filter}
use Rattle.std.specs.declared.cmp.Ordering.{Ordering}
use Rattle.std.specs.declared.cmp.Ordering.TheVariants.{Less, Greater}
use Rattle.std.specs.Ordering.{is_lt, match_ordering}
use Rattle.std.specs.Cmp.{IsTotalOrder}
use Rattle.std.specs.Option.{option_map, is_some, IsNone}
use Rattle.std.specs.Arc.{arc_value}
use Rattle.std.specs.declared.sync.Arc.{Arc}
use Rattle.flurry_bins.specs.declared.bin.entry.Entry.{Entry}
use Rattle.flurry_base.specs.declared.given.NotInserted.{NotInserted}
use Rattle.flurry_base.specs.declared.given.Replaced.{Replaced}
use Rattle.flurry_bins.specs.declared.bin.node.Colour.{Colour}
use Rattle.flurry_bins.specs.Entries.{place_cmp, entry_cmp, IsAscending, is_at, is_before, is_past, entry_at, with_entry, with_value, AllBefore, IsEntryOf, IsInsertion}
use Rattle.flurry_base.specs.Given.{old_of}
use Rattle.flurry_bins.specs.Balance.{balance_left, balance_right, put_tree, with_black_root}
use Rattle.flurry_bins.specs.Rewrite.{tree_with_value, tree_value}
use Rattle.flurry_bins.specs.Tree.{Tree, fork, inorder, IsRedBlack}
use Rattle.flurry_bins.specs.TreeInsertion.{IsTreeInsertion}
use Rattle.flurry_base.proofs.ListParts.{sorted_back}
use Rattle.flurry_bins.proofs.Edits.{IsPartition, all_reverse, found_there, none_at, replaced_there, put_at}
use Rattle.flurry_bins.proofs.Insertion.{with_entry-ok, inorder-put_tree, put_tree-grown}
use Rattle.flurry_bins.proofs.RedBlack.{with_black_root-ok}
use Rattle.flurry_bins.proofs.Places.{AllPast, past_rest, entry_at-back, entry_at-front, before-front, past-front, with_value_at-front}
use Rattle.flurry_bins.proofs.Rewriting.{recoloured, with_value_at-ascending, length-with_value_at, tree_value-is, inorder-tree_with_value}

-- none found, as a value
no_entry : {X Y : Type 0} (f : X → Y) (o : Option X) → option_map f o ≡ None → o ≡ None
no_entry f None h = refl
no_entry f (Some x) h = cc

none_is : {X : Type 0} (o : Option X) → o ≡ None → IsNone o
none_is None h = refl
none_is (Some x) h = cc

-- an old value comes back just where a pair does
pub old_of-some : {K V A : Type 0} (r : Option (Replaced K V A)) {b : Bool} → is_some r ≡ b → is_some (old_of r) ≡ b
old_of-some None is = is
old_of-some (Some it) is = is

module _ {K V A : Type 0} (cmp : K → K → Ordering) (h : ℕ) (k : K) (v : Arc V A) (n : ℕ) (c : Colour) (l : Tree (Entry K V A)) (e : Entry K V A) (r : Tree (Entry K V A)) where
  led : {s : Ordering} → place_cmp cmp h k e ≡ s → tree_value cmp h k (fork c l e r) ≡ match_ordering s (tree_value cmp h k l) (Some e.value) (tree_value cmp h k r)
  led q = ap (λ s. match_ordering s (tree_value cmp h k l) (Some e.value) (tree_value cmp h k r)) q

  way : {s : Ordering} → place_cmp cmp h k e ≡ s → tree_with_value cmp h k v n (fork c l e r) ≡ match_ordering s (fork c (tree_with_value cmp h k v n l) e r) (fork c l (with_value e v n) r) (fork c l e (tree_with_value cmp h k v n r))
  way q = ap (λ s. match_ordering s (fork c (tree_with_value cmp h k v n l) e r) (fork c l (with_value e v n) r) (fork c l e (tree_with_value cmp h k v n r))) q

  -- a new entry below a tree's root, on the side of its place
  pub put_left : (old : Option (Arc V A)) (new : Tree (Entry K V A)) → place_cmp cmp h k e ≡ Less → is_some old ≡ false → IsTreeInsertion cmp h k v n old l new → IsTreeInsertion cmp h k v n old (fork c l e r) (balance_left c new e r)
  put_left (Some w) new q is i = cc
  put_left None new q is i =
      let x = i.1 in
      let of = i.2 in
      let turn : entry_cmp cmp x e ≡ Less = ap (λ a. place_cmp cmp a (arc_value x.key) e) of.0 ∙ ap (λ a. place_cmp cmp h a e) of.1 ∙ q in
      let here = ap (λ s. cond (is_lt s) (balance_left c (put_tree cmp x l) e r) (balance_right c l e (put_tree cmp x r))) turn in
      (led q ∙ i.0, x, of, ap (λ t. balance_left c t e r) i.3 ∙ sym here)

  pub put_right : (old : Option (Arc V A)) (new : Tree (Entry K V A)) → place_cmp cmp h k e ≡ Greater → is_some old ≡ false → IsTreeInsertion cmp h k v n old r new → IsTreeInsertion cmp h k v n old (fork c l e r) (balance_right c l e new)
  put_right (Some w) new q is i = cc
  put_right None new q is i =
      let x = i.1 in
      let of = i.2 in
      let turn : entry_cmp cmp x e ≡ Greater = ap (λ a. place_cmp cmp a (arc_value x.key) e) of.0 ∙ ap (λ a. place_cmp cmp h a e) of.1 ∙ q in
      let here = ap (λ s. cond (is_lt s) (balance_left c (put_tree cmp x l) e r) (balance_right c l e (put_tree cmp x r))) turn in
      (led q ∙ i.0, x, of, ap (λ t. balance_right c l e t) i.3 ∙ sym here)

  -- another value there
  pub written_left : (old : Option (Arc V A)) (new : Tree (Entry K V A)) → place_cmp cmp h k e ≡ Less → is_some old ≡ true → IsTreeInsertion cmp h k v n old l new → IsTreeInsertion cmp h k v n old (fork c l e r) (fork c new e r)
  written_left None new q is i = cc
  written_left (Some w) new q is i = (led q ∙ i.0, ap (λ t. fork c t e r) i.1 ∙ sym (way q))

  pub written_right : (old : Option (Arc V A)) (new : Tree (Entry K V A)) → place_cmp cmp h k e ≡ Greater → is_some old ≡ true → IsTreeInsertion cmp h k v n old r new → IsTreeInsertion cmp h k v n old (fork c l e r) (fork c l e new)
  written_right None new q is i = cc
  written_right (Some w) new q is i = (led q ∙ i.0, ap (λ t. fork c l e t) i.1 ∙ sym (way q))

module _ {K V A : Type 0} {cmp : K → K → Ordering} (o : IsTotalOrder cmp) (h : ℕ) (k : K) (v : Arc V A) (n : ℕ) where
  -- of the place where a new entry has none before it
  absent : (es : List (Entry K V A)) (x : Entry K V A) → IsEntryOf h k v n x → entry_at cmp h k es ≡ None → IsNone (entry_at cmp x.hash (arc_value x.key) es)
  absent es x of none = rw (of.0, of.1) (none_is (entry_at cmp h k es) none)

  -- the entries of a tree
  pub tree_insertion : (old : Option (Arc V A)) (t new : Tree (Entry K V A)) → IsAscending cmp (inorder t) → IsTreeInsertion cmp h k v n old t new → IsInsertion cmp h k v n old (inorder t) (inorder new)
  tree_insertion None t new up i =
      let none = no_entry (λ e. e.value) (entry_at cmp h k (inorder t)) (sym (tree_value-is o h k t up) ∙ i.0) in
      let x = i.1 in
      (none, x, i.2, ap inorder i.3 ∙ inorder-put_tree o x t up (absent (inorder t) x i.2 none))
  tree_insertion (Some old) t new up i = (sym (tree_value-is o h k t up) ∙ i.0, ap inorder i.1 ∙ inorder-tree_with_value o h k v n t up)

  -- entries before the place stand in front
  pub insertion-front : (old : Option (Arc V A)) (ds es new : List (Entry K V A)) → AllBefore cmp h k ds → IsInsertion cmp h k v n old es new → IsInsertion cmp h k v n old (ds ++ es) (ds ++ new)
  insertion-front None ds es new b i =
      let x = i.1 in
      let of = i.2 in
      let b' : AllBefore cmp x.hash (arc_value x.key) ds = rw (of.0, of.1) b in
      let first = before-front cmp x.hash (arc_value x.key) ds es b' in
      let last = past-front cmp x.hash (arc_value x.key) ds es b' in
      let here : with_entry cmp x (ds ++ es) ≡ ds ++ with_entry cmp x es =
      ap (λ t. t ++ x ∷ filter (is_past cmp x.hash (arc_value x.key)) (ds ++ es)) first ∙ ap (λ t. (ds ++ filter (is_before cmp x.hash (arc_value x.key)) es) ++ x ∷ t) last ∙ append_assoc ds _ _ in
      (entry_at-front cmp h k ds es b ∙ i.0, x, of, ap (λ t. ds ++ t) i.3 ∙ sym here)
  insertion-front (Some old) ds es new b i = (ap (option_map (λ e. e.value)) (entry_at-front cmp h k ds es b) ∙ i.0, ap (λ t. ds ++ t) i.1 ∙ sym (with_value_at-front cmp h k ds es b v n))

  -- a red-black tree stays one, if its root is made black where an entry is new
  pub balanced-put : (old : Option (Arc V A)) (t new : Tree (Entry K V A)) → is_some old ≡ false → IsRedBlack t → IsTreeInsertion cmp h k v n old t new → IsRedBlack (with_black_root new)
  balanced-put (Some w) t new is b i = cc
  balanced-put None t new is b i = let x = i.1 in rw i.3 (with_black_root-ok _ (put_tree cmp x t) (put_tree-grown cmp x t b).nearly)

  pub balanced-written : (old : Option (Arc V A)) (t new : Tree (Entry K V A)) → is_some old ≡ true → IsRedBlack t → IsTreeInsertion cmp h k v n old t new → IsRedBlack new
  balanced-written None t new is b i = cc
  balanced-written (Some w) t new is b i = rw i.1 (recoloured cmp h k v n t b).balanced

  pub insertion-ascending : (old : Option (Arc V A)) (es new : List (Entry K V A)) → IsAscending cmp es → IsInsertion cmp h k v n old es new → IsAscending cmp new
  insertion-ascending None es new up i = let x = i.1 in rw i.3 (with_entry-ok o x es up (absent es x i.2 i.0)).ascending
  insertion-ascending (Some old) es new up i = rw i.1 (with_value_at-ascending cmp h k v n es up)

  -- no old value: there was no entry
  pub insertion-none : (old : Option (Arc V A)) (es new : List (Entry K V A)) → is_some old ≡ false → IsInsertion cmp h k v n old es new → IsInsertion cmp h k v n None es new
  insertion-none None es new is i = i
  insertion-none (Some old) es new is i = cc

  -- one more entry where the place was free, and else as many
  pub insertion-longer : (old : Option (Arc V A)) (es new : List (Entry K V A)) → is_some old ≡ false → IsAscending cmp es → IsInsertion cmp h k v n old es new → length new ≡ length es + 1
  insertion-longer None es new is up i = let x = i.1 in ap length i.3 ∙ (with_entry-ok o x es up (absent es x i.2 i.0)).longer
  insertion-longer (Some old) es new is up i = cc

  pub insertion-as_long : (old : Option (Arc V A)) (es new : List (Entry K V A)) → is_some old ≡ true → IsInsertion cmp h k v n old es new → length new ≡ length es
  insertion-as_long None es new is i = cc
  insertion-as_long (Some old) es new is i = ap length i.1 ∙ length-with_value_at cmp h k v n es

  pub insertion-no_shorter : (r : Result (Option (Replaced K V A)) (NotInserted K V A)) (es new : List (Entry K V A)) → IsAscending cmp es → IfOk r (λ it. IsInsertion cmp h k v n (old_of it) es new) → OnErr r (new ≡ es) → length es ≤ length new
  insertion-no_shorter (Ok None) es new up ok err = omega (arith, insertion-longer None es new refl up ok)
  insertion-no_shorter (Ok (Some it)) es new up ok err = omega (arith, insertion-as_long (Some it.old) es new refl ok)
  insertion-no_shorter (Err e) es new up ok err = omega (arith, ap length err)

  -- into a list that nothing stands before the place in
  pub insertion-at : (e : Entry K V A) (es : List (Entry K V A)) → IsAscending cmp (e ∷ es) → is_at cmp h k e ≡ true → IsInsertion cmp h k v n (Some e.value) (e ∷ es) (with_value e v n ∷ es)
  insertion-at e es up at = (ap (option_map (λ e. e.value)) (found_there o h k [] tt e es up at), sym (replaced_there o h k [] tt e es up at v n))

  pub insertion-past : (es : List (Entry K V A)) (x : Entry K V A) → IsAscending cmp es → AllPast cmp h k es → IsEntryOf h k v n x → IsInsertion cmp h k v n None es (x ∷ es)
  insertion-past es x up p of =
      let p' : AllPast cmp x.hash (arc_value x.key) es = rw (of.0, of.1) p in
      (entry_at-back cmp h k [] es p, x, of, (put_at o x [] es tt p' up).is)

  pub insertion-before : (e : Entry K V A) (es : List (Entry K V A)) (x : Entry K V A) → IsAscending cmp (e ∷ es) → is_before cmp h k e ≡ false → is_at cmp h k e ≡ false → IsEntryOf h k v n x → IsInsertion cmp h k v n None (e ∷ es) (x ∷ e ∷ es)
  insertion-before e es x up stops at of = insertion-past (e ∷ es) x up (none_at (place_cmp cmp h k e) stops at, past_rest o h k e es up stops) of

  -- the entries before the place are put back in front
  pub insertion-joined : (old : Option (Arc V A)) (all front rest after new : List (Entry K V A)) → IsPartition cmp h k all front rest → IsInsertion cmp h k v n old rest after → new ≡ reverse front ++ after → IsInsertion cmp h k v n old all new
  insertion-joined old all front rest after new c i is = rw (is, ← c.whole) (insertion-front old (reverse front) rest after (all_reverse _ front c.before) i)

  pub cut_ascending : (all front rest : List (Entry K V A)) → IsPartition cmp h k all front rest → IsAscending cmp all → IsAscending cmp rest
  cut_ascending all front rest c up = sorted_back (entry_cmp cmp) (reverse front) rest (rw (← c.whole) at up)
