-- No entry, one, a list or a tree of them, whichever it is.
use Rattle.std.specs.Prelude.{◌≡◌, ℕ, ◌≤◌, Bool, true, false, List, [], ◌∷◌, length}
use Rattle.flurry_base.specs.BinSizes.{IsSized}
use Rattle.flurry_bins.specs.declared.bin.entry.Entry.{Entry}
use Rattle.flurry_bins.specs.declared.bin.adaptive.kind.Kind.{Kind}
use Rattle.flurry_bins.specs.declared.bin.adaptive.nodes.NodeTree.{NodeTree}
use Rattle.flurry_bins.specs.declared.bin.adaptive.kind.Kind.TheVariants.{Empty, One, AsList, AsTree}
use Rattle.flurry_bins.specs.Chain.{node_chain, entry_of}
use Rattle.flurry_bins.specs.Tree.{node_shape, inorder, tree_way}
use Rattle.flurry_bins.specs.Entries.{IsAscending, list_way}
use Rattle.flurry_bins.specs.Short.{short_list, list_way-short}
use Rattle.flurry_bins.specs.WayBound.{way_bound, way_within}
use Rattle.std.specs.declared.cmp.Ordering.{Ordering}
use Rattle.std.proofs.Common.{arith, refl}
use Rattle.flurry_base.proofs.ListParts.{sorted_cons, sorted_nil}
use Rattle.flurry_base.specs.declared.sizes.TheConstants.{MAX_LEN, MAX_LIST_LEN}

abbrev pub kind_entries : {K V A : Type 0} {o : _} {e : _} {p : _} → Kind K V A o e p → List (Entry K V A)
kind_entries Empty = []
kind_entries (One n) = entry_of n.node.value ∷ []
kind_entries (AsList l) = node_chain l.head.value
kind_entries (AsTree t) = inorder (node_shape t.root.value)

abbrev pub kind_is_tree : {K V A : Type 0} {o : _} {e : _} {p : _} → Kind K V A o e p → Bool
kind_is_tree Empty = false
kind_is_tree (One n) = false
kind_is_tree (AsList l) = false
kind_is_tree (AsTree t) = true

pub not_tree : {K V A : Type 0} {o : _} {e : _} {p : _} (b : Kind K V A o e p) → ((t : NodeTree K V A o e p) → b ≡ AsTree t → ⊥) → kind_is_tree b ≡ false
not_tree Empty h = refl
not_tree (One n) h = refl
not_tree (AsList l) h = refl
not_tree (AsTree t) h = absurd (h t refl)

-- the entries that are met on the way to (h, k)
abbrev pub kind_way : {K V A : Type 0} {o : _} {e : _} {p : _} → (K → K → Ordering) → ℕ → K → Kind K V A o e p → List (Entry K V A)
kind_way cmp h k Empty = []
kind_way cmp h k (One n) = entry_of n.node.value ∷ []
kind_way cmp h k (AsList l) = list_way cmp h k (node_chain l.head.value)
kind_way cmp h k (AsTree t) = tree_way cmp h k (node_shape t.root.value)

pub kind_ascending : {K V A : Type 0} {o : _} {e : _} {p : _} (b : Kind K V A o e p) → IsAscending o.cmp (kind_entries b)
kind_ascending Empty = sorted_nil _
kind_ascending (One n) = sorted_cons _ _ [] tt (sorted_nil _)
kind_ascending (AsList l) = l.ascending
kind_ascending (AsTree t) = t.ascending

pub kind_short : {K V A : Type 0} {o : _} {e : _} {p : _} (b : Kind K V A o e p) → length (kind_entries b) ≤ MAX_LEN
kind_short Empty = omega arith
kind_short (One n) = omega arith
kind_short (AsList l) = short_list l.counted l.short
kind_short (AsTree t) = short_list t.counted t.short

pub list_within : {n m : ℕ} → n ≤ m → m ≤ MAX_LIST_LEN → n ≤ way_bound m
list_within h k = omega arith

pub kind_way-bounded : {K V A : Type 0} {o : _} {e : _} {p : _} (cmp : K → K → Ordering) (h : ℕ) (k : K) (b : Kind K V A o e p) → IsSized (kind_is_tree b) (length (kind_entries b)) → length (kind_way cmp h k b) ≤ way_bound (length (kind_entries b))
kind_way-bounded cmp h k Empty s = omega arith
kind_way-bounded cmp h k (One n) s = list_within (omega arith) s
kind_way-bounded cmp h k (AsList l) s = list_within (list_way-short cmp h k (node_chain l.head.value)) s
kind_way-bounded cmp h k (AsTree t) s = way_within cmp h k (node_shape t.root.value) t.balanced
