-- The entries and the shape of a bin.
use Rattle.std.specs.Prelude.{ℕ, ◌≤◌, ◌==◌, Bool, true, false, List, length, if◌then◌else◌}
use Rattle.std.specs.declared.cmp.Ordering.{Ordering}
use Rattle.flurry_bins.specs.declared.bin.entry.Entry.{Entry}
use Rattle.flurry_bins.specs.declared.bin.list.ListBin.{ListBin}
use Rattle.flurry_bins.specs.declared.bin.tree.TreeBin.{TreeBin}
use Rattle.flurry_bins.specs.declared.bin.adaptive.Bin.{Bin}
use Rattle.flurry_bins.specs.declared.bin.adaptive.Shape.{Shape}
use Rattle.flurry_bins.specs.declared.bin.adaptive.Shape.TheVariants as shape
use Rattle.flurry_bins.specs.Chain.{chain}
use Rattle.flurry_bins.specs.Tree.{shape, inorder}
use Rattle.flurry_bins.specs.Entries.{IsAscending}
use Rattle.flurry_bins.specs.Short.{short_list}
use Rattle.flurry_bins.specs.WayBound.{way_bound}
use Rattle.flurry_bins.specs.Kind.{kind_entries, kind_is_tree, kind_way, kind_ascending, kind_short, kind_way-bounded}
use Rattle.flurry_base.specs.BinSizes.{IsSized}
use Rattle.flurry_base.specs.declared.sizes.TheConstants.{MAX_LEN}

-- the entries of a bin that is a list, of one that is a tree, and of one that is either
abbrev pub entries_of_list : {K V A : Type 0} {o : _} {e : _} {p : _} → ListBin K V A o e p → List (Entry K V A)
entries_of_list b = chain b.head

abbrev pub entries_of_tree : {K V A : Type 0} {o : _} {e : _} {p : _} → TreeBin K V A o e p → List (Entry K V A)
entries_of_tree b = inorder (shape b.root)

unfoldable pub entries_of_bin : {K V A : Type 0} {o : _} {e : _} {p : _} → Bin K V A o e p → List (Entry K V A)
entries_of_bin b = kind_entries b.kind

-- whether the bin is a tree
unfoldable pub is_tree : {K V A : Type 0} {o : _} {e : _} {p : _} → Bin K V A o e p → Bool
is_tree b = kind_is_tree b.kind

-- the shape of a tree, or of a list, of n entries
abbrev pub shape_by : Bool → ℕ → Shape
shape_by true n = shape.Tree n
shape_by false n = if n == 0 then shape.Empty else shape.List n

abbrev pub shape_of_bin : {K V A : Type 0} {o : _} {e : _} {p : _} → Bin K V A o e p → Shape
shape_of_bin b = shape_by (is_tree b) (length (entries_of_bin b))

-- the entries that are met on the way to (h, k)
unfoldable pub bin_way : {K V A : Type 0} {o : _} {e : _} {p : _} → (K → K → Ordering) → ℕ → K → Bin K V A o e p → List (Entry K V A)
bin_way cmp h k b = kind_way cmp h k b.kind

-- the entries ascend strictly by (hash, key)
pub ascending_of_list : {K V A : Type 0} {o : _} {e : _} {p : _} (b : ListBin K V A o e p) → IsAscending o.cmp (entries_of_list b)
ascending_of_list b = b.ascending

pub ascending_of_tree : {K V A : Type 0} {o : _} {e : _} {p : _} (b : TreeBin K V A o e p) → IsAscending o.cmp (entries_of_tree b)
ascending_of_tree b = b.ascending

pub ascending_of_bin : {K V A : Type 0} {o : _} {e : _} {p : _} (b : Bin K V A o e p) → IsAscending o.cmp (entries_of_bin b)
unfolding entries_of_bin
ascending_of_bin b = kind_ascending b.kind

-- there are at most 2^62 of them
pub short_of_list : {K V A : Type 0} {o : _} {e : _} {p : _} (b : ListBin K V A o e p) → length (entries_of_list b) ≤ MAX_LEN
short_of_list b = short_list b.counted b.short

pub short_of_tree : {K V A : Type 0} {o : _} {e : _} {p : _} (b : TreeBin K V A o e p) → length (entries_of_tree b) ≤ MAX_LEN
short_of_tree b = short_list b.counted b.short

pub short_of_bin : {K V A : Type 0} {o : _} {e : _} {p : _} (b : Bin K V A o e p) → length (entries_of_bin b) ≤ MAX_LEN
unfolding entries_of_bin
short_of_bin b = kind_short b.kind

-- a tree has at least `MIN_TREE_LEN` nodes, and a list at most `MAX_LIST_LEN`
pub sized_of_bin : {K V A : Type 0} {o : _} {e : _} {p : _} (b : Bin K V A o e p) → IsSized (is_tree b) (length (entries_of_bin b))
unfolding entries_of_bin is_tree
sized_of_bin b = b.sized

pub bin_way-bounded : {K V A : Type 0} {o : _} {e : _} {p : _} (cmp : K → K → Ordering) (h : ℕ) (k : K) (b : Bin K V A o e p) → length (bin_way cmp h k b) ≤ way_bound (length (entries_of_bin b))
unfolding entries_of_bin bin_way
bin_way-bounded cmp h k b = kind_way-bounded cmp h k b.kind b.sized
