use Rattle.std.proofs.Common.{◌≡◌, ◌≤◌, ℕ, [], ◌∷◌, length, true, false, cond, Ordering, refl, ap, ◌∙◌, arith}
use Rattle.flurry_base.proofs.ListParts.{sorted_cons, sorted_nil}
use Rattle.flurry_bins.specs.declared.bin.entry.Entry.{Entry}
use Rattle.flurry_bins.specs.Chain.{node_chain, entry_of}
use Rattle.flurry_bins.specs.Entries.{entry_at, is_before, list_way}
use Rattle.flurry_bins.proofs.Chains.{node_alone}
use Rattle.flurry_bins.proofs.bin.adaptive.BinOrdered.find.Given
use Rattle.flurry_bins.specs.Tree.{node_shape}
use Rattle.flurry_bins.specs.Short.{list_way-short}
use Rattle.flurry_bins.specs.WayBound.{way_within}
use Rattle.flurry_bins.specs.Kind.{list_within}
use Rattle.flurry_bins.specs.Bin.{entries_of_bin, is_tree, bin_way}
use Rattle.flurry_bins.proofs.bin.adaptive.BinOrdered.find.Goals as goal

pub returns-in-AsList-clause-bounded : goal.returns-in-AsList-clause-bounded
unfolding entries_of_bin is_tree bin_way
returns-in-AsList-clause-bounded g c =
    let list = c.in-AsList.list in
    let few : length (node_chain list.head.value) ≤ 9 = rw c.in-AsList.is at c.args.self.now.sized in
    rw (c.find_in-in-AsList.ensures.visits, c.as_ref-in-AsList.ensures, c.in-AsList.is) (list_within (list_way-short g.K.Ord.cmp c.args.hash (g.Q.Query.stands_for c.args.key) (node_chain list.head.value)) few)

pub returns-in-AsTree-clause-bounded : goal.returns-in-AsTree-clause-bounded
unfolding entries_of_bin is_tree bin_way
returns-in-AsTree-clause-bounded g c =
    let tree = c.in-AsTree.tree in
    rw (c.find_in-in-AsTree.ensures.visits, c.as_ref-in-AsTree.ensures, c.in-AsTree.is) (way_within g.K.Ord.cmp c.args.hash (g.Q.Query.stands_for c.args.key) (node_shape tree.root.value) tree.balanced)

way_alone : {K V A : Type 0} (cmp : K → K → Ordering) (h : ℕ) (k : K) (e : Entry K V A) → length (list_way cmp h k (e ∷ [])) ≡ 1
way_alone cmp h k e = elim (is_before cmp h k e) as (λ b. length (e ∷ cond b (list_way cmp h k []) []) ≡ 1) [ true ↦ refl | false ↦ refl ]

-- the chain of the lone node
lent : (g : Given.Over) (c : goal.After-find_in g) → node_chain c.as_ref.result.now ≡ entry_of c.in-One.lone.node.value ∷ []
lent g c = ap node_chain c.as_ref.ensures ∙ node_alone c.in-One.lone.node.value c.in-One.lone.alone

visited : (g : Given.Over) (c : goal.After-find_in g) → c.find_in.result.1 ≡ 1
visited g c =
    c.find_in.ensures.visits ∙ ap (λ es. length (list_way g.K.Ord.cmp c.args.hash (g.Q.Query.stands_for c.args.key) es)) (lent g c)
    ∙ way_alone g.K.Ord.cmp c.args.hash (g.Q.Query.stands_for c.args.key) (entry_of c.in-One.lone.node.value)

pub find_in-requires-clause-ascending : goal.find_in-requires-clause-ascending
find_in-requires-clause-ascending g c = rw (ap node_chain c.as_ref.ensures ∙ node_alone c.in-One.lone.node.value c.in-One.lone.alone) (sorted_cons _ _ [] tt (sorted_nil _))

pub returns-else-lone-hash-clause-found : goal.returns-else-lone-hash-clause-found
unfolding entries_of_bin
returns-else-lone-hash-clause-found g c = rw c.in-One.is (c.find_in.ensures.found ∙ ap (entry_at g.K.Ord.cmp c.args.hash (g.Q.Query.stands_for c.args.key)) (lent g c))

pub returns-else-lone-hash-clause-visits : goal.returns-else-lone-hash-clause-visits
unfolding bin_way
returns-else-lone-hash-clause-visits g c = rw c.in-One.is (visited g c)

pub returns-else-lone-hash-clause-bounded : goal.returns-else-lone-hash-clause-bounded
unfolding entries_of_bin
returns-else-lone-hash-clause-bounded g c = rw c.in-One.is (list_within {m = 1} (omega (arith, visited g c)) (omega arith))
