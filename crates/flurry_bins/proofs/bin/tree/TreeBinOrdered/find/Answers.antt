use Rattle.std.proofs.Common.{rules}
use Rattle.flurry_bins.specs.Tree.{shape}
use Rattle.flurry_bins.specs.WayBound.{way_within}
use Rattle.flurry_bins.proofs.bin.tree.TreeBinOrdered.find.Goals as goal

pub returns-clause-bounded : goal.returns-clause-bounded
returns-clause-bounded g c = rw (c.find_in.ensures.visits, c.follow.ensures.tree) (way_within g.K.Ord.cmp c.args.hash (g.Q.Query.stands_for c.args.key) (shape c.args.self.now.root) c.args.self.now.balanced)

pub returns-clause-visits : goal.returns-clause-visits
returns-clause-visits g c = search rules
