use Rattle.std.proofs.Common.{rules}
use Rattle.flurry_bins.specs.Short.{list_way-short}
use Rattle.flurry_bins.specs.Bin.{entries_of_list}
use Rattle.flurry_bins.proofs.bin.list.ListBinOrdered.find.Goals as goal

pub returns-clause-bounded : goal.returns-clause-bounded
returns-clause-bounded g c = rw (c.find_in.ensures.visits, c.follow.ensures.chain) (list_way-short g.K.Ord.cmp c.args.hash (g.Q.Query.stands_for c.args.key) (entries_of_list c.args.self.now))

pub returns-clause-visits : goal.returns-clause-visits
returns-clause-visits g c = search rules
