use Rattle.std.proofs.Common.{◌≡◌, ◌+◌, ◌≤◌, length}
use Rattle.flurry_bins.specs.Chain.{chain_from}
use Rattle.flurry_bins.specs.Entries.{IsAscending, entry_at, list_way}
use Rattle.flurry_bins.proofs.bin.list.find_in.Given as goal
use Rattle.flurry_base.specs.declared.sizes.TheConstants.{MAX_LEN}

abbrev pub invariant-loop-link : goal.invariant-loop-link
invariant-loop-link g l = record {
  ascending : IsAscending g.K.Ord.cmp (chain_from l.link);
  found : entry_at g.K.Ord.cmp l.hash (g.Q.Query.stands_for l.key) (chain_from l.link) ≡ entry_at g.K.Ord.cmp l.hash (g.Q.Query.stands_for l.key) (chain_from l.first);
  visits : l.visits + length (list_way g.K.Ord.cmp l.hash (g.Q.Query.stands_for l.key) (chain_from l.link)) ≡ length (list_way g.K.Ord.cmp l.hash (g.Q.Query.stands_for l.key) (chain_from l.first));
  short : l.visits + length (chain_from l.link) ≤ MAX_LEN;
}

abbrev pub decreases-loop-link : goal.decreases-loop-link
decreases-loop-link g l = length (chain_from l.link)
