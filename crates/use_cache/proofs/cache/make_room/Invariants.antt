use Rattle.std.proofs.Common.{ℕ, ◌+◌, length}
use Rattle.std.specs.Ordering.{nat_cmp}
use Rattle.flurry.specs.FiniteMap.{value_at}
use Rattle.use_cache.specs.Cache.{IsLastOrNone}
use Rattle.use_cache.proofs.cache.make_room.Given as goal

abbrev pub invariant-loop-order : goal.invariant-loop-order
invariant-loop-order l = (q : ℕ) → IsLastOrNone (value_at nat_cmp l.fn.map.pairs q) (value_at nat_cmp l.map.pairs q)

abbrev pub decreases-loop-order : goal.decreases-loop-order
decreases-loop-order l = l.order.len + length l.map.pairs
