use Rattle.std.proofs.Common.{◌+◌, ◌*◌}
use Rattle.test_shared.proofs.tests.memo.+fibonacci+fn-fibonacci-get_or_compute.Given as goal

abbrev pub decreases-fibonacci : goal.decreases-fibonacci
decreases-fibonacci g l = 2 * l.n + 1

abbrev pub decreases-get_or_compute : goal.decreases-get_or_compute
decreases-get_or_compute g l = 2 * l.n
