use Rattle.std.proofs.Common.{◌==◌, ap, length, ◌≤◌, arith}
use Rattle.std.specs.Int.{bit_at}
use Rattle.flurry_bins.specs.Kind.{kind_entries, kind_is_tree}
use Rattle.flurry_base.proofs.BinSizeLaws.{filter_no_longer, IsSized-kept}
use Rattle.flurry_bins.proofs.bin.adaptive.BinOrdered.split.Goals as goal

pub invariant_of-result : goal.invariant_of-result
invariant_of-result g c =
    let old = c.args.self.kind in
    let half = c.split-low.result.0 in
    let le : length (kind_entries half) ≤ length (kind_entries old) = omega (arith, ap length c.split-low.ensures.low, filter_no_longer (λ e. bit_at e.hash c.args.bit == 0) (kind_entries old)) in
    record { sized = rw c.split-low.ensures.low_kind (IsSized-kept (kind_is_tree old) (length (kind_entries old)) (length (kind_entries half)) c.args.self.sized le) }

pub invariant_of-result-2 : goal.invariant_of-result-2
invariant_of-result-2 g c =
    let old = c.args.self.kind in
    let half = c.split-low.result.1 in
    let le : length (kind_entries half) ≤ length (kind_entries old) = omega (arith, ap length c.split-low.ensures.high, filter_no_longer (λ e. bit_at e.hash c.args.bit == 1) (kind_entries old)) in
    record { sized = rw c.split-low.ensures.high_kind (IsSized-kept (kind_is_tree old) (length (kind_entries old)) (length (kind_entries half)) c.args.self.sized le) }
