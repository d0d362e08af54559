use Rattle.std.proofs.Common.{◌∙◌, ap, ◌==◌, reverse, length, arith}
use Rattle.std.proofs.lemmas.List.{append-nil, length-reverse}
use Rattle.std.proofs.lemmas.List.Kept.{IsStrictlySortedBy-filter}
use Rattle.std.specs.Int.{bit_at}
use Rattle.flurry_bins.specs.Chain.{chain}
use Rattle.flurry_bins.specs.Entries.{entry_cmp}
use Rattle.flurry_bins.proofs.bin.list.ListBinOrdered.split.Goals as goal

pub invariant_of-low : goal.invariant_of-low
invariant_of-low g c =
    let i = c.loop-rest.invariant in
    let is = c.prepend_reversed.ensures ∙ rw (c.in_default.is) at i.low in
    let up = IsStrictlySortedBy-filter (entry_cmp g.K.Ord.cmp) (λ e. bit_at e.hash c.args.bit == 0) (chain c.args.self.head) c.args.self.ascending in
    let turned = ap length c.prepend_reversed.ensures ∙ ap length (append-nil (reverse (chain c.loop-rest.low))) ∙ length-reverse (chain c.loop-rest.low) in
    record { ascending = rw is up; counted = omega (arith, turned, i.low_len); short = omega (arith, i.short) }

pub invariant_of-high : goal.invariant_of-high
invariant_of-high g c =
    let i = c.loop-rest.invariant in
    let is = c.prepend_reversed-2.ensures ∙ rw (c.in_default.is) at i.high in
    let up = IsStrictlySortedBy-filter (entry_cmp g.K.Ord.cmp) (λ e. bit_at e.hash c.args.bit == 1) (chain c.args.self.head) c.args.self.ascending in
    let turned = ap length c.prepend_reversed-2.ensures ∙ ap length (append-nil (reverse (chain c.loop-rest.high))) ∙ length-reverse (chain c.loop-rest.high) in
    record { ascending = rw is up; counted = omega (arith, turned, i.high_len); short = omega (arith, i.short) }
