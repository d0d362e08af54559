use Rattle.std.proofs.Common.{◌≡◌, ◌∷◌, ◌∙◌, sym, ap, length, arith}
use Rattle.flurry_base.proofs.ListParts.{sorted_tail}
use Rattle.flurry_bins.specs.Chain.{chain, entry_of}
use Rattle.flurry_bins.proofs.bin.list.ListBin.pop_front.Goals as goal

pub invariant_of-self-2 : goal.invariant_of-self-2
invariant_of-self-2 g c =
    let old = c.args.self.now in
    let is : chain old.head ≡ entry_of c.in_ok-node.node.value ∷ chain c.detach_tail-node.result.1 =
    sym (ap chain c.take.ensures.value) ∙ ap chain c.in_ok-node.was ∙ c.detach_tail-node.ensures.behind in
    let counted = ap length is in
    record { ascending = sorted_tail _ _ _ (rw is at old.ascending); counted = omega (arith, old.counted, counted); short = omega (arith, old.short) }
