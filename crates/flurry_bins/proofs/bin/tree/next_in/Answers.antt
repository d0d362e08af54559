use Rattle.std.proofs.Common.{sym, ap, ◌∙◌, arith}
use Rattle.std.specs.Option.{option_or, option_copied}
use Rattle.flurry_bins.specs.Entries.{lent_bound, entry_cmp}
use Rattle.flurry_bins.specs.Tree.{tree_size}
use Rattle.flurry_base.proofs.ListParts.{sorted_front, sorted_back, sorted_tail}
use Rattle.flurry_bins.proofs.Trees.{step_to_left, step_to_right, next_left, next_right}
use Rattle.flurry_bins.proofs.bin.tree.next_in.Goals as goal

pub loop-link-preserved-then-is_past : goal.loop-link-preserved-then-is_past
loop-link-preserved-then-is_past g c =
    let i = c.loop-link.invariant in
    let at = step_to_left c.in-Some.is c.follow-link.ensures.tree in
    let up = rw at at i.ascending in
    record { ascending = sorted_front (entry_cmp g.K.Ord.cmp) _ _ up; first = sym (next_left g.K.Ord.cmp (lent_bound c.args.bound) _ _ _ (sym c.if-is_past.ensures) (option_copied c.loop-link.best)) ∙ rw at at i.first }

pub loop-link-smaller-then-is_past : goal.loop-link-smaller-then-is_past
loop-link-smaller-then-is_past g c = omega (arith, ap tree_size (step_to_left c.in-Some.is c.follow-link.ensures.tree))

pub loop-link-preserved : goal.loop-link-preserved
loop-link-preserved g c =
    let i = c.loop-link.invariant in
    let at = step_to_right c.in-Some.is c.follow-link-else-is_past.ensures.tree in
    let up = rw at at i.ascending in
    record { ascending = sorted_tail (entry_cmp g.K.Ord.cmp) _ _ (sorted_back (entry_cmp g.K.Ord.cmp) _ _ up); first = sym (ap (λ t. option_or t (option_copied c.loop-link.best)) (next_right g.met.K.Ord.total (lent_bound c.args.bound) _ _ _ up (sym c.if-is_past.ensures))) ∙ rw at at i.first }

pub loop-link-smaller : goal.loop-link-smaller
loop-link-smaller g c = omega (arith, ap tree_size (step_to_right c.in-Some.is c.follow-link-else-is_past.ensures.tree))
