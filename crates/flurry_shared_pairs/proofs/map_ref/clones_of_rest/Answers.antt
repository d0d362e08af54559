use Rattle.std.proofs.Common.{Ok, ◌∙◌, ap}
use Rattle.flurry_shared_view.proofs.WalkLaws.{opens, stays_open}
use Rattle.flurry_shared_pairs.proofs.map_ref.clones_of_rest.Goals as goal

pub loop-list-init : goal.loop-list-init
loop-list-init g c = opens g.K.Ord.cmp _ c.requires

pub loop-list-preserved : goal.loop-list-preserved
loop-list-preserved g c = stays_open g.K.Ord.cmp _ _ _ _ c.next.result _ (c.in_ok-key.was ∙ ap Ok c.in-Some.is) c.loop-list.invariant c.next.ensures
