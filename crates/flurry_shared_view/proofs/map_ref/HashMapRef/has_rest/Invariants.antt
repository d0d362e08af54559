use Rattle.std.proofs.Common.{true}
use Rattle.flurry_shared_view.specs.Visits.{LooksUpEqual}
use Rattle.flurry_shared_view.proofs.VisitLaws.{HasVisited}
use Rattle.flurry_shared_view.proofs.map_ref.HashMapRef.has_rest.Given as goal

abbrev pub invariant-loop : goal.invariant-loop
invariant-loop g l = HasVisited g.K.Ord.cmp (LooksUpEqual g.K.Ord.cmp g.S.KeyHasher.hash_of l.fn.self g.V.PartialEq.eq true) tt tt l.pairs
