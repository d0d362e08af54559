use Rattle.std.proofs.Common.{subst, rules}
use Rattle.flurry_base.specs.Sizes.{IsGrown}
use Rattle.flurry_seq.proofs.GrowthLemmas.{size_most}
use Rattle.flurry_seq.proofs.RoomLaws.{way_left}
use Rattle.flurry_seq.proofs.seq_map.SeqMap.grow_to.Goals as goal

pub enlarge-requires-clause-most : goal.enlarge-requires-clause-most
enlarge-requires-clause-most g c = size_most c.grown.result c.grown.ensures.size

pub returns-clause-way : goal.returns-clause-way
returns-clause-way g c =
    let grown : IsGrown c.args.self.now.bins c.args.least c.grown.result = subst (λ n. IsGrown n c.args.least c.grown.result) c.capacity.ensures.bins c.grown.ensures.grown in
    way_left c.enlarge.result c.args.least c.grown.result c.args.self.now c.enlarge.new.self grown.0 c.enlarge.ensures.ok c.enlarge.ensures.err
