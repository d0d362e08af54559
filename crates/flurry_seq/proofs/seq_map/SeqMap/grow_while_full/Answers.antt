use Rattle.std.proofs.Common.{◌≡◌, ◌^◌, ◌+◌, ◌*◌, ◌<◌, ◌≤◌, length, refl, sym, ap, ◌∙◌, subst, arith}
use Rattle.flurry_base.specs.Sizes.{threshold_of}
use Rattle.flurry_base.proofs.SizeLaws.{way_start, way_more}
use Rattle.flurry_seq.proofs.RoomLaws.{of_ok}
use Rattle.flurry_seq.specs.Contents.{contents}
use Rattle.flurry_seq.specs.Invariant.{IsTableSize}
use Rattle.flurry_seq.proofs.GrowthLemmas.{size_doubled, size_most}
use Rattle.flurry_seq.proofs.seq_map.SeqMap.grow_while_full.Goals as goal
use Rattle.flurry_base.specs.declared.sizes.TheConstants.{MAX_TABLE}

pub loop-self-init : goal.loop-self-init
loop-self-init g c = record { same = (refl, refl); some = c.requires; way = way_start c.args.self.now.bins (length c.args.self.now.pairs + 1) }

pub enlarge-requires-clause-most : goal.enlarge-requires-clause-most
enlarge-requires-clause-most g c =
    let is = c.capacity-in-loop-self-2.ensures.bins in
    let n = c.loop-self.self.bins in
    let less : n < 2 ^ MAX_TABLE = rw c.capacity-in-loop-self.ensures.bins at c.if-capacity-lt-MAX_BINS.true in
    let size : IsTableSize n = subst IsTableSize is c.capacity-in-loop-self-2.ensures.size in
    let most : 2 * n ≤ 2 ^ MAX_TABLE = size_most (2 * n) (size_doubled n c.loop-self.invariant.some less size) in
    omega (arith, most, is)

pub loop-self-preserved : goal.loop-self-preserved
loop-self-preserved g c =
    let full : threshold_of c.loop-self.self.bins ≤ c.len.result = rw (c.threshold.ensures, c.capacity.ensures.bins) at c.loop-self-test.true in
    let less : c.loop-self.self.bins < 2 ^ MAX_TABLE = rw c.capacity-in-loop-self.ensures.bins at c.if-capacity-lt-MAX_BINS.true in
    let many = ap length c.loop-self.invariant.same.0 in
    let done : c.enlarge.new.self ≡ contents c.loop-self.self.pairs (2 * c.loop-self.self.bins) c.loop-self.self.hasher = rw c.capacity-in-loop-self-2.ensures.bins at (of_ok c.enlarge.result _ (sym c.is_err.ensures.value ∙ c.if-is_err.false) c.enlarge.ensures.ok) in
    rw done (record {
      same = c.loop-self.invariant.same;
      some = omega (arith, c.loop-self.invariant.some);
      way = way_more c.args.self.now.bins (length c.args.self.now.pairs + 1) c.loop-self.self.bins (omega (arith, full, many, c.len.ensures.pairs), less) c.loop-self.invariant.way;
    })
