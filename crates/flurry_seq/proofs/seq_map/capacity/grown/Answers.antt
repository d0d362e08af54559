use Rattle.std.proofs.Common.{◌≡◌, ◌*◌, inl, inr, arith, subst}
use Rattle.flurry_base.specs.Sizes.{IsOnTheWay}
use Rattle.flurry_base.proofs.SizeLaws.{way_start, way_more}
use Rattle.flurry_seq.specs.Invariant.{IsTableSize}
use Rattle.flurry_seq.proofs.GrowthLemmas.{size_doubled}
use Rattle.flurry_seq.proofs.seq_map.capacity.grown.Goals as goal

pub loop-grown-init : goal.loop-grown-init
loop-grown-init c = record { way = way_start c.args.bins c.args.least; size = c.requires.size; some = c.requires.some }

pub loop-grown-smaller : goal.loop-grown-smaller
loop-grown-smaller c = omega (arith, c.loop-grown.invariant.some, c.if-grown-lt-MAX_BINS.true)

pub loop-grown-preserved : goal.loop-grown-preserved
loop-grown-preserved c =
    let before = c.loop-grown.invariant in
    let grown = c.loop-grown.grown in
    let full = rw c.threshold.ensures at c.loop-grown-test.true in
    let twice : 2 * grown ≡ grown * 2 = omega arith in
    record {
      way = subst (λ n. IsOnTheWay c.args.bins c.args.least n) twice (way_more c.args.bins c.args.least grown (full, c.if-grown-lt-MAX_BINS.true) before.way);
      size = subst IsTableSize twice (size_doubled grown before.some c.if-grown-lt-MAX_BINS.true before.size);
      some = omega (arith, before.some);
    }

pub returns-else-grown-lt-MAX_BINS-clause-grown : goal.returns-else-grown-lt-MAX_BINS-clause-grown
returns-else-grown-lt-MAX_BINS-clause-grown c = (c.loop-grown.invariant.way, inr c.if-grown-lt-MAX_BINS.false)

pub returns-else-grown-lt-MAX_BINS-clause-size : goal.returns-else-grown-lt-MAX_BINS-clause-size
returns-else-grown-lt-MAX_BINS-clause-size c = c.loop-grown.invariant.size

pub returns-after-loop-grown-clause-grown : goal.returns-after-loop-grown-clause-grown
returns-after-loop-grown-clause-grown c = (c.loop-grown.invariant.way, inl (rw c.threshold.ensures at c.loop-grown-test.false))

pub returns-after-loop-grown-clause-size : goal.returns-after-loop-grown-clause-size
returns-after-loop-grown-clause-size c = c.loop-grown.invariant.size
