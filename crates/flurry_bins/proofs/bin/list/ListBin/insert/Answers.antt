use Rattle.std.proofs.Common.{not, ap, ◌∙◌, arith}
use Rattle.flurry_bins.specs.Chain.{chain}
use Rattle.flurry_base.specs.Given.{old_of}
use Rattle.flurry_bins.proofs.Edits.{IsPartition}
use Rattle.flurry_bins.proofs.Insertions.{old_of-some, cut_ascending, insertion-joined, insertion-ascending, insertion-longer, insertion-as_long}
use Rattle.flurry_bins.proofs.bin.list.ListBin.insert.Goals as goal
use Rattle.flurry_bins.proofs.bin.list.ListBin.insert.Goals.{then-is_none, else-is_none}

pub insert_first-reply-requires-clause-ascending : goal.insert_first-reply-requires-clause-ascending
insert_first-reply-requires-clause-ascending g c =
    let sides = c.split_before-front.ensures in
    cut_ascending g.met.K.Ord.total c.args.hash c.args.key c.args.value c.args.number (chain c.args.self.now.head) (chain c.split_before-front.result.0) (chain c.split_before-front.result.1)
    (record { whole = sides.whole ∙ ap chain c.take.ensures.value; before = sides.before; stops = sides.stops }) c.args.self.now.ascending

pub invariant_of-self-then-is_none : goal.invariant_of-self-then-is_none
invariant_of-self-then-is_none g c =
    let old = c.args.self.now in
    let o = g.met.K.Ord.total in
    let sides = c.split_before-front.ensures in
    let cut : IsPartition g.K.Ord.cmp c.args.hash c.args.key (chain old.head) (chain c.split_before-front.result.0) (chain c.split_before-front.result.1) = record { whole = sides.whole ∙ ap chain c.take.ensures.value; before = sides.before; stops = sides.stops } in
    let all = insertion-joined o c.args.hash c.args.key c.args.value c.args.number (old_of c.in_ok-replaced.replaced) (chain old.head) (chain c.split_before-front.result.0) (chain c.split_before-front.result.1) (chain c.insert_first-reply.new.rest) (chain c.prepend_reversed.result) cut c.in_ok-replaced.ensures.ok c.prepend_reversed.ensures in
    let longer = insertion-longer o c.args.hash c.args.key c.args.value c.args.number (old_of c.in_ok-replaced.replaced) (chain old.head) (chain c.prepend_reversed.result) (old_of-some _ (c.is_none.ensures ∙ ap not c.if-is_none.true)) old.ascending all in
    record {
      ascending = insertion-ascending o c.args.hash c.args.key c.args.value c.args.number (old_of c.in_ok-replaced.replaced) (chain old.head) (chain c.prepend_reversed.result) old.ascending all;
      counted = omega (arith, longer, old.counted);
      short = omega (arith, c.requires, old.counted);
    }

pub invariant_of-self-else-is_none : goal.invariant_of-self-else-is_none
invariant_of-self-else-is_none g c =
    let old = c.args.self.now in
    let o = g.met.K.Ord.total in
    let sides = c.split_before-front.ensures in
    let cut : IsPartition g.K.Ord.cmp c.args.hash c.args.key (chain old.head) (chain c.split_before-front.result.0) (chain c.split_before-front.result.1) = record { whole = sides.whole ∙ ap chain c.take.ensures.value; before = sides.before; stops = sides.stops } in
    let all = insertion-joined o c.args.hash c.args.key c.args.value c.args.number (old_of c.in_ok-replaced.replaced) (chain old.head) (chain c.split_before-front.result.0) (chain c.split_before-front.result.1) (chain c.insert_first-reply.new.rest) (chain c.prepend_reversed.result) cut c.in_ok-replaced.ensures.ok c.prepend_reversed.ensures in
    let as_long = insertion-as_long o c.args.hash c.args.key c.args.value c.args.number (old_of c.in_ok-replaced.replaced) (chain old.head) (chain c.prepend_reversed.result) (old_of-some _ (c.is_none.ensures ∙ ap not c.if-is_none.false)) all in
    record {
      ascending = insertion-ascending o c.args.hash c.args.key c.args.value c.args.number (old_of c.in_ok-replaced.replaced) (chain old.head) (chain c.prepend_reversed.result) old.ascending all;
      counted = omega (arith, as_long, old.counted);
      short = old.short;
    }

pub returns-clause-ok : goal.returns-clause-ok
returns-clause-ok g c =
    let old = c.args.self.now in
    let o = g.met.K.Ord.total in
    let sides = c.split_before-front.ensures in
    let cut : IsPartition g.K.Ord.cmp c.args.hash c.args.key (chain old.head) (chain c.split_before-front.result.0) (chain c.split_before-front.result.1) = record { whole = sides.whole ∙ ap chain c.take.ensures.value; before = sides.before; stops = sides.stops } in
    let all = insertion-joined o c.args.hash c.args.key c.args.value c.args.number (old_of c.in_ok-replaced.replaced) (chain old.head) (chain c.split_before-front.result.0) (chain c.split_before-front.result.1) (chain c.insert_first-reply.new.rest) (chain c.prepend_reversed.result) cut c.in_ok-replaced.ensures.ok c.prepend_reversed.ensures in
    elim c.if-is_none.branch [ then-is_none w ↦ rw w.self-is all | else-is_none w ↦ rw w.self-is all ]
