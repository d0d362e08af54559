use Rattle.std.proofs.Common.{Result, Ok, Err, OnErr, length-set}
use Rattle.std.proofs.lemmas.List.{length-map}
use Rattle.std.proofs.lemmas.Result.{IfOk-weaker}
use Rattle.flurry_bins.specs.Bin.{entries_of_bin}
use Rattle.flurry_seq.proofs.MapsOfBinsLemmas.{bin_here, inserted_here, old_here, kept_here}
use Rattle.flurry_seq.proofs.NumberLemmas.{all_at, all_set, zero-answered}
use Rattle.flurry_seq.proofs.table.Table.insert.Goals as goal

pub insert_in_bin-requires : goal.insert_in_bin-requires
insert_in_bin-requires g c =
    let here = bin_here c.self.inside.bins.items c.args.hash c.place-at.result c.index_mut-bin.result.now c.place-at.ensures.below c.index_mut-bin.ensures.value c.place-at.ensures.place in
    rw (← c.self.view_is, here, length-map) at c.requires.room

pub invariant_of-self : goal.invariant_of-self
invariant_of-self g c =
    let xs = c.self.inside.bins.items in
    let b = c.index_mut-bin.result.now in
    let put = c.insert_in_bin in
    let zero = all_at _ xs c.place-at.result b c.place-at.ensures.below c.index_mut-bin.ensures.value c.self.invariant.1 in
    (rw length-set c.self.invariant.0, all_set _ xs c.place-at.result put.new.bin (zero-answered g.K.Ord.cmp c.args.hash c.args.key c.args.value put.result (entries_of_bin b) (entries_of_bin put.new.bin) put.ensures.entries put.ensures.err zero) c.self.invariant.1)

pub returns-clause-old : goal.returns-clause-old
returns-clause-old g c =
    let put = c.insert_in_bin in
    IfOk-weaker put.result _ _ (λ r is. rw (← c.self.view_is) (old_here c.self.inside.bins.items c.args.hash c.place-at.result c.index_mut-bin.result.now put.new.bin c.place-at.ensures.below c.index_mut-bin.ensures.value c.place-at.ensures.place c.args.key c.args.value 0 r.0 is)) put.ensures.entries

pub returns-clause-after : goal.returns-clause-after
returns-clause-after g c =
    let put = c.insert_in_bin in
    IfOk-weaker put.result _ _ (λ r is. rw (← c.self.view_is) (inserted_here c.self.inside.bins.items c.args.hash c.place-at.result c.index_mut-bin.result.now put.new.bin c.place-at.ensures.below c.index_mut-bin.ensures.value c.place-at.ensures.place c.args.key c.args.value 0 g.met.K.Ord.total r.0 is)) put.ensures.entries

where_err : {T E : Type 0} {P Q : Type 0} (r : Result T E) → (P → Q) → OnErr r P → OnErr r Q
where_err (Ok x) f h = tt
where_err (Err e) f h = f h

pub returns-clause-err : goal.returns-clause-err
returns-clause-err g c =
    let put = c.insert_in_bin in
    where_err put.result (λ same. rw (← c.self.view_is) (kept_here c.self.inside.bins.items c.place-at.result c.index_mut-bin.result.now put.new.bin c.index_mut-bin.ensures.value same)) put.ensures.err
