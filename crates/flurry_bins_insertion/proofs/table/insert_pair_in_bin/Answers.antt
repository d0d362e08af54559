use Rattle.std.proofs.Common.{◌||◌, Result, Ok, Err, OnErr, length, nat_le, sym, ap, ◌∙◌}
use Rattle.std.specs.Option.{is_some}
use Rattle.flurry_bins.specs.Bin.{entries_of_bin, ascending_of_bin, is_tree, sized_of_bin}
use Rattle.flurry_base.specs.Given.{old_of}
use Rattle.flurry_bins.proofs.BinSizes.{one_more_than_nine}
use Rattle.flurry_bins_insertion.proofs.LongLists.{kept_by_ten, long_in_large, long_in_small, one_more}
use Rattle.flurry_bins.proofs.Insertions.{insertion-as_long, insertion-longer}
use Rattle.flurry_bins_insertion.proofs.table.insert_pair_in_bin.Goals as goal

on_err : {T E : Type 0} (r : Result T E) (P : Type 0) → P → OnErr r P
on_err (Ok x) P p = tt
on_err (Err e) P p = p

pub returns-in_err-replaced-clause-same_kind : goal.returns-in_err-replaced-clause-same_kind
returns-in_err-replaced-clause-same_kind g c =
    let bin = c.args.bin.now in
    on_err c.from_residual.result _ (kept_by_ten (is_tree bin) _ (length (entries_of_bin bin)) _ (sized_of_bin bin) (ap length c.in_err-replaced.ensures.same) c.in_err-replaced.ensures.kind)

pub returns-in-Some-clause-kind : goal.returns-in-Some-clause-kind
returns-in-Some-clause-kind g c =
    let o = g.met.K.Ord.total in
    let bin = c.args.bin.now in
    let es = entries_of_bin bin in
    let new = entries_of_bin c.insert.new.self in
    let put = c.in_ok-replaced.ensures in
    let some = ap (λ r. is_some (old_of r)) c.in-Some.is in
    let same = insertion-as_long o c.args.hash c.args.key c.args.value c.args.number (old_of c.in_ok-replaced.field-0) es new some put.ok in
    kept_by_ten (is_tree bin) _ (length es) (length new) (sized_of_bin bin) same put.kind

pub returns-then-not-was_long-clause-kind : goal.returns-then-not-was_long-clause-kind
returns-then-not-was_long-clause-kind g c =
    let o = g.met.K.Ord.total in
    let bin = c.args.bin.now in
    let es = entries_of_bin bin in
    let new = entries_of_bin c.insert.new.self in
    let put = c.in_ok-replaced.ensures in
    let none = ap (λ r. is_some (old_of r)) c.in_default.is in
    let longer = insertion-longer o c.args.hash c.args.key c.args.value c.args.number (old_of c.in_ok-replaced.field-0) es new none (ascending_of_bin bin) put.ok in
    one_more c.args.bins (is_tree bin) _ (length es) (length new) (sym c.is_long_list-was_long.ensures ∙ c.if-not-was_long.true) longer put.kind

pub returns-then-bins-lt-MIN_TREEIFY_BINS-clause-kind : goal.returns-then-bins-lt-MIN_TREEIFY_BINS-clause-kind
returns-then-bins-lt-MIN_TREEIFY_BINS-clause-kind g c =
    let bin = c.args.bin.now in
    let es = entries_of_bin bin in
    let new = entries_of_bin c.insert.new.self in
    let put = c.in_ok-replaced.ensures in
    let none = ap (λ r. is_some (old_of r)) c.in_default.is in
    let longer = insertion-longer g.met.K.Ord.total c.args.hash c.args.key c.args.value c.args.number (old_of c.in_ok-replaced.field-0) es new none (ascending_of_bin bin) put.ok in
    let kind = put.kind ∙ ap (λ m. is_tree bin || nat_le 10 m) longer ∙ ap (λ b. is_tree bin || b) (one_more_than_nine (length es)) in
    long_in_small c.args.bins (is_tree bin) _ (length es) (sym c.if-not-was_long.ensures) kind c.if-bins-lt-MIN_TREEIFY_BINS.true

pub returns-clause-kind : goal.returns-clause-kind
returns-clause-kind g c =
    let bin = c.args.bin.now in
    let es = entries_of_bin bin in
    let new = entries_of_bin c.insert.new.self in
    let put = c.in_ok-replaced.ensures in
    let none = ap (λ r. is_some (old_of r)) c.in_default.is in
    let longer = insertion-longer g.met.K.Ord.total c.args.hash c.args.key c.args.value c.args.number (old_of c.in_ok-replaced.field-0) es new none (ascending_of_bin bin) put.ok in
    let kind = put.kind ∙ ap (λ m. is_tree bin || nat_le 10 m) longer ∙ ap (λ b. is_tree bin || b) (one_more_than_nine (length es)) in
    long_in_large c.args.bins (is_tree bin) _ _ (length es) _ (sym c.if-not-was_long.ensures) kind longer c.plant.ensures.kind c.if-bins-lt-MIN_TREEIFY_BINS.false

pub returns-clause-entries : goal.returns-clause-entries
returns-clause-entries g c = rw c.plant.ensures.entries (rw c.in_default.is at c.in_ok-replaced.ensures.ok)
