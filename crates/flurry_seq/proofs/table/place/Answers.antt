use Rattle.std.proofs.Common.{◌≡◌, ◌%◌, length, ap, sym, ◌∙◌, arith}
use Rattle.flurry_seq.proofs.TableLaws.{size_power}
use Rattle.flurry_seq.proofs.table.place.Goals as goal

pub bin_index-requires : goal.bin_index-requires
bin_index-requires g c =
    let len : c.len.result ≡ length c.args.bins.now.items = omega (arith, c.len.ensures, c.args.bins.now.ok.0) in
    (size_power (length c.args.bins.now.items) c.ilog2.result c.requires.size c.requires.some (rw len at c.ilog2.ensures.power_le) (rw len at c.ilog2.ensures.next_power_gt)).0

pub returns-clause-place : goal.returns-clause-place
returns-clause-place g c =
    let len : c.len.result ≡ length c.args.bins.now.items = omega (arith, c.len.ensures, c.args.bins.now.ok.0) in
    let is = (size_power (length c.args.bins.now.items) c.ilog2.result c.requires.size c.requires.some (rw len at c.ilog2.ensures.power_le) (rw len at c.ilog2.ensures.next_power_gt)).1 in
    c.bin_index.ensures.place ∙ ap (λ n. c.args.hash % n) (sym is)
