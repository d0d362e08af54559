use Rattle.std.proofs.Common.{◌≡◌, zero, suc, ◌*◌, ◌^◌, ◌<◌, ◌≤◌, length, refl, sym, ap, ◌∙◌, subst, arith}
use Rattle.std.proofs.Math.Nat.{le-mul_of_pos_right}
use Rattle.std.proofs.lemmas.List.{length-map}
use Rattle.std.proofs.lemmas.Nat.{pow_pos}
use Rattle.flurry_seq.specs.Invariant.{IsTableSize}
use Rattle.flurry_seq.specs.MapsOfBins.{plain_bin, maps_of_bins}
use Rattle.flurry_seq.specs.Table.{bins_doubled, IsTimesPower}
use Rattle.flurry_seq.proofs.GrowthLemmas.{size_doubled, length-doubled, length-after, twice_fits}
use Rattle.flurry_seq.proofs.table.halve_until.Goals as goal
use Rattle.flurry_base.specs.declared.sizes.TheConstants.{MAX_TABLE}

pub loop-bins-init : goal.loop-bins-init
loop-bins-init g c =
    let n = length c.args.bins.now.items in
    let more : n ≤ n * 2 ^ c.requires.times.0 = le-mul_of_pos_right n (pow_pos c.requires.times.0) in
    record {
      doubled = (zero, refl);
      size = c.requires.size;
      some = c.requires.some;
      most = omega (arith, more, c.requires.times.1);
      numbers = λ all. all;
      room = refl;
    }

pub halve-requires-clause-size : goal.halve-requires-clause-size
halve-requires-clause-size g c = c.loop-bins.invariant.size

pub halve-requires-clause-some : goal.halve-requires-clause-some
halve-requires-clause-some g c = c.loop-bins.invariant.some

pub halve-requires-clause-room : goal.halve-requires-clause-room
halve-requires-clause-room g c =
    let here = c.loop-bins.invariant.doubled in
    let old = maps_of_bins c.args.bins.now.items in
    let times : IsTimesPower (length old) c.args.count = subst (λ n. IsTimesPower n c.args.count) (sym (length-map c.args.bins.now.items plain_bin)) c.requires.times in
    let less : length c.loop-bins.bins.items < c.args.count = omega (arith, c.loop-bins-test.true, c.len.ensures, c.loop-bins.bins.ok.0) in
    let fits : 2 * length c.loop-bins.bins.items ≤ c.args.count = twice_fits here.0 old c.args.count (length c.loop-bins.bins.items) times (sym (length-map c.loop-bins.bins.items plain_bin) ∙ ap length here.1) less in
    omega (arith, fits, c.requires.room, c.loop-bins.invariant.room)

pub loop-bins-smaller : goal.loop-bins-smaller
loop-bins-smaller g c =
    let len : length c.halve.new.bins.items ≡ 2 * length c.loop-bins.bins.items =
    sym (length-map c.halve.new.bins.items plain_bin) ∙ ap length c.halve.ensures.bins ∙ length-doubled (maps_of_bins c.loop-bins.bins.items) ∙ ap (λ n. 2 * n) (length-map c.loop-bins.bins.items plain_bin) in
    let less : length c.loop-bins.bins.items < c.args.count = omega (arith, c.loop-bins-test.true, c.len.ensures, c.loop-bins.bins.ok.0) in
    omega (arith, len, less, c.loop-bins.invariant.some)

pub loop-bins-preserved : goal.loop-bins-preserved
loop-bins-preserved g c =
    let here = c.loop-bins.invariant.doubled in
    let old = maps_of_bins c.args.bins.now.items in
    let times : IsTimesPower (length old) c.args.count = subst (λ n. IsTimesPower n c.args.count) (sym (length-map c.args.bins.now.items plain_bin)) c.requires.times in
    let less : length c.loop-bins.bins.items < c.args.count = omega (arith, c.loop-bins-test.true, c.len.ensures, c.loop-bins.bins.ok.0) in
    let fits : 2 * length c.loop-bins.bins.items ≤ c.args.count = twice_fits here.0 old c.args.count (length c.loop-bins.bins.items) times (sym (length-map c.loop-bins.bins.items plain_bin) ∙ ap length here.1) less in
    let len : length c.halve.new.bins.items ≡ 2 * length c.loop-bins.bins.items =
    sym (length-map c.halve.new.bins.items plain_bin) ∙ ap length c.halve.ensures.bins ∙ length-doubled (maps_of_bins c.loop-bins.bins.items) ∙ ap (λ n. 2 * n) (length-map c.loop-bins.bins.items plain_bin) in
    let small : length c.loop-bins.bins.items < 2 ^ MAX_TABLE = omega (arith, less, c.requires.most) in
    record {
      doubled = (suc here.0, c.halve.ensures.bins ∙ ap bins_doubled here.1);
      size = subst IsTableSize (sym len) (size_doubled (length c.loop-bins.bins.items) c.loop-bins.invariant.some small c.loop-bins.invariant.size);
      some = omega (arith, len, c.loop-bins.invariant.some);
      most = omega (arith, len, fits);
      numbers = λ all. c.halve.ensures.numbers (c.loop-bins.invariant.numbers all);
      room = c.halve.ensures.room ∙ c.loop-bins.invariant.room;
    }

pub returns-clause-bins : goal.returns-clause-bins
returns-clause-bins g c =
    let here = c.loop-bins.invariant.doubled in
    let old = maps_of_bins c.args.bins.now.items in
    let at : length c.loop-bins.bins.items ≡ length old * 2 ^ here.0 = sym (length-map c.loop-bins.bins.items plain_bin) ∙ ap length here.1 ∙ length-after here.0 old in
    (here.0, omega (arith, at, c.loop-bins.invariant.most, c.loop-bins-test.false, c.len.ensures, c.loop-bins.bins.ok.0), here.1)

pub returns-clause-size : goal.returns-clause-size
returns-clause-size g c = c.loop-bins.invariant.size

pub returns-clause-numbers : goal.returns-clause-numbers
returns-clause-numbers g c = c.loop-bins.invariant.numbers
