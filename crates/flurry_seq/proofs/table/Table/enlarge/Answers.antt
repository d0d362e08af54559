use Rattle.std.proofs.Common.{◌≡◌, ◌≤◌, ◌*◌, ◌^◌, length, subst, sym, ap, ◌∙◌, arith}
use Rattle.std.proofs.Math.Nat.{le-mul_of_pos_right}
use Rattle.std.proofs.lemmas.List.{length-map}
use Rattle.std.proofs.lemmas.Nat.{pow_pos}
use Rattle.flurry_seq.specs.Invariant.{IsTableSize}
use Rattle.flurry_seq.specs.MapsOfBins.{plain_bin, maps_of_bins}
use Rattle.flurry_seq.specs.Table.{IsTimesPower, IsEnlarged}
use Rattle.flurry_seq.proofs.table.Table.enlarge.Goals as goal

pub invariant_of-self : goal.invariant_of-self
invariant_of-self g c = (subst (λ n. IsTableSize n) (ap length (sym c.reserve_exact.ensures.items)) c.self.invariant.0, rw c.reserve_exact.ensures.items c.self.invariant.1)

pub returns-clause-ok : goal.returns-clause-ok
returns-clause-ok g c =
    rw (← c.self.view_is) (subst (λ l. IsEnlarged c.args.bins (maps_of_bins l) (maps_of_bins c.halve_until.new.bins.items)) c.in_ok-reserve_exact.ensures.items c.halve_until.ensures.bins)

pub overflow_sub-bins : goal.overflow_sub-bins
overflow_sub-bins g c =
    let n = length c.self.inside.bins.items in
    let len : c.len.result ≡ n = omega (arith, c.len.ensures, c.self.inside.bins.ok.0) in
    let times : IsTimesPower n c.args.bins = subst (λ m. IsTimesPower m c.args.bins) (ap length (sym c.self.view_is) ∙ length-map c.self.inside.bins.items plain_bin) c.requires.times in
    let more : n ≤ n * 2 ^ times.0 = le-mul_of_pos_right n (pow_pos times.0) in
    omega (arith, len, more, times.1)
