use Rattle.std.proofs.Common.{◌≡◌, [], length, replicate, subst, sym, ap, ◌∙◌, arith}
use Rattle.std.proofs.lemmas.List.{length-map, length-replicate}
use Rattle.flurry_seq.specs.Invariant.{IsTableSize}
use Rattle.flurry_seq.specs.MapsOfBins.{plain_bin}
use Rattle.flurry_seq.proofs.table.Table.begin.Goals as goal

pub invariant_of-self : goal.invariant_of-self
invariant_of-self g c =
    let all : c.loop.counter ≡ c.args.bins = omega arith in
    let len : length c.loop.table.items ≡ c.args.bins = sym (length-map c.loop.table.items plain_bin) ∙ ap length c.loop.invariant.empty ∙ length-replicate c.loop.counter [] ∙ all in
    (subst IsTableSize (sym len) c.requires, c.loop.invariant.numbers)

pub returns-clause-ok : goal.returns-clause-ok
returns-clause-ok g c =
    let all : c.loop.counter ≡ c.args.bins = omega arith in
    c.loop.invariant.empty ∙ ap (λ n. replicate n []) all
