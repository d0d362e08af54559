use Rattle.std.proofs.Common.{◌≡◌, ◌+◌, length, inl, subst, ap, ◌∙◌, arith, rules}
use Rattle.flurry_seq.specs.Growth.{bins_for, HasRoom}
use Rattle.flurry_seq.proofs.RoomLaws.{room_for}
use Rattle.flurry_seq_set.proofs.seq_set.SeqSet.from_list.Goals as goal

pub returns-clause-bins : goal.returns-clause-bins
returns-clause-bins g c =
    let count = length c.args.list.items in
    let made = c.in_ok-set.ensures.empty in
    let as_long : c.len.result ≡ count = omega (arith, c.len.ensures, c.args.list.ok.0) in
    let bins : c.in_ok-set.set.bins ≡ bins_for count = ap (λ s. s.bins) made ∙ ap bins_for as_long in
    let none : length c.in_ok-set.set.elements ≡ 0 = ap (λ s. length s.elements) made in
    let all : count ≡ length c.in_ok-set.set.elements + count = omega (arith, none) in
    c.in_ok-insert_all.ensures.room (bins_for count) (subst (HasRoom (bins_for count)) all (room_for count)) (inl bins)

pub returns-clause-made : goal.returns-clause-made
returns-clause-made g c = search rules
