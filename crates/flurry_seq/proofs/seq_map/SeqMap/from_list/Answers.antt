use Rattle.std.proofs.Common.{◌≡◌, ◌+◌, List, [], ◌∷◌, Ordering, length, inl, subst, ap, ◌∙◌, arith}
use Rattle.std.specs.Cmp.{IsTotalOrder}
use Rattle.flurry_base.specs.FiniteMap.{IsFiniteMap, with_all, with_pair}
use Rattle.flurry_base.proofs.FiniteMapLaws.{IsFiniteMap-with_pair}
use Rattle.flurry_seq.specs.Growth.{bins_for, HasRoom}
use Rattle.flurry_seq.proofs.RoomLaws.{room_for}
use Rattle.flurry_seq.proofs.seq_map.SeqMap.from_list.Goals as goal

pub returns-clause-bins : goal.returns-clause-bins
returns-clause-bins g c =
    let count = length c.args.list.items in
    let made = c.in_ok-map.ensures.empty in
    let as_long : c.len.result ≡ count = omega (arith, c.len.ensures, c.args.list.ok.0) in
    let bins : c.in_ok-map.map.bins ≡ bins_for count = ap (λ m. m.bins) made ∙ ap bins_for as_long in
    let none : length c.in_ok-map.map.pairs ≡ 0 = ap (λ m. length m.pairs) made in
    let all : count ≡ length c.in_ok-map.map.pairs + count = omega (arith, none) in
    c.in_ok-insert_all.ensures.room (bins_for count) (subst (HasRoom (bins_for count)) all (room_for count)) (inl bins)

IsFiniteMap-with_all : {K V : Type 0} {cmp : K → K → Ordering} (o : IsTotalOrder cmp) (m ps : List (K × V)) → IsFiniteMap cmp m → IsFiniteMap cmp (with_all cmp m ps)
IsFiniteMap-with_all o m [] s = s
IsFiniteMap-with_all {cmp = cmp} o m (p ∷ ps) s = IsFiniteMap-with_all o (with_pair cmp m p.0 p.1) ps (IsFiniteMap-with_pair o m p.0 p.1 s)

pub returns-clause-ascend : goal.returns-clause-ascend
returns-clause-ascend g c = rw c.in_ok-insert_all.ensures.ok (IsFiniteMap-with_all g.met.K.Ord.total c.in_ok-map.map.pairs c.args.list.items c.in_ok-map.ensures.ascend)
