use Rattle.std.proofs.Common.{inr, subst, sym, rules}
use Rattle.flurry_base.proofs.FiniteMapLaws.{IsFiniteMap-nil}
use Rattle.flurry_seq.specs.Invariant.{IsTableSize}
use Rattle.flurry_seq.proofs.GrowthLemmas.{wanted_size}
use Rattle.flurry_seq.proofs.seq_map.SeqMap.with_capacity_and_hasher.Goals as goal
use Rattle.flurry_seq.proofs.seq_map.SeqMap.with_capacity_and_hasher.Goals.{then-capacity-gt0+in_ok-begin, else-capacity-gt0}

pub begin-requires-clause-size : goal.begin-requires-clause-size
begin-requires-clause-size g c = subst IsTableSize (sym c.wanted.ensures.value) (inr (wanted_size c.args.capacity))

pub returns-clause-ascend : goal.returns-clause-ascend
returns-clause-ascend g c =
    let none = IsFiniteMap-nil g.row.V.Denot g.K.Ord.cmp in
    elim c.if-capacity-gt0.branch [
      | then-capacity-gt0+in_ok-begin w ↦ rw (w.map-is, w.in_ok-begin.ensures.ok, c.with_hasher-map.ensures.empty) none
      | else-capacity-gt0 w ↦ rw (w.map-is, c.with_hasher-map.ensures.empty) none
    ]

pub returns-clause-empty : goal.returns-clause-empty
returns-clause-empty g c = search rules
