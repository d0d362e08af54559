use Rattle.std.proofs.Common.{◌*◌, length, inl, inr, refl, subst}
use Rattle.flurry_base.specs.Sizes.{wanted_of, IsOnTheWay}
use Rattle.flurry_seq.specs.Growth.{IsTableFrom}
use Rattle.flurry_seq.specs.Invariant.{IsTableSize}
use Rattle.flurry_seq.proofs.RoomLaws.{way_up, asked_most}
use Rattle.flurry_seq.proofs.seq_map.SeqMap.grow.Goals as goal
use Rattle.flurry_seq.proofs.seq_map.SeqMap.grow.Goals.{then-asks, else-asks}

pub returns-clause-bins : goal.returns-clause-bins
returns-clause-bins g c =
    let old = c.args.self.now in
    let from : IsTableFrom old.bins (length c.if-asks.self.pairs) c.if-asks.self.bins =
    elim c.if-asks.branch [
      | then-asks w ↦
          let asked = c.requires.asks w.if-asks.true in
          let size : IsTableSize old.bins = subst IsTableSize w.capacity.ensures.bins w.capacity.ensures.size in
          let wanted : IsOnTheWay old.bins (wanted_of (2 * old.bins)) w.grow_to.new.self.bins = rw (w.wanted.ensures.value, w.capacity.ensures.bins) at w.grow_to.ensures.way in
          rw (w.self-is, w.grow_to.ensures.same.0) (inr (asked.0, asked.1, way_up old.bins (wanted_of (2 * old.bins)) 128 w.grow_to.new.self.bins (asked_most old.bins size asked.0) wanted))
      | else-asks w ↦ rw w.self-is (inl refl)
    ] in
    rw c.grow_while_full.ensures.same.0 (c.if-asks.self.bins, from, c.grow_while_full.ensures.way)
