use Rattle.std.proofs.Common.{◌≡◌, suc, ◌+◌, ◌≤◌, [], length, is_some, inl, ap, ◌∙◌, arith, rules}
use Rattle.flurry_base.specs.FiniteMap.{pair_at}
use Rattle.flurry_base.proofs.FiniteMapLaws.{length-with_pair}
use Rattle.flurry_seq.specs.Growth.{bins_for}
use Rattle.flurry_seq.proofs.RoomLaws.{one_more, room_for, room_more}
use Rattle.flurry_bins.specs.PlainEntries.{pair_of_entry}
use Rattle.flurry_seq.proofs.CloneLaws.{rest_first, rest_next}
use Rattle.flurry_seq.proofs.seq_map.SeqMap.try_clone.Goals as goal

pub loop-entry-init : goal.loop-entry-init
loop-entry-init g c =
    let pairs : c.in_ok-copy.copy.pairs ≡ [] = ap (λ m. m.pairs) c.in_ok-copy.ensures.empty in
    let hasher : c.in_ok-copy.copy.hasher ≡ c.args.self.now.hasher = ap (λ m. m.hasher) c.in_ok-copy.ensures.empty ∙ ap (λ m. m.hasher) c.self.view_is in
    let all = c.entries-entry-items in
    record {
      rest =
          rw (hasher, pairs, c.into_iter-entry-iterator.ensures.into_iter_gives)
          (rest_first g.met.K.Ord.total (g.S.KeyHasher.hash_of c.args.self.now.hasher) c.args.self.now.pairs all.result all.ensures.apart all.ensures.hashed all.ensures.pairs);
      room = inl (ap (λ m. m.bins) c.in_ok-copy.ensures.empty ∙ ap bins_for c.len.ensures.pairs);
      count = rw (pairs, c.into_iter-entry-iterator.ensures.into_iter_gives) (omega (arith, all.ensures.count));
      hasher = hasher;
    }

pub loop-entry-preserved : goal.loop-entry-preserved
loop-entry-preserved g c =
    let before = rw c.in-Some.ensures.steps at c.loop-entry.invariant.rest in
    let count : length c.loop-entry.copy.pairs + suc (length c.next.new.self) ≤ length c.args.self.now.pairs = rw c.in-Some.ensures.steps at c.loop-entry.invariant.count in
    let entry = pair_of_entry c.in-Some.entry.now in
    let long = one_more (is_some (pair_at g.K.Ord.cmp c.loop-entry.copy.pairs entry.0.1)) (length c.loop-entry.copy.pairs) (length c.add.new.self.pairs) (ap length (rw (c.in_ok-node.ensures.key, c.in_ok-node.ensures.value) at c.in_ok-add.ensures.pairs) ∙ length-with_pair g.met.K.Ord.total c.loop-entry.copy.pairs entry.0.1 entry.1 before.sorted) in
    record {
      rest =
          rw (c.in_ok-add.ensures.pairs, c.in_ok-add.ensures.hasher, c.in_ok-node.ensures.key, c.in_ok-node.ensures.value)
          (rest_next g.met.K.Ord.total (g.S.KeyHasher.hash_of c.loop-entry.copy.hasher) c.args.self.now.pairs c.loop-entry.copy.pairs (pair_of_entry c.in-Some.entry.now) c.next.new.self before);
      room =
          room_more (bins_for (length c.args.self.now.pairs)) (length c.loop-entry.copy.pairs) (length c.add.new.self.pairs) (length c.args.self.now.pairs) c.loop-entry.copy.bins c.add.new.self.bins (room_for (length c.args.self.now.pairs)) (omega (arith, count)) long.0
          (omega (arith, long.1, count))
          c.loop-entry.invariant.room c.in_ok-add.ensures.bins;
      count = omega (arith, long.1, count);
      hasher = c.in_ok-add.ensures.hasher ∙ c.loop-entry.invariant.hasher;
    }

pub returns-clause-pairs : goal.returns-clause-pairs
returns-clause-pairs g c = search rules
