use Rattle.std.proofs.Common.{◌≡◌}
use Rattle.std.specs.Borrow.{Bor}
use Rattle.flurry_seq.proofs.CallLemmas.{try_put, try_met, try_stays, computed, compute_stays}
use Rattle.flurry_seq.proofs.seq_map.SeqMap.call_to_write.Goals as goal

pub returns-in-Ok-clause-ok : goal.returns-in-Ok-clause-ok
returns-in-Ok-clause-ok g c =
    rw c.in-TryInsert.is (
      try_put {F = g.row.F.Denot} g.K.Ord.cmp (λ f k v o. (x : Bor g.row.K.Denot) × (y : Bor g.row.V.Denot) × (x.now ≡ k) × (y.now ≡ v) × goal.F-post g f x y o) c.in-TryInsert.key c.args.self.now c.try_insert.new.self c.in-TryInsert.value c.in-Ok.value (rw c.in-Ok.is at c.in_ok-value-in-TryInsert.ensures.reply) c.in_ok-value-in-TryInsert.ensures.hasher,
      try_stays {F = g.row.F.Denot} g.K.Ord.cmp (λ f k v o. (x : Bor g.row.K.Denot) × (y : Bor g.row.V.Denot) × (x.now ≡ k) × (y.now ≡ v) × goal.F-post g f x y o) c.in-TryInsert.key c.args.self.now c.try_insert.new.self c.in-TryInsert.value _ c.in_ok-value-in-TryInsert.ensures.reply,
    )

pub returns-in-Err-clause-ok : goal.returns-in-Err-clause-ok
returns-in-Err-clause-ok g c =
    rw c.in-TryInsert.is (
      try_met {F = g.row.F.Denot} g.K.Ord.cmp (λ f k v o. (x : Bor g.row.K.Denot) × (y : Bor g.row.V.Denot) × (x.now ≡ k) × (y.now ≡ v) × goal.F-post g f x y o) c.in-TryInsert.key c.args.self.now c.try_insert.new.self c.in-TryInsert.value c.in-Err.error (rw c.in-Err.is at c.in_ok-value-in-TryInsert.ensures.reply) c.in_ok-value-in-TryInsert.ensures.hasher,
      try_stays {F = g.row.F.Denot} g.K.Ord.cmp (λ f k v o. (x : Bor g.row.K.Denot) × (y : Bor g.row.V.Denot) × (x.now ≡ k) × (y.now ≡ v) × goal.F-post g f x y o) c.in-TryInsert.key c.args.self.now c.try_insert.new.self c.in-TryInsert.value _ c.in_ok-value-in-TryInsert.ensures.reply,
    )

pub returns-in_ok-compute_if_present-in-ComputeIfPresent-clause-ok : goal.returns-in_ok-compute_if_present-in-ComputeIfPresent-clause-ok
returns-in_ok-compute_if_present-in-ComputeIfPresent-clause-ok g c =
    rw c.in-ComputeIfPresent.is (
      computed {F = g.row.F.Denot} g.K.Ord.cmp (λ f k v o. (x : Bor g.row.K.Denot) × (y : Bor g.row.V.Denot) × (x.now ≡ k) × (y.now ≡ v) × goal.F-post g f x y o) c.in-ComputeIfPresent.key c.args.self.now c.compute_if_present.new.self c.in-ComputeIfPresent.f c.in_ok-compute_if_present-in-ComputeIfPresent.field-0 c.in_ok-compute_if_present-in-ComputeIfPresent.ensures.absent c.in_ok-compute_if_present-in-ComputeIfPresent.ensures.present c.in_ok-compute_if_present-in-ComputeIfPresent.ensures.hasher,
      compute_stays {F = g.row.F.Denot} g.K.Ord.cmp (λ f k v o. (x : Bor g.row.K.Denot) × (y : Bor g.row.V.Denot) × (x.now ≡ k) × (y.now ≡ v) × goal.F-post g f x y o) c.in-ComputeIfPresent.key c.args.self.now c.compute_if_present.new.self c.in-ComputeIfPresent.f c.in_ok-compute_if_present-in-ComputeIfPresent.field-0 c.in_ok-compute_if_present-in-ComputeIfPresent.ensures.absent c.in_ok-compute_if_present-in-ComputeIfPresent.ensures.present,
    )

pub compute_if_present-requires : goal.compute_if_present-requires
compute_if_present-requires g c = λ p is k v of_k of_v. (c.requires.computes c.in-ComputeIfPresent.f).at (k, (v, tt))
