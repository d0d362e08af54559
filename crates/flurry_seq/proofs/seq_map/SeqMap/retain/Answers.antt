use Rattle.std.proofs.Common.{ap, arith}
use Rattle.flurry_base.specs.FiniteMap.{map_of_pairs}
use Rattle.flurry_seq.specs.Contents.{contents}
use Rattle.flurry_seq.specs.Table.{all_pairs}
use Rattle.flurry_seq.proofs.IterLaws.{pairs_permute}
use Rattle.flurry_seq.proofs.KeepsLemmas.{as_many, IsTable-kept, KeepsBins-length, KeepsBins-pairs}
use Rattle.flurry_base.proofs.FiniteMapLaws.{IsFiniteMap-map_of_pairs}
use Rattle.flurry_seq.proofs.seq_map.SeqMap.retain.Goals as goal

pub retain-self-inside-requires-clause-few : goal.retain-self-inside-requires-clause-few
retain-self-inside-requires-clause-few g c =
    let hash = g.S.KeyHasher.hash_of c.self.inside.hasher in
    let alike = g.met.S.KeyHasher.alike c.self.inside.hasher in
    omega (arith, as_many g.met.K.Ord.total hash alike (goal.F-step g) c.self.inside.table c.self.inside.len c.self.invariant, c.self.invariant.few)

pub invariant_of-self : goal.invariant_of-self
invariant_of-self g c =
    let hash = g.S.KeyHasher.hash_of c.self.inside.hasher in
    let alike = g.met.S.KeyHasher.alike c.self.inside.hasher in
    rw c.retain-self-inside.ensures.len (IsTable-kept g.met.K.Ord.total hash alike (goal.F-step g) c.args.f c.self.inside.table c.retain-self-inside.new.self c.retain-self-inside.new.keep c.self.inside.len c.retain-self-inside.ensures.kept c.self.invariant)

pub returns-clause-kept : goal.returns-clause-kept
returns-clause-kept g c =
    let hash = g.S.KeyHasher.hash_of c.self.inside.hasher in
    let alike = g.met.S.KeyHasher.alike c.self.inside.hasher in
    let old = c.self.inside.table in
    let new = c.retain-self-inside.new.self in
    let calls = KeepsBins-pairs (goal.F-step g) c.args.f old new c.retain-self-inside.new.keep c.retain-self-inside.ensures.kept in
    let bins = KeepsBins-length (goal.F-step g) c.args.f old new c.retain-self-inside.new.keep c.retain-self-inside.ensures.kept in
    rw (← c.self.view_is) (
      all_pairs old,
      all_pairs new,
      c.retain-self-inside.new.keep,
      pairs_permute g.met.K.Ord.total hash alike old c.self.invariant.placed,
      calls,
      ap (λ n. contents (map_of_pairs g.K.Ord.cmp (all_pairs new)) n c.self.inside.hasher) bins,
    )

pub returns-clause-ascend : goal.returns-clause-ascend
returns-clause-ascend g c = rw (← c.self.view_is) (IsFiniteMap-map_of_pairs g.met.K.Ord.total (all_pairs c.self.inside.table))
