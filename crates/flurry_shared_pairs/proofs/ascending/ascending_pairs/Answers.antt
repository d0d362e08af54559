use Rattle.std.proofs.Common.{rules, refl}
use Rattle.std.specs.Ordering.{eq_by_cmp}
use Rattle.std.proofs.lemmas.Cmp.{on_total}
use Rattle.std.proofs.lemmas.Fn.{always_returns_same, dedup_same}
use Rattle.std.proofs.lemmas.List.Kept.{IsStrictlySortedBy-dedup}
use Rattle.std.proofs.lemmas.List.Sorted.{ranks_by}
use Rattle.flurry_seq_pairs.proofs.SortedLaws.{keys_ascend}
use Rattle.flurry_shared_pairs.proofs.ascending.ascending_pairs.Goals as goal

pub returns : goal.returns
returns g c =
    let sorted = c.sort_unstable_by.ensures.sorted _ (ranks_by g.met.K.Ord.total (λ p. p.0)) (always_returns_same _ _ _ (λ a r f' k. search rules)) in
    let left = dedup_same _ (λ p q. eq_by_cmp g.K.Ord.cmp p.0 q.0) _ (λ x y b f' x' y' k. search rules) _ _ c.dedup_by.ensures.filtered in
    rw left (keys_ascend g.K.Ord.cmp _ (IsStrictlySortedBy-dedup (on_total (λ p. p.0) g.met.K.Ord.total) (λ x y. refl) c.sort_unstable_by.new.self.items sorted))
