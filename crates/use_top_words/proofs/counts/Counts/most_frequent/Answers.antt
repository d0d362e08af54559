-- The list is sorted by what is wanting to the greatest count, and its front is in the same order.
use Rattle.std.proofs.Common.{rules, ◌-◌, ◌^◌, ℕ, String, subst, sym}
use Rattle.std.proofs.lemmas.List.Sorted.{IsNonDecreasingBy-from_sort_by_key, IsNonDecreasingBy-take}
use Rattle.std.specs.Global.{Global}
use Rattle.std.specs.List.Sorted.{IsNonDecreasingBy}
use Rattle.use_top_words.proofs.counts.Counts.most_frequent.Goals as goal

abbrev wanting : String Global × ℕ → ℕ
wanting p = 2 ^ 64 - 1 - p.1

pub returns-clause-order : goal.returns-clause-order
returns-clause-order c = subst (IsNonDecreasingBy wanting) (sym c.truncate.ensures.items)
    (IsNonDecreasingBy-take wanting _ _ (IsNonDecreasingBy-from_sort_by_key wanting _ c.in_ok-sort_by_key.ensures.sorted (λ a r q k. search rules)))
