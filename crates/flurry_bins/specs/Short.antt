-- How long a list of entries and a way in it are.
use Rattle.std.specs.Prelude.{◌≡◌, ℕ, ◌≤◌, true, false, List, [], ◌∷◌, length}
use Rattle.std.proofs.Common.{arith, cond}
use Rattle.std.specs.declared.cmp.Ordering.{Ordering}
use Rattle.std.specs.Ordering.{is_gt}
use Rattle.flurry_bins.specs.declared.bin.entry.Entry.{Entry}
use Rattle.flurry_bins.specs.Entries.{list_way, place_cmp}
use Rattle.flurry_base.specs.declared.sizes.TheConstants.{MAX_LEN}

pub short_list : {n m : ℕ} → n ≡ m → n ≤ MAX_LEN → m ≤ MAX_LEN
short_list e h = omega arith

-- a way in a list meets no entry twice
pub list_way-short : {K V A : Type 0} (cmp : K → K → Ordering) (h : ℕ) (k : K) (es : List (Entry K V A)) → length (list_way cmp h k es) ≤ length es
list_way-short cmp h k [] = omega arith
list_way-short cmp h k (e ∷ es) =
    let rest = list_way-short cmp h k es in
    elim (is_gt (place_cmp cmp h k e)) as (λ b. length (e ∷ cond b (list_way cmp h k es) []) ≤ length (e ∷ es)) [ true ↦ omega arith | false ↦ omega arith ]
