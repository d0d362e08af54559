-- What each owned map keeps.
use Rattle.std.specs.Prelude.{◌≡◌, ℕ, suc, ◌≤◌, ◌^◌, ◌⊎◌, List, [], ◌∷◌, length}
use Rattle.std.specs.declared.cmp.Ordering.{Ordering}
use Rattle.std.specs.List.{AllByRecursion}
use Rattle.flurry_base.specs.FiniteMap.{IsFiniteMap, map_of_pairs}
use Rattle.flurry_base.specs.HashOrder.{hash_then_key}
use Rattle.flurry_seq.specs.Table.{all_pairs, bin_of}
use Rattle.flurry_base.specs.declared.sizes.TheConstants.{MAX_TABLE, MAX_LEN}

module _ {K V : Type 0} (cmp : K → K → Ordering) (hash : K → ℕ) where
  -- the bin at place i of n: its entries ascend, and each has its key's hash and lies in its bin
  pub record IsBinAt (n i : ℕ) (b : List ((ℕ × K) × V)) : Type 0 where
    pub ascends : IsFiniteMap (hash_then_key cmp) b
    pub placed : AllByRecursion (λ e. (e.0.0 ≡ hash e.0.1) × (bin_of n e.0.0 ≡ i)) b

  -- the bins from place i on
  abbrev pub AreBinsFrom : ℕ → ℕ → List (List ((ℕ × K) × V)) → Type 0
  AreBinsFrom n i [] = Unit {0}
  AreBinsFrom n i (b ∷ bins) = IsBinAt n i b × AreBinsFrom n (suc i) bins

-- no table, or one of 2^e bins
abbrev pub IsTableSize : ℕ → Type 0
IsTableSize n = (n ≡ 0) ⊎ ((e : ℕ) × (e ≤ MAX_TABLE) × (n ≡ 2 ^ e))

pub record IsTable {K V : Type 0} (cmp : K → K → Ordering) (hash : K → ℕ) (bins : List (List ((ℕ × K) × V))) (len : ℕ) : Type 0 where
  pub placed : AreBinsFrom cmp hash (length bins) 0 bins
  pub count : len ≡ length (map_of_pairs cmp (all_pairs bins))
  pub few : len ≤ MAX_LEN
