-- Laws of the order of hashes and keys.
use Rattle.std.specs.declared.cmp.Ordering.{Ordering}
use Rattle.std.specs.Cmp.{IsTotalOrder, nat_cmp_total, on_total, then_total}
use Rattle.flurry_base.specs.HashOrder.{hash_then_key}

-- the order by hash and key is total
pub hash_then_key_total : {K : Type 0} {cmp : K → K → Ordering} → IsTotalOrder cmp → IsTotalOrder (hash_then_key cmp)
hash_then_key_total o = then_total (on_total (λ p. p.0) nat_cmp_total) (on_total (λ p. p.1) o)
