use Rattle.std.proofs.Common.{◌≡◌, refl}
use Rattle.flurry_c_base.proofs.ByteLaws.{with_pair_bytes}
use Rattle.flurry_c_base.proofs.byte_map.ByteMap.insert.Goals as goal

pub returns-clause-pairs : goal.returns-clause-pairs
returns-clause-pairs c =
    let key : c.in_ok-key.key.items ≡ c.args.key.now = c.in_ok-key.ensures.items_if_clones_equal (λ x y e. e) in
    let value : c.in_ok-value.value.items ≡ c.args.value.now = c.in_ok-value.ensures.items_if_clones_equal (λ x y e. e) in
    rw (c.in_ok-insert.ensures.pairs, with_pair_bytes _ _ _, key, value) refl
