use Rattle.std.proofs.Common.{◌≡◌}
use Rattle.flurry_c_base.proofs.ByteLaws.{keeps_or_adds}
use Rattle.flurry_c_base.proofs.byte_map.ByteMap.try_insert.Goals as goal

pub returns-clause-pairs : goal.returns-clause-pairs
returns-clause-pairs c =
    let key : c.in_ok-key.key.items ≡ c.args.key.now = c.in_ok-key.ensures.items_if_clones_equal (λ x y e. e) in
    let value : c.in_ok-value.value.items ≡ c.args.value.now = c.in_ok-value.ensures.items_if_clones_equal (λ x y e. e) in
    rw (← key, ← value) (keeps_or_adds c.args.self.now.map c.try_insert.new.self c.in_ok-key.key c.in_ok-value.value _ _ c.in_ok-try_insert.ensures.reply)
