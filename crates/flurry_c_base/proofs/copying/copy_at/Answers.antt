use Rattle.std.proofs.Common.{◌≡◌, ◌+◌, ◌-◌, arith, length}
use Rattle.std.proofs.lemmas.Slice.{drop-put_mid}
use Rattle.flurry_c_base.proofs.copying.copy_at.Goals as goal

pub returns-clause-behind : goal.returns-clause-behind
returns-clause-behind c =
    let count : length c.copy_from_slice.new.self ≡ c.args.at + length c.args.bytes.now - c.args.at = rw c.copy_from_slice.ensures.after (omega arith) in
    drop-put_mid c.args.at (c.args.at + length c.args.bytes.now - c.args.at) c.args.buffer.now c.copy_from_slice.new.self (c.args.at + length c.args.bytes.now)
    (omega arith) (omega (arith, c.requires)) count
