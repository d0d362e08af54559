use Rattle.std.proofs.Common.{rules, arith}
use Rattle.flurry_base.proofs.TextLaws.{text_bytes-of_text}
use Rattle.flurry_base.proofs.query.RefStrHashedQueryStringDefaultHashBuilder.hash_by.Goals as goal

pub returns : goal.returns
returns c = rw (text_bytes-of_text c.args.self.now c.utf8.self (omega (arith, c.well_formed.0.1))) search rules
