use Rattle.std.proofs.Common.{◌∙◌, length}
use Rattle.flurry_c_base.proofs.BufferLaws.{drop_further}
use Rattle.flurry_c_base.proofs.copying.copy_pair.Goals as goal

pub returns-clause-behind : goal.returns-clause-behind
returns-clause-behind c =
    c.copy_at.ensures.behind ∙ rw c.copy_at.ensures.end (drop_further c.copy_at-end.result (length c.args.value.now) c.copy_at-end.new.buffer c.args.buffer.now c.copy_at-end.ensures.behind)
