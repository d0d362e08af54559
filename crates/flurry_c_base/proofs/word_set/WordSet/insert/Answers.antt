use Rattle.std.proofs.lemmas.Cmp.{nat_cmp_total}
use Rattle.std.proofs.lemmas.Result.{on_ok_weaker}
use Rattle.flurry_c_base.proofs.SetInsertionLaws.{adds_or_keeps}
use Rattle.flurry_c_base.proofs.word_set.WordSet.insert.Goals as goal

pub returns-clause-elements : goal.returns-clause-elements
returns-clause-elements c = on_ok_weaker c.insert.result (adds_or_keeps nat_cmp_total c.args.self.now.set.elements c.args.element c.insert.new.self.elements c.insert.ensures.ascend) c.insert.ensures.elements
