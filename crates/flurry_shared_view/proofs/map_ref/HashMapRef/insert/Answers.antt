use Rattle.std.proofs.Common.{rules}
use Rattle.flurry_shared_replies.proofs.RefusalLaws.{insertion_refused}
use Rattle.flurry_shared_view.specs.SharedAnswers.{no_changes}
use Rattle.flurry_shared_view.proofs.map_ref.HashMapRef.insert.Goals as goal

pub unreachable-requires : goal.unreachable-requires
unreachable-requires g c = search rules

pub returns-in-Refused : goal.returns-in-Refused
returns-in-Refused g c = search rules

pub returns-in_default : goal.returns-in_default
returns-in_default g c = insertion_refused g.K.Ord.cmp no_changes _ c.args.self.now.processors c.args.key c.args.value
