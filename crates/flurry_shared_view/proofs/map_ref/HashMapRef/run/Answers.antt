use Rattle.std.proofs.Common.{◌∙◌, ap, refl}
use Rattle.flurry_shared_locks.specs.LockLoans.{LockLends, RoomStays}
use Rattle.flurry_steps_sweep.specs.OutcomeView.{outcome_of}
use Rattle.flurry_steps_stages.specs.CallView.{plain_call}
use Rattle.flurry_steps_stages.specs.Stage.{stage_of_call}
use Rattle.flurry_shared_replies.specs.Replies.{new_party}
use Rattle.flurry_shared_view.specs.SharedAnswers.{MapSettings}
use Rattle.flurry_base.specs.OneKey.{hash_of_call}
use Rattle.flurry_shared_replies.proofs.AnswerLaws.{can_answer}
use Rattle.flurry_shared_replies.proofs.BeginLaws.{of_equal}
use Rattle.flurry_shared_view.proofs.map_ref.HashMapRef.run.Goals as goal

pub returns-clause-driven : goal.returns-clause-driven
returns-clause-driven g c =
    of_equal g.K.Ord.cmp g.F.ComputeFn.changes (outcome_of c.reply_to.result) _ _
    (ap (λ n. new_party n c.self.inside.processors (stage_of_call (plain_call g.Q.Query.stands_for c.args.call))) c.hash_by-hash.ensures ∙ ap (λ (m : MapSettings g.row.K.Denot g.row.V.Denot g.row.S.Denot). new_party (hash_of_call (g.S.KeyHasher.hash_of m.hasher) (plain_call g.Q.Query.stands_for c.args.call)) m.processors (stage_of_call (plain_call g.Q.Query.stands_for c.args.call))) c.self.view_is)
    c.reply_to.ensures

pub returns-clause-answers : goal.returns-clause-answers
returns-clause-answers g c = can_answer RoomStays g.K.Ord.cmp g.F.ComputeFn.changes LockLends c.reply_to.ensures.field_steps g.Q.Query.stands_for c.args.call refl
