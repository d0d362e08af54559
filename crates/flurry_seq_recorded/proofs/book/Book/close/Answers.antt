use Rattle.std.proofs.Common.{rules, ap, ◌∙◌}
use Rattle.flurry_base.specs.contracts.reply.KeptReplyPartialEq.TheImpl as reply
use Rattle.flurry_seq_recorded.specs.contracts.kept.KeptCallPartialEq.TheImpl as call
use Rattle.flurry_seq_recorded.proofs.ShareLemmas.{fault_of, closed_of}
use Rattle.flurry_seq_recorded.proofs.book.Book.close.Goals as goal

pub returns-in-Err-clause-err : goal.returns-in-Err-clause-err
returns-in-Err-clause-err g c =
    fault_of (call.ghosts g.row.K g.row.V g.K.PartialEq g.K.PartialEq-dict g.V.PartialEq g.V.PartialEq-dict).eq (reply.ghosts g.row.K g.row.V g.K.PartialEq g.K.PartialEq-dict g.V.PartialEq g.V.PartialEq-dict).eq
    c.len.result _ c.deref.result.now _ c.deref-2.result.now _ c.in-Err.fault (search rules) (c.deref.ensures.value ∙ ap (λ b. b.history) c.self.view_is) c.deref-2.ensures.value c.in-Err.ensures.err

pub returns-clause-parts : goal.returns-clause-parts
returns-clause-parts g c = (ap (λ b. b.contents) c.self.view_is, ap (λ b. b.history) c.self.view_is)

pub returns-clause-closed : goal.returns-clause-closed
returns-clause-closed g c =
    closed_of (call.ghosts g.row.K g.row.V g.K.PartialEq g.K.PartialEq-dict g.V.PartialEq g.V.PartialEq-dict).eq (reply.ghosts g.row.K g.row.V g.K.PartialEq g.K.PartialEq-dict g.V.PartialEq g.V.PartialEq-dict).eq
    g.K.Ord.cmp c.len.result c.deref.result.now _ c.deref-2.result.now _ _ c.deref.ensures.value c.deref-2.ensures.value c.in_default.ensures.ok c.self.invariant.replays

pub returns-clause-all : goal.returns-clause-all
returns-clause-all g c = search rules
