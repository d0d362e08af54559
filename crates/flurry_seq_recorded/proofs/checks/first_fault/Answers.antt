use Rattle.std.proofs.Common.{sym, ◌∙◌}
use Rattle.std.proofs.lemmas.Bool.Decides.{not_from_Decides}
use Rattle.flurry_base.specs.contracts.reply.KeptReplyPartialEq.TheImpl as reply
use Rattle.flurry_seq_recorded.specs.contracts.kept.KeptCallPartialEq.TheImpl as call
use Rattle.flurry_seq_recorded.proofs.ShareLemmas.{all_pass, not_all_pass, kept_within}
use Rattle.flurry_seq_recorded.proofs.checks.first_fault.Goals as goal

pub returns-then-not-branch-clause-err : goal.returns-then-not-branch-clause-err
returns-then-not-branch-clause-err g c = not_from_Decides _ c.in_ok-shares_stand.ensures.ok c.if-not-branch.true

pub returns-then-not-receipts_stand-clause-err : goal.returns-then-not-receipts_stand-clause-err
returns-then-not-receipts_stand-clause-err g c = (c.in_ok-shares_stand.ensures.ok.0 c.if-not-branch.false, not_all_pass _ c.args.shares.now (sym c.receipts_stand.ensures ∙ c.if-not-receipts_stand.true))

pub places_stand-requires : goal.places_stand-requires
places_stand-requires g c = kept_within (call.ghosts g.row.K g.row.V g.K.PartialEq g.K.PartialEq-dict g.V.PartialEq g.V.PartialEq-dict).eq (reply.ghosts g.row.K g.row.V g.K.PartialEq g.K.PartialEq-dict g.V.PartialEq g.V.PartialEq-dict).eq c.args.history.now _ (all_pass _ c.args.shares.now (sym c.receipts_stand.ensures ∙ c.if-not-receipts_stand.false))

pub returns-then-not-branch-2-clause-err : goal.returns-then-not-branch-2-clause-err
returns-then-not-branch-2-clause-err g c = (
  c.in_ok-shares_stand.ensures.ok.0 c.if-not-branch.false,
  all_pass _ c.args.shares.now (sym c.receipts_stand.ensures ∙ c.if-not-receipts_stand.false),
  not_from_Decides _ c.in_ok-places_stand.ensures.ok c.if-not-branch-2.true,
)

pub returns-clause-ok : goal.returns-clause-ok
returns-clause-ok g c = record {
  stand = c.in_ok-shares_stand.ensures.ok.0 c.if-not-branch.false;
  kept = all_pass _ c.args.shares.now (sym c.receipts_stand.ensures ∙ c.if-not-receipts_stand.false);
  placed = c.in_ok-places_stand.ensures.ok.0 c.if-not-branch-2.false;
}
