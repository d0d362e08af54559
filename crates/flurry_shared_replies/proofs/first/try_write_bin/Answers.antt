use Rattle.std.proofs.lemmas.Grind.{common_steps}
use Rattle.std.proofs.Common.{◌≡◌, ◌%◌, ◌^◌, ◌≤◌, arith, rules}
use Rattle.flurry_base.specs.declared.sizes.TheConstants.{MAX_TABLE}
use Rattle.flurry_steps.specs.FirstSteps.{begun_at}
use Rattle.flurry_steps_sweep.specs.Part.{BinPart}
use Rattle.flurry_steps_stages.specs.Stage.{stage_of_call}
use Rattle.flurry_steps.specs.Party.{wanted_part}
use Rattle.flurry_steps_stages.specs.CallView.{plain_call}
use Rattle.flurry_shared_replies.proofs.BeginLaws.{write_locates, write_wants, write_begun}
use Rattle.flurry_shared_replies.proofs.first.try_write_bin.Goals as goal

pub returns-then-is_live : goal.returns-then-is_live
returns-then-is_live g c =
    let q = c.deref_mut.result.now in
    let same : q ≡ c.deref.result.now = search rules in
    let equal = c.if-eq.ensures {u = tt} in
    let table : c.deref.result.now.table ≡ c.args.start.now = grind (arith, common_steps, equal, c.at.ensures.at, c.table-table.ensures.value) in
    let index : c.deref.result.now.index ≡ c.args.hash % 2 ^ c.args.start.now = grind (arith, common_steps, equal, c.at.ensures.at, c.table-table.ensures.value, c.bin_index-index.ensures.place) in
    let within : c.args.start.now ≤ MAX_TABLE = omega (arith, c.table-table.ensures.value, c.table-table.ensures.within) in
    λ n.
    let wants : wanted_part (begun_at c.args.start.now c.args.hash n (stage_of_call (plain_call g.Q.Query.stands_for c.args.call))) ≡ BinPart q.table q.index =
    rw (same, table, index) (write_wants g.Q.Query.stands_for c.args.call c.args.start.now c.args.hash n c.requires.writes) in
    write_begun g.K.Ord.cmp g.F.ComputeFn.changes c.args.hash n c.args.start.now _ _ (write_locates g.Q.Query.stands_for c.args.call c.requires.writes) within q c.write_first.new.slot wants c.write_first.ensures.within c.write_first.ensures.steps
