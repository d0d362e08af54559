use Rattle.std.proofs.Common.{ap, sym, ◌∙◌}
use Rattle.std.specs.Prelude.{◌%◌, ◌^◌}
use Rattle.test_steps.proofs.tests.bins.slots.lies_in.Goals as goal

pub returns-then-bin_index-index : goal.returns-then-bin_index-index
returns-then-bin_index-index g =
    ap (λ t. g.args.hash % 2 ^ t) (sym g.at-table.ensures.at.0) ∙ sym g.bin_index.ensures.place ∙ g.if-bin_index-index.true ∙ g.at-table.ensures.at.1
