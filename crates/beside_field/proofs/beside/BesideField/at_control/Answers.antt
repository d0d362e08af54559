use Rattle.std.proofs.Common.{refl, sym, ◌∙◌, subst, ◌≤◌}
use Rattle.flurry_steps.specs.Field.{PublishedLoan}
use Rattle.flurry_steps_world.specs.Parts.{IsPublishedTable}
use Rattle.beside_field.proofs.beside.BesideField.at_control.Goals as goal

pub returns-then-is_published_table : goal.returns-then-is_published_table
returns-then-is_published_table g c = record {
  loan = PublishedLoan c.args.self.now.start;
  lent = (subst (IsPublishedTable c.args.self.now.parts) c.table.ensures.value (c.is_published_table.ensures c.if-is_published_table.true), refl);
  step = (sym c.is_locating.ensures ∙ c.if-is_locating.true, subst (λ n. n ≤ 30) c.table.ensures.value c.table.ensures.within, c.on_published.ensures.silent, c.on_published.ensures.at);
}
