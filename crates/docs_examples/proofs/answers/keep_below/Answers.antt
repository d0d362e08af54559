use Rattle.std.proofs.Common.{rules, ◌≡◌, ltb}
use Rattle.std.proofs.lemmas.Cmp.{nat_cmp_total}
use Rattle.flurry.proofs.RetainLaws.{retained_by_test}
use Rattle.docs_examples.proofs.answers.keep_below.Goals as goal

-- the bound that the function keeps stays as it is, and each call answers whether the value is below it
pub returns : goal.returns
returns c = retained_by_test nat_cmp_total (λ f. f.0.now ≡ c.args.bound) (λ p. ltb p.1 c.args.bound) (search rules) (λ f key value answer next s h. search rules) c.retain.ensures.ascend c.retain.ensures.kept
