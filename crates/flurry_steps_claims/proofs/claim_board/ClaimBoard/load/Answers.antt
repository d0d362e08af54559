use Rattle.std.proofs.Common.{rules, ℕ, ap, subst, sym, ◌∙◌}
use Rattle.atomic_table.specs.Table.{step}
use mathlib.Core.Option.{none}
use Rattle.flurry_steps_claims.specs.AtomicSteps.{LoadGives}
use Rattle.flurry_steps_claims.specs.ClaimBoard.{ranges_of}
use Rattle.flurry_steps_claims.proofs.StepLaws.{load_allowed}
use Rattle.flurry_steps_claims.proofs.claim_board.ClaimBoard.load.Goals as goal

pub load-requires : goal.load-requires
load-requires g c =
    let board = c.self.invariant in
    let told = board.rule ∙ board.cut ∙ ap ranges_of c.self.view_is in
    (search rules, search rules, load_allowed _ _ _ _ _ (c.requires.about ∙ sym told))

pub returns-clause-gives : goal.returns-clause-gives
returns-clause-gives g c = subst (λ (n : ℕ). LoadGives n (step 0 0 0 0 none) c.args.seat.now.me c.load.result c.load.new.seat.me) c.requires.about c.load.ensures.2
