use Rattle.std.proofs.Common.{rules, ◌<◌, ◌≤◌, ◌^◌, ℕ, ap, subst, sym, ◌∙◌, arith, ◌+◌, ◌-◌, div-le_self, pow_mono}
use Rattle.atomic_table.specs.Table.{step}
use mathlib.Core.Option.{none}
use Rattle.flurry_steps_claims.specs.AtomicSteps.{AddGives}
use Rattle.flurry_steps_claims.specs.ClaimBoard.{ranges_of}
use Rattle.flurry_steps_claims.proofs.StepLaws.{add_allowed}
use Rattle.flurry_steps_claims.proofs.claim_board.ClaimBoard.add.Goals as goal

pub fetch_add-requires : goal.fetch_add-requires
fetch_add-requires g c =
    let board = c.self.invariant in
    let inside = c.self.inside in
    let told = sym (board.rule ∙ board.cut ∙ ap ranges_of c.self.view_is) in
    let most : 2 ^ inside.table ≤ 2 ^ 30 = pow_mono board.greatest in
    let small : inside.words.shared.key < 2 ^ 64 = omega (arith, most, board.rule, board.cut, board.small, div-le_self (2 ^ inside.table + (inside.stride - 1)) inside.stride) in
    (search rules, search rules, add_allowed _ _ _ _ _ _ _ (c.requires.about.0 ∙ told) c.requires.about.1 small c.requires.own)

pub returns-clause-gives : goal.returns-clause-gives
returns-clause-gives g c = subst (λ (n : ℕ × ℕ). AddGives n.0 n.1 (step 0 1 1 0 none) c.args.seat.now.me c.fetch_add.result c.fetch_add.new.seat.me) (λ i. (c.requires.about.0 i, c.requires.about.1 i)) c.fetch_add.ensures.2
