use Rattle.std.proofs.Common.{rules, ◌<◌, ℕ, ap, subst, sym, ◌∙◌}
use Rattle.flurry_steps_claims.specs.ClaimBoard.{ranges_of}
use Rattle.flurry_steps_claims.proofs.StepLaws.{exchange_allowed}
use Rattle.flurry_steps_claims.proofs.claim_board.ClaimBoard.exchange.Goals as goal

pub compare_exchange-requires : goal.compare_exchange-requires
compare_exchange-requires g c =
    let board = c.self.invariant in
    let told = sym (board.rule ∙ board.cut ∙ ap ranges_of c.self.view_is) in
    (search rules, search rules, exchange_allowed _ _ _ _ _ _ (c.requires.about ∙ told) (subst (λ (n : ℕ). c.args.next < n) told c.requires.next.0) c.requires.next.1)
