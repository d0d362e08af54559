use Rattle.std.proofs.Common.{◌≡◌, ap, arith, true, false, refl}
use Rattle.flurry_base.specs.Occurrences.{occurrences}
use Rattle.shared_board.proofs.share.two_shares.Goals as goal

pub returns-clause-ranges : goal.returns-clause-ranges
returns-clause-ranges g c k =
    let one = rw c.in_ok-one.was at c.join-first.ensures.first in
    let two = rw c.in_ok-two.was at c.join-first.ensures.second in
    omega (arith, c.merge.ensures.apart.0 k, ap (occurrences k) one.1.0, ap (occurrences k) two.1.0)

pub returns-clause-last : goal.returns-clause-last
returns-clause-last g c is =
    let one = rw c.in_ok-one.was at c.join-first.ensures.first in
    let two = rw c.in_ok-two.was at c.join-first.ensures.second in
    elim c.in_ok-two.second.was_last as (λ b. c.in_ok-two.second.was_last ≡ b → b ≡ false) [
      | true ↦ λ also. absurd (omega (arith, c.merge.ensures.apart.1, one.1.1 is, two.1.1 also))
      | false ↦ λ _. refl
    ] refl
