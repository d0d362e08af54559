use mir.Syntax.{w64}
use mir.Val.{to_z, of_z}
use Rattle.std.proofs.Common.{rules, ◌≡◌, ◌∙◌, sym, ap}
use Rattle.flurry_steps.specs.PartyKindView.{kind_state}
use Rattle.flurry_steps.proofs.party.Party.on_tally.Goals as goal

pub returns-in-Single : goal.returns-in-Single
returns-in-Single g c =
    let same : c.args.self.now ≡ c.in-Single.single = sym c.self.view_is ∙ ap kind_state c.in-Single.is in
    let most : to_z w64 (of_z w64 c.args.most) ≡ c.args.most = search rules in
    rw same (rw most at c.on_tally.ensures)
