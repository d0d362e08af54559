use Rattle.std.proofs.Common.{◌≡◌, ◌∙◌, sym, ap}
use Rattle.flurry_steps.specs.PartyKindView.{kind_state}
use Rattle.flurry_steps.proofs.party.Party.on_look.Goals as goal

pub returns-in-Single-clause-nearer : goal.returns-in-Single-clause-nearer
returns-in-Single-clause-nearer g c =
    let same : c.args.self.now ≡ c.in-Single.single = sym c.self.view_is ∙ ap kind_state c.in-Single.is in
    rw same c.on_look.ensures.nearer
