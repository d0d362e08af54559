use Rattle.std.proofs.Common.{subst, sym}
use Rattle.flurry_seq.specs.Shapes.{IsFit}
use Rattle.flurry_seq.proofs.MapsOfBinsLemmas.{shape_fit}
use Rattle.flurry_seq.proofs.table.Table.shape_of.Goals as goal

pub returns-clause-fit : goal.returns-clause-fit
returns-clause-fit g c = subst IsFit (sym c.shape.ensures) (shape_fit c.index-bin.result.now)
