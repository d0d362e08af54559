use Rattle.std.proofs.Common.{None, refl, sym}
use Rattle.flurry_base.proofs.FiniteMapLaws.{without_none}
use Rattle.flurry_seq.proofs.seq_map.SeqMap.compute_new.Goals as goal

pub returns-in-None-clause-reply : goal.returns-in-None-clause-reply
returns-in-None-clause-reply g c =
    let same = without_none g.K.Ord.cmp c.args.key c.args.self.now.pairs c.requires.absent in
    (None, c.in-None.ensures, (refl, sym same))
