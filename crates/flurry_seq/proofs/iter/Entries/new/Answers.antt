use Rattle.std.proofs.Common.{length, sym, ap, ◌∙◌}
use Rattle.flurry_seq.proofs.RemainingLemmas.{all_left}
use Rattle.flurry_seq.proofs.iter.Entries.new.Goals as goal

pub invariant_of-result : goal.invariant_of-result
invariant_of-result g c = c.requires ∙ ap length (sym (all_left c.args.bins.now))

pub returns : goal.returns
returns g c = all_left c.args.bins.now
