use Rattle.std.proofs.Common.{sym, ap, ◌∙◌, option_map}
use Rattle.flurry_bins.specs.PlainEntries.{numbered_pair}
use Rattle.flurry_bins_slots.proofs.live.LiveBin.compute.Goals as goal

pub returns-in-Ok-clause-done : goal.returns-in-Ok-clause-done
returns-in-Ok-clause-done g c =
    let there = sym c.find.ensures ∙ ap (option_map (λ e. numbered_pair e.now)) c.in-Some.is in
    let both = c.in-Ok.ensures in
    (numbered_pair c.in-Some.entry.now, there, rw both.ok.1 (rw c.in-Set.is at c.judge-verdict.ensures.verdict), rw (both.ok.1, ← both.ok.0) c.rewrite-old.ensures.after)

pub returns-in-Err-clause-in_vain : goal.returns-in-Err-clause-in_vain
returns-in-Err-clause-in_vain g c =
    let there = sym c.find.ensures ∙ ap (option_map (λ e. numbered_pair e.now)) c.in-Some.is in
    (numbered_pair c.in-Some.entry.now, there, rw c.in-Err.ensures.err (rw c.in-Set.is at c.judge-verdict.ensures.verdict))

pub returns-in-Some-take-clause-done : goal.returns-in-Some-take-clause-done
returns-in-Some-take-clause-done g c =
    let there = sym c.find.ensures ∙ ap (option_map (λ e. numbered_pair e.now)) c.in-Some.is in
    (numbered_pair c.in-Some.entry.now, there, rw c.in-Remove.is at c.judge-verdict.ensures.verdict, c.take.ensures.after)
