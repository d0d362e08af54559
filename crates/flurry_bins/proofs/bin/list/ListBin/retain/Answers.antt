use Rattle.std.proofs.Common.{length, ap, ◌∙◌, arith}
use Rattle.flurry_bins.specs.Chain.{chain}
use Rattle.flurry_bins.specs.Entries.{entry_cmp}
use Rattle.flurry_bins.specs.EntryCall.{CalledAtEntry}
use Rattle.flurry_base.proofs.KeepsLaws.{Keeps-length, Keeps-sorted}
use Rattle.flurry_bins.proofs.bin.list.ListBin.retain.Goals as goal

pub from_chain-requires-clause-ascending : goal.from_chain-requires-clause-ascending
from_chain-requires-clause-ascending g c =
    let up = rw (← c.into_chain-head.ensures.head) at c.into_chain-head.ensures.ascending in
    Keeps-sorted (CalledAtEntry (goal.F-step g)) (entry_cmp g.K.Ord.cmp) c.args.keep.now (chain c.into_chain-head.result.0) (chain c.retained-head.result.0) c.retained-head.new.keep c.retained-head.ensures.kept up

pub from_chain-requires-clause-short : goal.from_chain-requires-clause-short
from_chain-requires-clause-short g c =
    let no_more = Keeps-length (CalledAtEntry (goal.F-step g)) c.args.keep.now (chain c.into_chain-head.result.0) (chain c.retained-head.result.0) c.retained-head.new.keep c.retained-head.ensures.kept in
    let was = c.into_chain-head.ensures in
    omega (arith, no_more, c.retained-head.ensures.len, was.len, was.short, ap length was.head)

pub returns-clause-kept : goal.returns-clause-kept
returns-clause-kept g c =
    let old = c.into_chain-head.ensures.head ∙ ap (λ b. chain b.head) c.replace.ensures.value in
    rw (c.from_chain.ensures, ← old) c.retained-head.ensures.kept
