use Rattle.std.proofs.Common.{true, false, ◌&&◌, sym, ap, ◌∙◌}
use Rattle.std.specs.List.{list_all}
use Rattle.std.specs.Cmp.Lexicographic.{unequal}
use Rattle.flurry_seq.specs.Equality.{has_pair, pair_eq}
use Rattle.flurry_seq.proofs.EqualityLemmas.{as_met, decides_keys}
use Rattle.flurry_seq.proofs.ListLaws.{list_all_permuted}
use Rattle.flurry_seq.proofs.equality.SeqMapPartialEq.eq.Goals as goal

pub returns-then-len-clause-keys : goal.returns-then-len-clause-keys
returns-then-len-clause-keys g c =
    let apart = unequal (pair_eq g.K.Ord.cmp g.V.PartialEq.eq) c.args.self.now.pairs c.args.other.now.pairs (λ same. c.if-len.true (c.len.ensures.pairs ∙ same ∙ sym c.len-2.ensures.pairs)) in
    decides_keys g.met.K.Ord.total g.V.PartialEq.eq c.args.self.now.pairs c.args.other.now.pairs false c.len.ensures.ascend c.len-2.ensures.ascend (sym apart)

pub loop-key-init : goal.loop-key-init
loop-key-init g c =
    ap (list_all (has_pair g.K.Ord.cmp g.V.PartialEq.eq c.args.other.now.pairs)) c.into_iter-key-iterator.ensures.into_iter_gives
    ∙ sym (list_all_permuted (has_pair g.K.Ord.cmp g.V.PartialEq.eq c.args.other.now.pairs) c.args.self.now.pairs c.iter-key-items.result c.iter-key-items.ensures.pairs)

pub returns-then-not-has-clause-value : goal.returns-then-not-has-clause-value
returns-then-not-has-clause-value g c =
    let missing = rw (c.if-not-has.true, c.as_ref.ensures, c.as_ref-in-loop-key.ensures) at c.has.ensures in
    let gone = ap (list_all (has_pair g.K.Ord.cmp g.V.PartialEq.eq c.args.other.now.pairs)) c.in-Some.ensures.steps ∙ ap (λ t. t && list_all (has_pair g.K.Ord.cmp g.V.PartialEq.eq c.args.other.now.pairs) c.next.new.self) (sym missing) in
    sym (as_met g.met.K.Ord.total g.V.PartialEq.eq c.args.self.now.pairs c.args.other.now.pairs c.len.ensures.ascend c.len-2.ensures.ascend (sym c.len.ensures.pairs ∙ c.if-len.false ∙ c.len-2.ensures.pairs) ∙ sym c.loop-key.invariant ∙ gone)

pub returns-then-not-has-clause-keys : goal.returns-then-not-has-clause-keys
returns-then-not-has-clause-keys g c =
    decides_keys g.met.K.Ord.total g.V.PartialEq.eq c.args.self.now.pairs c.args.other.now.pairs false c.len.ensures.ascend c.len-2.ensures.ascend (returns-then-not-has-clause-value g c)

pub returns-clause-value : goal.returns-clause-value
returns-clause-value g c =
    let all = ap (list_all (has_pair g.K.Ord.cmp g.V.PartialEq.eq c.args.other.now.pairs)) c.in-None.ensures.steps.0 in
    sym (as_met g.met.K.Ord.total g.V.PartialEq.eq c.args.self.now.pairs c.args.other.now.pairs c.len.ensures.ascend c.len-2.ensures.ascend (sym c.len.ensures.pairs ∙ c.if-len.false ∙ c.len-2.ensures.pairs) ∙ sym c.loop-key.invariant ∙ all)

pub returns-clause-keys : goal.returns-clause-keys
returns-clause-keys g c =
    decides_keys g.met.K.Ord.total g.V.PartialEq.eq c.args.self.now.pairs c.args.other.now.pairs true c.len.ensures.ascend c.len-2.ensures.ascend (returns-clause-value g c)
