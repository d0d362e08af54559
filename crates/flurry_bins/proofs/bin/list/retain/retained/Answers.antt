use Rattle.std.proofs.Common.{◌≡◌, ◌∷◌, ap, ◌∙◌, length, of_calls, arith}
use Rattle.flurry_bins.specs.Chain.{chain, node_chain, entry_of}
use Rattle.flurry_bins.specs.EntryCall.{CalledAtEntry}
use Rattle.flurry_base.proofs.KeepsLaws.{KeepsOn-true, KeepsOn-false}
use Rattle.flurry_bins.proofs.EntryCallLaws.{CalledAtEntry-from}
use Rattle.flurry_bins.proofs.bin.list.retain.retained.Goals as goal

pub loop-rest-preserved-then-keep : goal.loop-rest-preserved-then-keep
loop-rest-preserved-then-keep g c =
    let i = c.loop-rest.invariant in
    let is : chain c.loop-rest.rest ≡ entry_of c.in-Some.node.value ∷ chain c.detach_tail-node.result.1 = ap chain c.in-Some.is ∙ c.detach_tail-node.ensures.behind in
    let put : node_chain c.prepend.result.value ≡ entry_of c.in-Some.node.value ∷ chain c.loop-rest.kept = c.prepend.ensures ∙ ap (λ e. e ∷ chain c.loop-rest.kept) c.detach_tail-node.ensures.entry in
    let shown : c.entry-entry.result.now ≡ entry_of c.in-Some.node.value = c.entry-entry.ensures ∙ ap entry_of c.deref.ensures ∙ c.detach_tail-node.ensures.entry in
    let called = CalledAtEntry-from (goal.F-step g) _ _ _ _ _ _ _ _ shown c.as_ref.ensures c.as_ref-in-Some.ensures c.if-keep.true c.keep.ensures in
    record {
      callable = search of_calls;
      kept = KeepsOn-true (CalledAtEntry (goal.F-step g)) is put i.kept called;
      len = omega (arith, ap length put, i.len);
      short = omega (arith, ap length is, i.short);
    }

pub loop-rest-preserved : goal.loop-rest-preserved
loop-rest-preserved g c =
    let i = c.loop-rest.invariant in
    let is : chain c.loop-rest.rest ≡ entry_of c.in-Some.node.value ∷ chain c.detach_tail-node.result.1 = ap chain c.in-Some.is ∙ c.detach_tail-node.ensures.behind in
    let shown : c.entry-entry.result.now ≡ entry_of c.in-Some.node.value = c.entry-entry.ensures ∙ ap entry_of c.deref.ensures ∙ c.detach_tail-node.ensures.entry in
    let called = CalledAtEntry-from (goal.F-step g) _ _ _ _ _ _ _ _ shown c.as_ref.ensures c.as_ref-in-Some.ensures c.if-keep.false c.keep.ensures in
    record {
      callable = search of_calls;
      kept = KeepsOn-false (CalledAtEntry (goal.F-step g)) is i.kept called;
      len = i.len;
      short = omega (arith, ap length is, i.short);
    }
