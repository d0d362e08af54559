use Rattle.std.proofs.Common.{◌≡◌, ◌∷◌, [], Some, sym, ap, ◌∙◌}
use Rattle.flurry_bins.specs.Chain.{chain, node_chain, entry_of}
use Rattle.flurry_bins.specs.declared.bin.node.Node.{out-Node}
use Rattle.flurry_bins.proofs.Chains.{node_chain-out, node_chain-node_with_entry}
use Rattle.flurry_bins.proofs.Insertions.{insertion-at, insertion-before, insertion-past}
use Rattle.flurry_bins.proofs.bin.list.insert_first.Goals as goal
use Rattle.flurry_bins.proofs.bin.list.insert_first.Goals.{in-Some+else-is_at, in_default}

pub returns-then-is_at-clause-ok : goal.returns-then-is_at-clause-ok
returns-then-is_at-clause-ok g c =
    let n = c.in-Some.first.value in
    let rest = chain (out-Node _ _ _ n).right in
    let back : chain c.args.rest.now ≡ entry_of n ∷ rest = ap chain c.in-Some.is ∙ node_chain-out n in
    let behind = ap node_chain (rw c.deref_mut.ensures.value at c.write-old.ensures.after) ∙ node_chain-node_with_entry n _ in
    let i = insertion-at g.met.K.Ord.total c.args.hash c.args.key c.args.value c.args.number (entry_of n) rest (rw back at c.requires.ascending) (sym (rw c.deref.ensures at c.if-is_at.ensures)) in
    rw back (i.0 ∙ ap Some (sym (rw c.deref_mut.ensures.value at c.write-old.ensures.old)), behind ∙ i.1)

pub returns-clause-ok : goal.returns-clause-ok
returns-clause-ok g c =
    let o = g.met.K.Ord.total in
    let x = entry_of c.in_ok-node.node.value in
    let put = c.prepend.ensures ∙ ap (λ l. x ∷ chain l) c.take.ensures.value in
    elim c.match-rest.branch [
      | in-Some+else-is_at w ↦
          let n = w.in-Some.first.value in
          let rest = chain (out-Node _ _ _ n).right in
          let back : chain c.args.rest.now ≡ entry_of n ∷ rest = ap chain w.in-Some.is ∙ node_chain-out n in
          let at = sym (rw w.deref.ensures at w.if-is_at.ensures) in
          rw (put, ap chain w.rest-is, back, node_chain-out n) (insertion-before o c.args.hash c.args.key c.args.value c.args.number (entry_of n) rest x (rw back at c.requires.ascending) (rw back at c.requires.stops) at c.in_ok-node.ensures.ok)
      | in_default w ↦
          let empty = ap chain w.in_default.is in
          rw (put, ap chain w.rest-is, empty) (insertion-past o c.args.hash c.args.key c.args.value c.args.number [] x (rw empty at c.requires.ascending) tt c.in_ok-node.ensures.ok)
    ]
