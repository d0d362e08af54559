use Rattle.std.proofs.Common.{◌≡◌, refl, sym, arith, rules}
use Rattle.std.specs.Int.{bit_at}
use Rattle.std.proofs.lemmas.Nat.Bits.{bit_at-lt, shr_and_one}
use Rattle.flurry_bins.specs.Tree.{node_shape, inorder}
use Rattle.flurry_bins.proofs.OneHash.{with_bit-all, with_bit-none}
use Rattle.flurry_bins.proofs.bin.adaptive.nodes.NodeTree.split.Goals as goal

pub returns-then-hash-bit-eq0-clause-low : goal.returns-then-hash-bit-eq0-clause-low
returns-then-hash-bit-eq0-clause-low g c =
    let all = rw c.as_ref.ensures at c.in-Some.ensures in
    let zero : bit_at c.in-Some.hash c.args.bit ≡ 0 = omega (arith, shr_and_one c.in-Some.hash c.args.bit) in
    sym (with_bit-all c.in-Some.hash c.args.bit 0 (inorder (node_shape c.args.self.root.value)) all zero)

pub returns-then-hash-bit-eq0-clause-high : goal.returns-then-hash-bit-eq0-clause-high
returns-then-hash-bit-eq0-clause-high g c =
    let all = rw c.as_ref.ensures at c.in-Some.ensures in
    let zero : bit_at c.in-Some.hash c.args.bit ≡ 0 = omega (arith, shr_and_one c.in-Some.hash c.args.bit) in
    sym (with_bit-none c.in-Some.hash c.args.bit 1 (inorder (node_shape c.args.self.root.value)) all 0 zero refl)

pub returns-else-hash-bit-eq0-clause-low : goal.returns-else-hash-bit-eq0-clause-low
returns-else-hash-bit-eq0-clause-low g c =
    let all = rw c.as_ref.ensures at c.in-Some.ensures in
    let one : bit_at c.in-Some.hash c.args.bit ≡ 1 = omega (arith, shr_and_one c.in-Some.hash c.args.bit, bit_at-lt c.in-Some.hash c.args.bit) in
    sym (with_bit-none c.in-Some.hash c.args.bit 0 (inorder (node_shape c.args.self.root.value)) all 1 one refl)

pub returns-else-hash-bit-eq0-clause-high : goal.returns-else-hash-bit-eq0-clause-high
returns-else-hash-bit-eq0-clause-high g c =
    let all = rw c.as_ref.ensures at c.in-Some.ensures in
    let one : bit_at c.in-Some.hash c.args.bit ≡ 1 = omega (arith, shr_and_one c.in-Some.hash c.args.bit, bit_at-lt c.in-Some.hash c.args.bit) in
    sym (with_bit-all c.in-Some.hash c.args.bit 1 (inorder (node_shape c.args.self.root.value)) all one)

pub returns-in_default-clause-high_kind : goal.returns-in_default-clause-high_kind
returns-in_default-clause-high_kind g c = search rules
