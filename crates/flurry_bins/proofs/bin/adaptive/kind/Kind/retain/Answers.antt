use Rattle.std.proofs.Common.{rules}
use Rattle.flurry_bins.specs.Kind.{not_tree}
use Rattle.flurry_bins.proofs.bin.adaptive.kind.Kind.retain.Goals as goal

pub returns-in-AsTree-clause-kept : goal.returns-in-AsTree-clause-kept
returns-in-AsTree-clause-kept g c = rw (c.in-AsTree.is, c.from_list.ensures.entries, ← c.into_tree.ensures, ← c.into_list-list.ensures) c.retain.ensures.kept

pub returns-in-AsTree-clause-kind : goal.returns-in-AsTree-clause-kind
returns-in-AsTree-clause-kind g c = search rules

pub returns-in_default-clause-kept : goal.returns-in_default-clause-kept
returns-in_default-clause-kept g c = rw (c.of_list.ensures.entries, ← c.into_list-list-in_default.ensures) c.retain-in_default.ensures.kept

pub returns-in_default-clause-kind : goal.returns-in_default-clause-kind
returns-in_default-clause-kind g c = rw (not_tree c.args.self c.in_default.not-AsTree) c.of_list.ensures.kind
