use Rattle.std.proofs.Common.{take}
use Rattle.flurry_run_draw.specs.ReaderState.{Shows}
use Rattle.flurry_run_draw.proofs.page.escaped.Given as goal

abbrev pub invariant-loop-byte : goal.invariant-loop-byte
invariant-loop-byte l = Shows l.bytes.items (take l.byte-index l.text)
