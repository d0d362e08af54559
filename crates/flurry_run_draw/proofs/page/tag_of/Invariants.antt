use Rattle.flurry_run_draw.specs.ReaderState.{BeginsTag}
use Rattle.flurry_run_draw.proofs.page.tag_of.Given as goal

abbrev pub invariant-loop-byte : goal.invariant-loop-byte
invariant-loop-byte l = BeginsTag l.tag.items
