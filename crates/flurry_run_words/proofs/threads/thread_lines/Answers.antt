use Rattle.flurry_run_words.proofs.threads.thread_lines.Goals as goal

pub fill-requires-frees-A-Allocator : goal.fill-requires-frees-A-Allocator
fill-requires-frees-A-Allocator g c κs within = record { frees = λ lent. c.type_bounds.frees-A-Allocator.frees lent.now }
