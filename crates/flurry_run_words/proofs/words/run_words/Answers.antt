use Rattle.std.proofs.Common.{◌≡◌, ℕ, ◌<◌, ◌≤◌, List, [], ◌∷◌, length, get_or, ap, arith, rules}
use Rattle.std.specs.Borrow.{Bor}
use Rattle.flurry_run_words.specs.Arguments.{texts}
use Rattle.flurry_run_words.proofs.words.run_words.Goals as goal

one_word : (words : List (Bor (List ℕ))) (word : List ℕ) (none : Bor (List ℕ)) → (get_or words 0 none).now ≡ word → 1 ≤ length words → length words < 2 → texts words ≡ word ∷ []
one_word [] word none is some one = absurd (omega arith)
one_word (w ∷ []) word none is some one = ap (λ t. t ∷ []) is
one_word (w ∷ v ∷ words) word none is some one = absurd (omega arith)

pub returns-in-seq-clause-other : goal.returns-in-seq-clause-other
returns-in-seq-clause-other g c = search (rules, one_word)

pub returns-in-world-clause-world : goal.returns-in-world-clause-world
returns-in-world-clause-world g c = search rules

pub returns-in-Some-clause-threads : goal.returns-in-Some-clause-threads
returns-in-Some-clause-threads g c = search rules
