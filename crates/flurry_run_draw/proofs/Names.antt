-- Names that are added to what a page shows.
use Rattle.std.proofs.Common.{◌∙◌, sym, ap, refl, ℕ, List, [], ◌∷◌, ◌++◌}
use Rattle.std.proofs.lemmas.List.{append-nil, append_assoc}
use Rattle.flurry_run_draw.specs.ReaderState.{IsOneLine, AddsNames}

one_line-append : (a b : List ℕ) → IsOneLine a → IsOneLine b → IsOneLine (a ++ b)
one_line-append [] b h k = k
one_line-append (x ∷ a) b h k = (h.0, one_line-append a b h.1 k)

pub adds_none : (shown : List ℕ) → AddsNames shown shown
adds_none shown = ([], tt, sym (append-nil shown))

pub adds_name : (shown name : List ℕ) → IsOneLine name → AddsNames shown (shown ++ name)
adds_name shown name h = (name, h, refl)

pub adds_more : (a b c : List ℕ) → AddsNames a b → AddsNames b c → AddsNames a c
adds_more a b c (x, h, e) (y, k, f) = (x ++ y, one_line-append x y h k, f ∙ ap (λ (z : List ℕ). z ++ y) e ∙ append_assoc a x y)

pub ruleset names = (adds_none, adds_name, adds_more)
