-- Laws of a buffer that is written from its beginning on.
use Rattle.std.proofs.Common.{◌≡◌, ◌+◌, ◌++◌, ◌∙◌, ℕ, List, ap, append_assoc, drop, sym}
use Rattle.std.proofs.lemmas.List.{drop-drop}

-- two lists that agree behind an index agree behind each later one
pub drop_further : {X : Type 0} (n k : ℕ) (xs ys : List X) → drop n xs ≡ drop n ys → drop (n + k) xs ≡ drop (n + k) ys
drop_further n k xs ys same = sym (drop-drop k n xs) ∙ ap (drop k) same ∙ drop-drop k n ys

-- one more piece was written behind the front
pub front_longer : {X : Type 0} (front front' piece rest all : List X) → front' ≡ front ++ piece → front ++ (piece ++ rest) ≡ all → front' ++ rest ≡ all
front_longer front front' piece rest all longer is = rw (longer, append_assoc front piece rest) is
