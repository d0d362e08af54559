-- Cases of a result and of an option.
use Rattle.std.proofs.Common.{Option, None, Some, MatchOption, Result, Ok, Err, OnOk}

pub on_ok : {T E : Type 0} (r : Result T E) (P Q : Type 0) → OnOk r P → (P → Q) → OnOk r Q
on_ok (Ok x) P Q p f = f p
on_ok (Err e) P Q p f = tt

pub match_both : {T : Type 0} (o : Option T) (P Q : Type 0) (R S : T → Type 0) → (P → Q) → ((x : T) → R x → S x) → MatchOption o P R → MatchOption o Q S
match_both None P Q R S f g h = f h
match_both (Some x) P Q R S f g h = g x h
