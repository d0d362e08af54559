-- Small traces by hand: what the laws allow and what they refuse. Keys and values are numbers, and a key is its own hash.
use Rattle.std.specs.Prelude.{⊤, ℕ, ◌+◌, ◌-◌, true, ◌^◌, false, [], ◌∷◌, Option, Some, None, ◌==◌, if◌then◌else◌, ◌≡◌, refl}
use Rattle.std.specs.Ordering.{nat_cmp}
use Rattle.std.proofs.Common.{arith, inl}
use Rattle.flurry_steps_theory.specs.Trace.{Trace, pairs}
use Rattle.flurry_steps_theory.specs.Bin.{has_number}
use Rattle.flurry_steps_theory.specs.Legal.{EachMay, CallMay, WalkMay, ClearMay, RemovalMay, GrowthMay}
use Rattle.flurry_base.specs.declared.call.Call.TheVariants.{Get, ContainsKey, Insert, Compute, Alter, Remove, RemoveSeen, Clear, Walk}
use Rattle.flurry_base.specs.declared.reply.KeptReply.TheVariants.{Value, Contains, New, Changed}
use Rattle.flurry_base.specs.declared.verdict.Verdict.{Verdict}
use Rattle.flurry_base.specs.declared.verdict.Verdict.TheVariants.{Keep, Set}
use Rattle.flurry_steps_theory.specs.declared.Label.TheVariants.{Begin, Decide, Reply as Replied, Refused, Read, End, Opened, Placed, Published, Silent}

abbrev Numbers : Type 0
Numbers = Trace ℕ ℕ ⊤

abbrev its_own : ℕ → ℕ
its_own k = k

abbrev none_given : ⊤ → ℕ → Option ℕ → Verdict ℕ → Type 0
none_given f k o v = ⊥

abbrev Calls : Numbers → Type 0
Calls = EachMay (CallMay nat_cmp its_own none_given)

abbrev Walks : Numbers → Type 0
Walks = EachMay (WalkMay nat_cmp its_own none_given)

abbrev Clears : Numbers → Type 0
Clears = EachMay (ClearMay nat_cmp its_own none_given)

-- insert 3 4, and then get 3, in a world without a table; the newest label first
abbrev first_run : Numbers
first_run = Replied 1 (Value (Some 4)) ∷ Decide 1 (Value (Some 4)) ∷ Silent 1 ∷ Begin 1 (Get 3) ∷ Silent 0 ∷ Replied 0 (Value None) ∷ Silent 0 ∷ Decide 0 (Value None) ∷ Opened 4 ∷ Begin 0 (Insert 3 4) ∷ []

-- one label after another
infixr 5 ◌⊗◌
abbrev ◌⊗◌ : {A B : Type 0} → A → B → A × B
a ⊗ b = (a, b)

legal_calls : Calls first_run
legal_calls = ((Get 3, refl, refl), refl, refl) ⊗ ((Get 3, refl, refl), refl, refl) ⊗ tt ⊗ refl ⊗ tt ⊗ ((Insert 3 4, refl, refl), refl, refl) ⊗ tt ⊗ ((Insert 3 4, refl, refl), refl, refl) ⊗ tt ⊗ refl ⊗ tt

legal_growth : EachMay (GrowthMay None) first_run
legal_growth = tt ⊗ tt ⊗ tt ⊗ tt ⊗ tt ⊗ tt ⊗ tt ⊗ tt ⊗ refl ⊗ tt ⊗ tt

the_map : pairs nat_cmp its_own first_run ≡ (3, 4) ∷ []
the_map = refl

-- a reply that is not the map's is refused
wrong_reply : Calls (Decide 1 (Value (Some 5)) ∷ Silent 1 ∷ Begin 1 (Get 3) ∷ Silent 0 ∷ Replied 0 (Value None) ∷ Silent 0 ∷ Decide 0 (Value None) ∷ Opened 4 ∷ Begin 0 (Insert 3 4) ∷ []) → ⊥
wrong_reply h = grind (arith, h)

-- ALTER, by a function that counts how often it is called on a key: it adds 1 at an absent key, and writes 2 at the next call.
abbrev counts_up : ⊤ → ℕ → Option ℕ → Verdict ℕ → Type 0
counts_up f k None v = v ≡ Set 1
counts_up f k (Some n) v = v ≡ Set (n + 1)

abbrev Counted : Numbers → Type 0
Counted = EachMay (CallMay nat_cmp its_own counts_up)

abbrev counted_once : Numbers
counted_once = Decide 0 (New 1) ∷ Begin 0 (Alter 3 true tt) ∷ []

abbrev counted_twice : Numbers
counted_twice = Decide 1 (Changed 2 1) ∷ Begin 1 (Alter 3 true tt) ∷ counted_once

legal_counts : Counted counted_twice
legal_counts = ((Alter 3 true tt, refl, (Set 2, refl, refl)), refl, refl) ⊗ refl ⊗ ((Alter 3 true tt, refl, (Set 1, refl, refl)), refl, refl) ⊗ refl ⊗ tt

counted_pairs : pairs nat_cmp its_own counted_twice ≡ (3, 2) ∷ []
counted_pairs = refl

-- where none may be added, it is not called on an absent key, and nothing is added
not_called : Counted (Decide 0 (Contains false) ∷ Begin 0 (Alter 3 false tt) ∷ [])
not_called = ((Alter 3 false tt, refl, (Keep, refl, refl)), refl, refl) ⊗ refl ⊗ tt

not_added : Counted (Decide 0 (New 1) ∷ Begin 0 (Alter 3 false tt) ∷ []) → ⊥
not_added h = grind (arith, h.0)

-- A walk beside two inserts, as it reads both pairs and ends; then the same walk, which lacks one, and one that reads a class twice.
abbrev two_pairs : Numbers
two_pairs = Decide 1 (Value None) ∷ Begin 1 (Insert 17 17) ∷ Decide 0 (Value None) ∷ Begin 0 (Insert 1 1) ∷ []

abbrev walked : Numbers
walked = Read 2 17 17 ∷ Silent 2 ∷ Read 2 1 1 ∷ Silent 2 ∷ Begin 2 Walk ∷ two_pairs

good_reads : Walks walked
good_reads = (refl, λ h. grind (arith, h)) ⊗ tt ⊗ (refl, λ h. h) ⊗ tt ⊗ tt ⊗ tt ⊗ tt ⊗ tt ⊗ tt ⊗ tt

read_twice : Walks (Read 2 1 1 ∷ walked) → ⊥
read_twice h = h.0.1 (grind (arith))

missed : Walks (End 2 ∷ Silent 2 ∷ Read 2 1 1 ∷ Silent 2 ∷ Begin 2 Walk ∷ two_pairs) → ⊥
missed h = grind (arith, h.0 (Walk, refl, refl) 17 (grind arith))

-- table 5 is published though a bin of table 4 was not moved
too_early : EachMay {K = ℕ} {V = ℕ} {F = ⊤} (GrowthMay (Some 0)) (Published 1 ∷ Placed 1 ∷ []) → ⊥
too_early h = grind (arith, h.0)

-- A walk reads the pair of 1, whose value is then rewritten, and after it the pair of 17; party 4 begins from that walk.
abbrev read_both : Numbers
read_both = Read 2 17 17 ∷ Decide 3 (Value (Some 1)) ∷ Begin 3 (Insert 1 5) ∷ Read 2 1 1 ∷ Silent 2 ∷ Begin 2 Walk ∷ two_pairs

abbrev from_walk : ℕ → Option ℕ
from_walk p = if p == 4 then Some 2 else None

abbrev Removals : Numbers → Type 0
Removals = EachMay (RemovalMay nat_cmp its_own none_given from_walk)

-- what the walk read last is removed
last_removed : Removals (Decide 4 (Value (Some 17)) ∷ Begin 4 (RemoveSeen (record { key = 17; value = 17; number = 1 })) ∷ read_both)
last_removed = ((17, 17), refl, (λ _. refl), λ _ _. refl) ⊗ ((17, 17), refl, refl) ⊗ tt ⊗ tt ⊗ tt ⊗ tt ⊗ tt ⊗ tt ⊗ tt ⊗ tt ⊗ tt ⊗ tt ⊗ tt

-- what it read before, and has been rewritten since, is not
rewritten_removed : Removals (Decide 4 (Value (Some 5)) ∷ Begin 4 (RemoveSeen (record { key = 1; value = 1; number = 1 })) ∷ read_both) → ⊥
rewritten_removed h = grind (arith, h.1.0)

-- nor is a value that it did not read
unread_removed : Removals (Begin 4 (RemoveSeen (record { key = 17; value = 18; number = 1 })) ∷ read_both) → ⊥
unread_removed h = grind (arith, h.0)

-- nor another class
other_class_removed : Removals (Begin 4 (RemoveSeen (record { key = 1; value = 17; number = 1 })) ∷ read_both) → ⊥
other_class_removed h = grind (arith, h.0)

-- what was touched since the read is not removed, in however long a run
touched_removed : Removals (Decide 4 (Value (Some 5)) ∷ Decide 5 (Value (Some 17)) ∷ Begin 5 (Insert 17 5) ∷ Begin 4 (RemoveSeen (record { key = 17; value = 17; number = 1 })) ∷ read_both) → ⊥
touched_removed h = grind (arith, h.0.1, h.0.2 refl)

-- nor what a function has written
altered_removed : Removals (Decide 4 (Value (Some 5)) ∷ Decide 5 (Changed 5 17) ∷ Begin 5 (Alter 17 true tt) ∷ Begin 4 (RemoveSeen (record { key = 17; value = 17; number = 1 })) ∷ read_both) → ⊥
altered_removed h = grind (arith, h.0.1, h.0.2 refl)

-- but what a function has kept is
kept_removed : Removals (Decide 4 (Value (Some 17)) ∷ Decide 5 (Contains true) ∷ Begin 5 (Alter 17 true tt) ∷ Begin 4 (RemoveSeen (record { key = 17; value = 17; number = 1 })) ∷ read_both)
kept_removed = ((17, 17), refl, (λ _. refl), λ _ _. refl) ⊗ tt ⊗ tt ⊗ ((17, 17), refl, refl) ⊗ tt ⊗ tt ⊗ tt ⊗ tt ⊗ tt ⊗ tt ⊗ tt ⊗ tt ⊗ tt ⊗ tt ⊗ tt

-- and what nothing touched is not left
untouched_left : Removals (Decide 4 (Value None) ∷ Begin 4 (RemoveSeen (record { key = 17; value = 17; number = 1 })) ∷ read_both) → ⊥
untouched_left h = grind (arith, h.0.3 (omega arith) refl)

-- a class that bears the greatest number is not taken for the one seen, since the numbers stay there
at_greatest : has_number (Some (2 ^ 64 - 1)) (2 ^ 64 - 1) ≡ false
at_greatest = refl

-- REFUSALS. A look-up may be refused where the class is there, an insertion anywhere, and a function's call where it may add a pair.
get_refused : CallMay nat_cmp its_own none_given (Begin 2 (Get 1) ∷ two_pairs) (Refused 2)
get_refused = ((Get 1, refl, refl), refl, refl)

alter_refused : Calls (Refused 0 ∷ Begin 0 (Alter 1 true tt) ∷ [])
alter_refused = ((Alter 1 true tt, refl, refl), refl, refl) ⊗ refl ⊗ tt

insert_refused : Calls (Refused 0 ∷ Begin 0 (Insert 1 1) ∷ [])
insert_refused = ((Insert 1 1, refl, tt), refl, refl) ⊗ refl ⊗ tt

-- an absent class, a test for a key, a removal, a clear and a function that has nothing to write are never refused
absent_refused : Calls (Refused 0 ∷ Begin 0 (Get 3) ∷ []) → ⊥
absent_refused h = grind (arith, h.0)

contains_refused : CallMay nat_cmp its_own none_given (Begin 2 (ContainsKey 1) ∷ two_pairs) (Refused 2) → ⊥
contains_refused h = grind (arith, h.0)

remove_refused : CallMay nat_cmp its_own none_given (Begin 2 (Remove 1) ∷ two_pairs) (Refused 2) → ⊥
remove_refused h = grind (arith, h.0)

clear_refused : CallMay nat_cmp its_own none_given (Begin 2 Clear ∷ two_pairs) (Refused 2) → ⊥
clear_refused h = grind (arith, h.0)

compute_refused : CallMay nat_cmp its_own none_given (Begin 2 (Compute 1 tt) ∷ two_pairs) (Refused 2) → ⊥
compute_refused h = grind (arith, h.0)

nothing_altered_refused : CallMay nat_cmp its_own none_given (Begin 2 (Alter 1 true tt) ∷ two_pairs) (Refused 2) → ⊥
nothing_altered_refused h = grind (arith, h.0)

none_added_refused : Calls (Refused 0 ∷ Begin 0 (Alter 1 false tt) ∷ []) → ⊥
none_added_refused h = grind (arith, h.0)

-- CLEARS. On an empty map the label of a clear's first step will do, but not its End.
cleared_empty : Clears (End 0 ∷ Silent 0 ∷ Begin 0 Clear ∷ [])
cleared_empty = (λ _ k. (refl, inl (refl, refl))) ⊗ tt ⊗ tt ⊗ tt

ended_at_once : Clears (End 0 ∷ Begin 0 Clear ∷ []) → ⊥
ended_at_once h = grind (arith, h.0 (Clear, refl, refl) 1)
