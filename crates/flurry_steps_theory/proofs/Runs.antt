-- A run by hand: what the machine can do, step by step, and what it refuses. Keys and values are numbers, and a key is its own hash.
use Rattle.std.specs.Prelude.{⊤, ℕ, pos, ◌==◌, true, false, List, [], ◌∷◌, Option, Some, None, ◌≡◌}
use Rattle.std.specs.Ordering.{nat_cmp}
use Rattle.std.specs.Cmp.{unsigned_tied}
use Rattle.std.proofs.Common.{arith, refl, sym, ◌∙◌, subst, inr}
use Rattle.std.proofs.lemmas.Cmp.{nat_cmp_total}
use Rattle.std.proofs.lemmas.Bool.{eqb-true}
use Rattle.flurry_steps_theory.specs.Map.{same}
use Rattle.flurry_steps_theory.specs.Trace.{pairs}
use Rattle.flurry_steps_theory.specs.Bin.{Entry, number_of, has_number}
use Rattle.flurry_steps_theory.specs.Machine.{State, Claim, Growth, Transition, Enabled, BinDid, Frame, Begins, Loses, Counts, Finds, Opens, IsRefused, Decides, Places, Claims, Moves, Reports, Publishes, Reads, Leaves, Replies}
use Rattle.flurry_steps_theory.specs.Invariant.{new_world, after_all, CanAll}
use Rattle.flurry_steps_theory.proofs.BinSteps.{bin_did}
use Rattle.flurry_steps_theory.proofs.Origins.{same_seen}
use Rattle.flurry_steps_theory.proofs.Tables.{same_some}
use Rattle.flurry_base.specs.declared.call.Seen.{Seen}
use Rattle.flurry_base.specs.declared.call.Call.TheVariants.{Get, Insert, RemoveSeen, Reserve, Walk}
use Rattle.flurry_base.specs.declared.reply.KeptReply.TheVariants.{Value}
use Rattle.flurry_base.specs.declared.verdict.Verdict.{Verdict}

abbrev its_own : ℕ → ℕ
its_own k = k

abbrev none_given : ⊤ → ℕ → Option ℕ → Verdict ℕ → Type 0
none_given f k o v = ⊥

its_own_lawful : (j k : ℕ) → same nat_cmp j k ≡ true → its_own j ≡ its_own k
its_own_lawful j k h = eqb-true j k (sym (unsigned_tied j k) ∙ h)

abbrev Steps : Type 0
Steps = List (ℕ × Transition ℕ ℕ ⊤)

abbrev empty : State ℕ ℕ ⊤
empty = new_world 0 false

abbrev after_steps : Steps → State ℕ ℕ ⊤
after_steps steps = after_all nat_cmp its_own none_given empty steps

abbrev CanDo : Steps → Type 0
CanDo steps = CanAll nat_cmp its_own none_given empty steps

-- one step after others
infixr 5 ◌⊗◌
abbrev ◌⊗◌ : {A B : Type 0} → A → B → A × B
a ⊗ b = (a, b)

abbrev written : Entry ℕ ℕ
written = record { key = 3; value = 4; number = 1 }

-- INSERT 3 4, in a world without a table: it opens table 4, decides at bin 3, counts the pair and replies.
abbrev decided : Steps
decided = (0, Decides (Insert 3 4) 3 4 [] 0 (Value None) (written ∷ []) 1) ∷ (0, Opens 4) ∷ (0, Begins (Insert 3 4) None) ∷ []

abbrev inserted : Steps
inserted = (0, Replies (Value None)) ∷ (0, Counts (λ q. q == 0)) ∷ decided

insert_decides : CanDo decided
insert_decides = (refl, refl, refl, refl, refl, bin_did nat_cmp nat_cmp_total its_own its_own_lawful none_given (Insert 3 4) (Value None) [] 0 tt refl (λ z h. absurd (grind (arith, h))), (refl, tt)) ⊗ (Insert 3 4, refl, refl, refl, refl) ⊗ (refl, λ w h. absurd (grind (arith, h))) ⊗ tt

insert_replies : CanDo inserted
insert_replies = (Insert 3 4, refl, refl, refl, refl) ⊗ refl ⊗ insert_decides

-- it does not reply before what it owes is counted
no_early_reply : Enabled nat_cmp its_own none_given (after_steps decided) 0 (Replies (Value None)) → ⊥
no_early_reply h = grind (arith, h.3)

-- COUNTED BY ANOTHER: party 1 inserts 5 6 while party 0 has decided and not counted. It counts what party 0 owes, which then replies.
abbrev counted_for : Steps
counted_for = (0, Replies (Value None)) ∷ (1, Counts (λ q. q == 0)) ∷ (1, Decides (Insert 5 6) 5 4 [] 0 (Value None) (record { key = 5; value = 6; number = 1 } ∷ []) 1) ∷ (1, Finds 4) ∷ (1, Begins (Insert 5 6) None) ∷ decided

other_replies : CanDo counted_for
other_replies = (Insert 3 4, refl, refl, refl, refl) ⊗ refl ⊗ (refl, refl, refl, refl, refl, bin_did nat_cmp nat_cmp_total its_own its_own_lawful none_given (Insert 5 6) (Value None) [] 0 tt refl (λ z h. absurd (grind (arith, h))), (refl, tt)) ⊗ (Insert 5 6, refl, refl, (omega arith, 4, refl, omega arith)) ⊗ (refl, λ w h. absurd (grind (arith, h))) ⊗ insert_decides

-- it still owes its own pair, and does not reply
still_owes : Enabled nat_cmp its_own none_given (after_steps counted_for) 1 (Replies (Value None)) → ⊥
still_owes h = grind (arith, h.3)

-- Once its own is counted too, it replies, and the count is the number of pairs.
abbrev counted_both : Steps
counted_both = (1, Replies (Value None)) ∷ (1, Counts (λ _. true)) ∷ counted_for

both_reply : CanDo counted_both
both_reply = (Insert 5 6, refl, refl, refl, refl) ⊗ refl ⊗ other_replies

both_counted : ((after_steps counted_both).count ≡ pos 2) × (pairs nat_cmp its_own (after_steps counted_both).trace ≡ (5, 6) ∷ (3, 4) ∷ [])
both_counted = (refl, refl)

-- WALK: it finds table 4, leaves the bins 0 to 2, and reads the pair in bin 3.
abbrev frame : ℕ → Frame ℕ
frame i = record { table = 4; index = i; bound = None }

abbrev walked : Steps
walked = (1, Reads 4 3 (frame 3) [] (written ∷ []) 1 written) ∷ (1, Leaves 4 2 (frame 2) [] [] 0) ∷ (1, Leaves 4 1 (frame 1) [] [] 0) ∷ (1, Leaves 4 0 (frame 0) [] [] 0) ∷ (1, Finds 4) ∷ (1, Begins Walk None) ∷ inserted

walk_reads : CanDo walked
walk_reads = (refl, refl, refl) ⊗ (refl, refl, refl) ⊗ (refl, refl, refl) ⊗ (refl, refl, refl) ⊗ (Walk, refl, refl, (omega arith, 4, refl, omega arith)) ⊗ (refl, λ w h. absurd (grind (arith, h))) ⊗ insert_replies

-- A LOOK-UP of 3 may be refused at its bin, and one of 19, whose bin has not its class, may not. Neither places a table.
abbrev looking : ℕ → Steps
looking k = (2, Finds 4) ∷ (2, Begins (Get k) None) ∷ walked

lookup_refused : Enabled nat_cmp its_own none_given (after_steps (looking 3)) 2 IsRefused
lookup_refused = (Get 3, refl, refl, (3, written ∷ [], 1, refl, refl, refl))

absent_not_refused : Enabled nat_cmp its_own none_given (after_steps (looking 19)) 2 IsRefused → ⊥
absent_not_refused h = grind (arith, h)

no_table_placed : Enabled nat_cmp its_own none_given (after_steps (looking 3)) 2 (Places 4) → ⊥
no_table_placed h = grind (arith, h.3)

one_step_done : (after_steps (looking 3)).steps 2 ≡ 1
one_step_done = refl

-- an attempt that was lost is no step
lost_is_no_step : (after_steps ((2, Loses) ∷ looking 3)).steps 2 ≡ 1
lost_is_no_step = refl

-- A REMOVAL of what the walk read: it begins from party 1, and removes the pair, since nothing has touched it.
abbrev read : Seen ℕ ℕ
read = record { key = 3; value = 4; number = 1 }

abbrev removed : Steps
removed = (2, Replies (Value (Some 4))) ∷ (2, Counts (λ q. q == 2)) ∷ (2, Decides (RemoveSeen read) 3 4 (written ∷ []) 1 (Value (Some 4)) [] 1) ∷ (2, Finds 4) ∷ (2, Begins (RemoveSeen read) (Some 1)) ∷ walked

removal_replies : CanDo removed
removal_replies = (RemoveSeen read, refl, refl, refl, refl) ⊗ refl ⊗ (refl, refl, refl, refl, refl, removal, tt) ⊗ (RemoveSeen read, refl, refl, (omega arith, 4, refl, omega arith)) ⊗ (refl, λ w h. (read, from_walk w h, refl)) ⊗ walk_reads
  where
    removal : BinDid nat_cmp its_own none_given (RemoveSeen read) (Value (Some 4)) (written ∷ []) 1 [] 1
    removal = bin_did nat_cmp nat_cmp_total its_own its_own_lawful none_given (RemoveSeen read) (Value (Some 4)) (written ∷ []) 1 (tt, tt) (inr refl) (λ z h. subst (λ z. true ≡ has_number (number_of nat_cmp (written ∷ []) z.key) z.number) (same_seen nat_cmp its_own none_given h) refl)

    from_walk : (w : ℕ) → Some 1 ≡ Some w → (after_steps walked).seen w ≡ Some read
    from_walk w h = subst (λ w. (after_steps walked).seen w ≡ Some read) (same_some h) refl

-- A GROWTH of table 0, which has one bin, by two parties: party 0 begins it, claims the bin, moves it and reports it.
abbrev claim : (left : ℕ) → Claim
claim left = record { table = 0; low = 0; left = left; high = 1 }

abbrev growth : (unclaimed reported : ℕ) → Growth
growth unclaimed reported = record { unclaimed = unclaimed; reported = reported }

abbrev moved : Steps
moved = (0, Moves (claim 1) 0 [] 0) ∷ (0, Claims 0 (growth 1 0) 0) ∷ (0, Places 0) ∷ (1, Begins (Reserve 1) None) ∷ (0, Opens 0) ∷ (0, Begins (Reserve 1) None) ∷ []

abbrev reported : Steps
reported = (0, Reports (claim 0) (growth 0 0)) ∷ moved

growth_reported : CanDo reported
growth_reported = (refl, refl, refl, refl) ⊗ (refl, omega arith, refl, refl, refl) ⊗ (refl, omega arith, refl, refl, omega arith, refl) ⊗ (refl, refl, omega arith, refl) ⊗ (refl, λ w h. absurd (grind (arith, h))) ⊗ (Reserve 1, refl, refl, refl, omega arith) ⊗ (refl, λ w h. absurd (grind (arith, h))) ⊗ tt

-- nobody publishes it before the report; after it party 0 does, and party 1 does not
unreported_stays : Enabled nat_cmp its_own none_given (after_steps moved) 0 (Publishes 0 (growth 0 0)) → ⊥
unreported_stays h = grind (arith, h.0)

reporter_publishes : CanDo ((0, Publishes 0 (growth 0 1)) ∷ reported)
reporter_publishes = (refl, refl, refl, refl) ⊗ growth_reported

other_does_not : Enabled nat_cmp its_own none_given (after_steps reported) 1 (Publishes 0 (growth 0 1)) → ⊥
other_does_not h = grind (arith, h.0)
