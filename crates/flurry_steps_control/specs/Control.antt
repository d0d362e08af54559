-- What a control shows, and what each of its steps answers and leaves.
use Rattle.std.specs.Prelude.{◌≡◌, ℕ, ℤ, pos, negsuc, ◌+◌, ◌+ℤ◌, ◌^◌, ◌<◌, ◌≤◌, ◌==◌, ◌&&◌, nat_lt, nat_le, Bool, true, false, if◌then◌else◌, Option, Some, None, Result, Ok, MatchOption, MatchResult}
use Rattle.std.specs.Int.{saturate_signed, w64}
use Rattle.std.specs.declared.alloc.AllocError.{AllocError}
use Rattle.flurry_base.specs.Sizes.{threshold_of}
use Rattle.flurry_steps_control.specs.declared.control.Advice.{Advice}
use Rattle.flurry_steps_control.specs.declared.control.Advice.TheVariants.{Enough, Join, Begin}
use Rattle.flurry_steps_control.specs.declared.control.BeginOutcome.{BeginOutcome}
use Rattle.flurry_steps_control.specs.declared.control.BeginOutcome.TheVariants.{Begun, Refused, Busy}
use Rattle.flurry_base.specs.declared.sizes.TheConstants.{MAX_TABLE}

-- what a control shows: the exponent of the published table, or none before the first; the table that is being moved into the next one,
-- or none where no growth runs; the count of pairs
pub record ControlState : Type 0 where
  pub published : Option ℕ
  pub growth : Option ℕ
  pub count : ℤ

-- ---- what each control keeps

-- no table, or one of at most 2^30 bins
abbrev pub IsUpToGreatest : Option ℕ → Type 0
IsUpToGreatest None = Unit {0}
IsUpToGreatest (Some e) = e ≤ MAX_TABLE

-- the table that grows is the published one, and not the greatest
abbrev pub GrowthIsIn : Option ℕ → Option ℕ → Type 0
GrowthIsIn p None = Unit {0}
GrowthIsIn p (Some e) = (p ≡ Some e) × (e < MAX_TABLE)

pub record IsControl (b : ControlState) : Type 0 where
  pub published : IsUpToGreatest b.published
  pub growth : GrowthIsIn b.published b.growth

-- ---- the first table

-- the control, with table e published
abbrev pub after_open : ℕ → ControlState → ControlState
after_open e b = record { published = Some e; growth = b.growth; count = b.count }

-- ---- the begin of a growth

-- table e is published and not the greatest, and no growth runs
abbrev pub can_begin : ℕ → Option ℕ → Option ℕ → Bool
can_begin e p (Some g) = false
can_begin e None None = false
can_begin e (Some q) None = q == e && nat_lt e MAX_TABLE

-- the control, with a growth of table e
abbrev pub after_begin : ℕ → ControlState → ControlState
after_begin e b = record { published = b.published; growth = Some e; count = b.count }

-- over a room whose `place` is the relation
module _ {R : Type 0} (place : R → ℕ → Option ℕ → Bool → R → Type 0) where
  -- `open` with table e: the published exponent is answered, and control and room stay. Where none is published, table e is placed with
  -- live bins; if that succeeds, e is published and answered, and if it is refused, the control stays
  abbrev pub OpenGives : ℕ → ControlState → R → Result ℕ AllocError → ControlState → R → Type 0
  OpenGives e b s r b' s' =
      MatchOption b.published
      (MatchResult r (λ q. (q ≡ e) × (b' ≡ after_open e b) × place s e None true s') (λ _. (b' ≡ b) × place s e None false s'))
      (λ q. (r ≡ Ok q) × (b' ≡ b) × (s' ≡ s))

  -- `begin` from table e, whose work p processors share: where a growth can't begin there, `Busy`, and control and room stay. Else the
  -- table after it is placed for the growth; if that succeeds, the growth has begun, and if it is refused, the control stays
  abbrev pub BeginGives : ℕ → ℕ → ControlState → R → BeginOutcome → ControlState → R → Type 0
  BeginGives p e b s Begun b' s' = (can_begin e b.published b.growth ≡ true) × (b' ≡ after_begin e b) × place s (e + 1) (Some p) true s'
  BeginGives p e b s Refused b' s' = (can_begin e b.published b.growth ≡ true) × (b' ≡ b) × place s (e + 1) (Some p) false s'
  BeginGives p e b s Busy b' s' = (can_begin e b.published b.growth ≡ false) × (b' ≡ b) × (s' ≡ s)

-- ---- the end of a growth

-- table e grows
abbrev pub is_growing : ℕ → Option ℕ → Bool
is_growing e None = false
is_growing e (Some g) = g == e

-- the control, with the table after e published and no growth, if table e grows
abbrev pub after_publish : ℕ → ControlState → ControlState
after_publish e b =
    if is_growing e b.growth then record { published = Some (e + 1); growth = None; count = b.count } else b

-- ---- the count

-- the count as a number of pairs: 0 where it is negative
abbrev pub count_of : ℤ → ℕ
count_of (pos n) = n
count_of (negsuc n) = 0

-- the count, with so many pairs more; a sum past 64 bits stays at the greatest or the least number
abbrev pub count_after : ℤ → ℤ → ℤ
count_after d n = saturate_signed w64 (n +ℤ d)

-- the control, with so many pairs more
abbrev pub after_count : ℤ → ControlState → ControlState
after_count d b = record { published = b.published; growth = b.growth; count = count_after d b.count }

-- a growth is to be joined. A table that no growth moves is to be doubled once it has its threshold of pairs
abbrev pub advice_by : Option ℕ → Option ℕ → ℤ → Advice
advice_by p (Some e) c = Join e
advice_by None None c = Enough
advice_by (Some e) None c = if nat_lt e MAX_TABLE && nat_le (threshold_of (2 ^ e)) (count_of c) then Begin else Enough

-- what `count` answers, by the control that it leaves
abbrev pub advice_of : ControlState → Advice
advice_of b = advice_by b.published b.growth b.count

-- a growth that is to be joined has a next table
abbrev pub IsAdvice : Advice → Type 0
IsAdvice (Join e) = e < MAX_TABLE
IsAdvice _ = Unit {0}

-- ---- growing to a size

-- the published table, if no growth runs and it is to be doubled on the way to 2^w bins
abbrev pub grows_by : ℕ → Option ℕ → Option ℕ → Option ℕ
grows_by w p (Some g) = None
grows_by w None None = None
grows_by w (Some e) None = if nat_lt e MAX_TABLE && nat_lt (threshold_of (2 ^ e)) (2 ^ w) then Some e else None

abbrev pub grows_from : ℕ → ControlState → Option ℕ
grows_from w b = grows_by w b.published b.growth
