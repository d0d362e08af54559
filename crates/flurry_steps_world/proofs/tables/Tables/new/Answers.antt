use Rattle.std.proofs.Common.{rules, ◌≡◌, ℕ, ◌+◌, ◌∙◌, [], length, get_or, replicate, None, ap, inl, inr, arith}
use Rattle.std.proofs.lemmas.Grind.{common_steps}
use Rattle.std.proofs.lemmas.Bool.{cases_lt}
use Rattle.std.proofs.lemmas.List.{length-replicate, get_or-replicate, get_or_past}
use Rattle.flurry_steps_world.specs.Tables.{Tables, AreTables}
use Rattle.flurry_steps_world.proofs.TableLaws.{AreTables-none}
use Rattle.flurry_steps_world.proofs.tables.Tables.new.Goals as goal
use Rattle.flurry_base.specs.declared.sizes.TheConstants.{TABLES}

all_alike : {X : Type 0} (x : X) (n e : ℕ) → get_or (replicate n x) e x ≡ x
all_alike x n e = elim (cases_lt e n) [ inl lt ↦ get_or-replicate n e x x lt | inr past ↦ get_or_past (replicate n x) e x (omega (arith, length-replicate n x)) ]

module _ {K V : Type 0} (t : Tables K V) (n : ℕ) (empty : t.slots ≡ replicate n []) (bare : t.boards ≡ replicate n None) where
  are : n ≡ TABLES → AreTables t
  are all = AreTables-none t (ap length empty ∙ length-replicate n [] ∙ all) (λ e. ap (λ u. get_or u e []) empty ∙ all_alike [] n e)
      (ap length bare ∙ length-replicate n None ∙ all) (λ e. ap (λ u. get_or u (e + 1) None) bare ∙ all_alike None n (e + 1))

pub invariant_of-result : goal.invariant_of-result
invariant_of-result g c = are _ c.loop.counter c.loop.invariant.empty c.loop.invariant.bare (omega arith)

pub returns : goal.returns
returns g c =
    let all : c.loop.counter ≡ TABLES = omega arith in
    λ i. record { slots = (c.loop.invariant.empty ∙ ap (λ n. replicate n []) all) i; boards = (c.loop.invariant.bare ∙ ap (λ n. replicate n None) all) i }

pub returns-in_err-tables : goal.returns-in_err-tables
returns-in_err-tables g c = search rules

pub loop-init : goal.loop-init
loop-init g c = search rules

pub push_reserved-requires : goal.push_reserved-requires
push_reserved-requires g c = search rules

pub loop-smaller : goal.loop-smaller
loop-smaller g c = search rules

pub loop-preserved : goal.loop-preserved
loop-preserved g c = grind (arith, common_steps)
