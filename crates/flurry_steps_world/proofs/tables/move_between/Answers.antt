use Rattle.std.proofs.Common.{◌≡◌, ◌≢◌, ℕ, zero, suc, ◌+◌, ◌*◌, ◌%◌, ◌^◌, ◌<◌, List, [], ◌∷◌, length, set, get_or, refl, sym, ap, ◌∙◌, arith, get_or-set_other}
use Rattle.std.proofs.lemmas.Nat.{pow_pos, pow_below}
use Rattle.std.proofs.lemmas.List.{set-set}
use Rattle.std.proofs.lemmas.Option.{slice_get_read}
use Rattle.flurry_steps_world.proofs.tables.move_between.Goals as goal

-- an element that was taken out comes back changed, after a write of another
set_apart : {X : Type 0} (xs : List X) (i j : ℕ) (x y z : X) → j ≢ i → set (set (set xs i x) j y) i z ≡ set (set xs i z) j y
set_apart [] i j x y z apart = refl
set_apart (a ∷ xs) zero zero x y z apart = absurd (apart refl)
set_apart (a ∷ xs) zero (suc j) x y z apart = refl
set_apart (a ∷ xs) (suc i) zero x y z apart = ap (λ l. y ∷ l) (set-set xs i x z)
set_apart (a ∷ xs) (suc i) (suc j) x y z apart = ap (λ l. a ∷ l) (set_apart xs i j x y z (λ e. apart (ap suc e)))

pub returns-clause-step : goal.returns-clause-step
returns-clause-step g c =
    let ns = c.args.news.now.items in
    let i = c.args.index in
    let j = c.args.index + 2 ^ c.args.table in
    let low = c.replace-low.result in
    let high = c.index_mut-high.result.now in
    let some : 0 < 2 ^ c.args.table = pow_pos c.args.table in
    let small : 2 ^ c.args.table < 2 ^ 64 = pow_below c.args.table 64 (omega arith) in
    let there : i + 1 * 2 ^ c.args.table % 2 ^ 64 ≡ j = omega arith in
    let apart : j ≢ i = omega arith in
    let low_is : low ≡ get_or ns i low = c.replace-low.ensures.value ∙ c.index_mut.ensures.value ∙ ap (λ d. get_or ns i d) (sym c.replace-low.ensures.value) in
    let high_is : high ≡ get_or ns j high = c.index_mut-high.ensures.value ∙ ap (λ k. get_or (set ns i c.replace-low.new.dest) k high) there ∙ get_or-set_other ns i j c.replace-low.new.dest high apart in (
      low,
      high,
      c.on_move-event.new.low,
      c.on_move-event.new.high,
      slice_get_read ns (length ns) i low refl (omega (arith, c.requires.high)) low_is,
      slice_get_read ns (length ns) j high refl c.requires.high high_is,
      c.on_move-event.ensures.step,
      ap (λ k. set (set (set ns i c.replace-low.new.dest) k c.on_move-event.new.high) i c.on_move-event.new.low) there
          ∙ set_apart ns i j c.replace-low.new.dest c.on_move-event.new.high c.on_move-event.new.low apart,
    )
