use Rattle.std.proofs.Common.{◌≡◌, ◌^◌, ◌<◌, ◌∙◌, [], ◌∷◌, ◌++◌, ap, sym, add-one, arith}
use Rattle.std.proofs.lemmas.Nat.{pow_below}
use Rattle.flurry_steps_world.specs.Tables.{new_slots}
use Rattle.flurry_steps_world.proofs.tables.new_slots.Goals as goal

pub loop-index-preserved : goal.loop-index-preserved
loop-index-preserved g c = record {
  made =
      c.push_reserved.ensures.items ∙ ap (λ l. l ++ c.new_slot.result ∷ []) c.loop-index.invariant.made
      ∙ ap (λ p. new_slots c.args.table c.args.live c.loop-index.index ++ p ∷ []) c.new_slot.ensures ∙ ap (λ n. new_slots c.args.table c.args.live n) (sym (add-one c.loop-index.index));
  count = omega (arith, c.push_reserved.ensures.len, c.loop-index.invariant.count);
  room = omega (arith, c.push_reserved.ensures.capacity, c.loop-index.invariant.room);
}

pub returns : goal.returns
returns g c =
    let small : 2 ^ c.args.table < 2 ^ 64 = pow_below c.args.table 64 (omega arith) in
    let all : c.loop-index.index ≡ 2 ^ c.args.table = omega arith in
    c.loop-index.invariant.made ∙ ap (λ n. new_slots c.args.table c.args.live n) all
