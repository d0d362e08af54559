use Rattle.std.proofs.Common.{ℕ, ◌≡◌, ◌<◌, ◌+◌, ◌++◌, ◌∙◌, ◌∷◌, [], List, add-one, add_assoc, ap, ap₂, arith, flat_map, length, map, refl, sum_by, subst, sym, take, take-suc-set, drop-set-lt, length-set}
use Rattle.std.proofs.lemmas.List.Sums.{sum_by-cons}
use Rattle.std.specs.Global.{Vec}
use Rattle.std.specs.Arc.{arc_value}
use Rattle.flurry_c_base.specs.ByteMaps.{bytes_of_pair}
use Rattle.flurry_c_base.specs.ByteWalks.{size_of, lengths_of, text_of}
use Rattle.flurry_c_base.proofs.BufferLaws.{drop_further, front_longer}
use Rattle.flurry_c_base.proofs.byte_map.walk.write_pairs.Goals as goal

pub loop-key-preserved : goal.loop-key-preserved
loop-key-preserved c =
    let it : Vec ℕ × Vec ℕ = (arc_value c.in-Some.key.now, arc_value c.in-Some.value.now) in
    let next : c.loop-key.key-iterator ≡ it ∷ c.next.new.self = c.in-Some.ensures.steps in
    let key : c.as_slice.result.now ≡ it.0.items = c.as_slice.ensures.value ∙ ap (λ (v : Vec ℕ). v.items) c.deref-in-loop-key-2.ensures in
    let value : c.as_slice-in-loop-key.result.now ≡ it.1.items = c.as_slice-in-loop-key.ensures.value ∙ ap (λ (v : Vec ℕ). v.items) c.deref-in-loop-key-3.ensures in
    let key_length : c.len.result ≡ length it.0.items = c.len.ensures ∙ ap (λ (v : Vec ℕ). v.len) c.deref.ensures ∙ it.0.ok.0 in
    let value_length : c.len-in-loop-key.result ≡ length it.1.items = c.len-in-loop-key.ensures ∙ ap (λ (v : Vec ℕ). v.len) c.deref-in-loop-key.ensures ∙ it.1.ok.0 in
    let count : c.loop-key.at + length (it ∷ c.next.new.self) ≡ length c.args.pairs = subst (λ (its : List (Vec ℕ × Vec ℕ)). c.loop-key.at + length its ≡ length c.args.pairs) next c.loop-key.invariant.count in
    let sum : c.loop-key.end + sum_by size_of (map bytes_of_pair (it ∷ c.next.new.self)) ≡ sum_by size_of (map bytes_of_pair c.args.pairs) = subst (λ (its : List (Vec ℕ × Vec ℕ)). c.loop-key.end + sum_by size_of (map bytes_of_pair its) ≡ sum_by size_of (map bytes_of_pair c.args.pairs)) next c.loop-key.invariant.text_count in
    let end : c.copy_pair-end.result ≡ c.loop-key.end + (length it.0.items + length it.1.items) =
    c.copy_pair-end.ensures.end ∙ ap₂ (λ (k v : ℕ). c.loop-key.end + (k + v)) (ap length key) (ap length value) in
    let room : c.loop-key.at < length c.loop-key.lengths = omega (arith, count, c.requires.count, c.loop-key.invariant.room) in
    record {
      lengths = front_longer _ _ (lengths_of (bytes_of_pair it) ∷ []) _ _ (rw (key_length, value_length, add-one c.loop-key.at) (take-suc-set c.loop-key.lengths c.loop-key.at _ room))
          (subst (λ (its : List (Vec ℕ × Vec ℕ)). take c.loop-key.at c.loop-key.lengths ++ map lengths_of (map bytes_of_pair its) ≡ map lengths_of (map bytes_of_pair c.args.pairs)) next c.loop-key.invariant.lengths);
      behind = drop-set-lt (c.loop-key.at + 1) c.loop-key.lengths c.loop-key.at _ (omega arith) ∙ drop_further c.loop-key.at 1 _ _ c.loop-key.invariant.behind;
      count = omega (arith, count);
      room = length-set c.loop-key.lengths c.loop-key.at _ ∙ c.loop-key.invariant.room;
      text = front_longer _ _ (text_of (bytes_of_pair it)) _ _ (rw (c.copy_pair-end.ensures.front, key, value) refl)
          (subst (λ (its : List (Vec ℕ × Vec ℕ)). take c.loop-key.end c.loop-key.text ++ flat_map text_of (map bytes_of_pair its) ≡ flat_map text_of (map bytes_of_pair c.args.pairs)) next c.loop-key.invariant.text);
      text_behind = c.copy_pair-end.ensures.behind ∙ rw c.copy_pair-end.ensures.end (drop_further c.loop-key.end (length c.as_slice.result.now + length c.as_slice-in-loop-key.result.now) _ _ c.loop-key.invariant.text_behind);
      text_count = ap (λ (n : ℕ). n + sum_by size_of (map bytes_of_pair c.next.new.self)) end ∙ add_assoc c.loop-key.end _ _ ∙ ap (λ (n : ℕ). c.loop-key.end + n) (sym (sum_by-cons size_of (bytes_of_pair it) (map bytes_of_pair c.next.new.self))) ∙ sum;
      text_room = c.copy_pair-end.ensures.len ∙ c.loop-key.invariant.text_room;
    }
