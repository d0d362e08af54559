use Rattle.std.proofs.Common.{ℕ, ◌≡◌, ◌<◌, ◌+◌, ◌++◌, ◌∙◌, ◌∷◌, [], List, add-one, add_assoc, ap, arith, length, map, refl, sum_by, subst, sym, take, take-suc-set, drop-set-lt, length-set}
use Rattle.std.proofs.lemmas.List.Sums.{sum_by-cons}
use Rattle.std.specs.Arc.{arc_value}
use Rattle.std.specs.Global.{Vec}
use Rattle.std.specs.List.{concat}
use Rattle.flurry_c_base.specs.ByteStrings.{bytes_of}
use Rattle.flurry_c_base.proofs.BufferLaws.{drop_further, front_longer}
use Rattle.flurry_c_base.proofs.byte_set.walk.write_elements.Goals as goal

pub loop-element-preserved : goal.loop-element-preserved
loop-element-preserved c =
    let it : Vec ℕ = arc_value c.in-Some.element.now in
    let next : c.loop-element.element-iterator ≡ it ∷ c.next.new.self = c.in-Some.ensures.steps in
    let bytes : c.as_slice.result.now ≡ bytes_of it = c.as_slice.ensures.value ∙ ap bytes_of c.deref-in-loop-element.ensures in
    let size : c.len.result ≡ length (bytes_of it) = c.len.ensures ∙ ap (λ (v : Vec ℕ). v.len) c.deref.ensures ∙ it.ok.0 in
    let count : c.loop-element.at + length (it ∷ c.next.new.self) ≡ length c.args.elements = subst (λ (its : List (Vec ℕ)). c.loop-element.at + length its ≡ length c.args.elements) next c.loop-element.invariant.count in
    let sum : c.loop-element.end + sum_by length (map bytes_of (it ∷ c.next.new.self)) ≡ sum_by length (map bytes_of c.args.elements) = subst (λ (its : List (Vec ℕ)). c.loop-element.end + sum_by length (map bytes_of its) ≡ sum_by length (map bytes_of c.args.elements)) next c.loop-element.invariant.text_count in
    let end : c.copy_at-end.result ≡ c.loop-element.end + length (bytes_of it) = c.copy_at-end.ensures.end ∙ ap (λ (bs : List ℕ). c.loop-element.end + length bs) bytes in
    let room : c.loop-element.at < length c.loop-element.lengths = omega (arith, count, c.requires.count, c.loop-element.invariant.room) in
    record {
      lengths = front_longer _ _ (length (bytes_of it) ∷ []) _ _ (rw (size, add-one c.loop-element.at) (take-suc-set c.loop-element.lengths c.loop-element.at _ room))
          (subst (λ (its : List (Vec ℕ)). take c.loop-element.at c.loop-element.lengths ++ map length (map bytes_of its) ≡ map length (map bytes_of c.args.elements)) next c.loop-element.invariant.lengths);
      behind = drop-set-lt (c.loop-element.at + 1) c.loop-element.lengths c.loop-element.at _ (omega arith) ∙ drop_further c.loop-element.at 1 _ _ c.loop-element.invariant.behind;
      count = omega (arith, count);
      room = length-set c.loop-element.lengths c.loop-element.at _ ∙ c.loop-element.invariant.room;
      text = front_longer _ _ (bytes_of it) _ _ (rw (c.copy_at-end.ensures.front, bytes) refl)
          (subst (λ (its : List (Vec ℕ)). take c.loop-element.end c.loop-element.text ++ concat (map bytes_of its) ≡ concat (map bytes_of c.args.elements)) next c.loop-element.invariant.text);
      text_behind = c.copy_at-end.ensures.behind ∙ rw c.copy_at-end.ensures.end (drop_further c.loop-element.end (length c.as_slice.result.now) _ _ c.loop-element.invariant.text_behind);
      text_count = ap (λ (n : ℕ). n + sum_by length (map bytes_of c.next.new.self)) end ∙ add_assoc c.loop-element.end _ _ ∙ ap (λ (n : ℕ). c.loop-element.end + n) (sym (sum_by-cons length (bytes_of it) (map bytes_of c.next.new.self))) ∙ sum;
      text_room = c.copy_at-end.ensures.len ∙ c.loop-element.invariant.text_room;
    }
