use Rattle.std.proofs.Common.{◌≡◌, ◌∙◌, ap, map}
use Rattle.std.proofs.lemmas.Result.{on_ok_weaker}
use Rattle.std.specs.Cmp.Lexicographic.{nat_list_cmp_total}
use Rattle.flurry_c_base.specs.ByteStrings.{bytes_of}
use Rattle.flurry_c_base.proofs.ByteOrder.{ascend_bytes}
use Rattle.flurry_c_base.proofs.ByteSetLaws.{lacks_element_bytes, with_element_bytes}
use Rattle.flurry_c_base.proofs.SetInsertionLaws.{adds_or_keeps}
use Rattle.flurry_c_base.proofs.byte_set.ByteSet.insert.Goals as goal

pub returns-clause-new : goal.returns-clause-new
returns-clause-new c =
    let element : c.in_ok-element.element.items ≡ c.args.element.now = c.in_ok-element.ensures.items_if_clones_equal (λ x y e. e) in
    rw (← element, lacks_element_bytes _ _) c.insert.ensures.new

pub returns-clause-elements : goal.returns-clause-elements
returns-clause-elements c =
    let element : c.in_ok-element.element.items ≡ c.args.element.now = c.in_ok-element.ensures.items_if_clones_equal (λ x y e. e) in
    let old = c.args.self.now.set.elements in let new = c.insert.new.self.elements in let x = c.in_ok-element.element in
    rw (← element) (on_ok_weaker c.insert.result
    (λ is. adds_or_keeps nat_list_cmp_total (map bytes_of old) x.items (map bytes_of new) (ascend_bytes old c.insert.ensures.ascend) (ap (map bytes_of) is ∙ with_element_bytes old x))
    c.insert.ensures.elements)
