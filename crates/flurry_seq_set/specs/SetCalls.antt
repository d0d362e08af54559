-- Calls of an owned set as values: what each may reply and leave.
use Rattle.std.specs.Prelude.{◌≡◌, ◌++◌, Bool, List, [], length, ◌==◌, Option, Some, None, option_map, IsSome, is_some, is_none, map, IsTrue, ◌↔◌}
use Rattle.std.specs.declared.cmp.Ordering.{Ordering}
use Rattle.std.specs.Arc.{arc_value}
use Rattle.std.specs.Borrow.{Bor}
use Rattle.std.specs.List.Sorted.{IsPermutation}
use Rattle.flurry_base.specs.FiniteSet.{element_at, with_element, with_elements, without_element, IsSubset, AreDisjoint}
use Rattle.flurry_base.specs.Sizes.{IsGrown}
use Rattle.flurry_seq.specs.Contents.{first_bins}
use Rattle.flurry_seq_set.specs.SetRetain.{RetainsElements}
use Rattle.flurry_seq_set.specs.SetContents.{SetContents, SameElements, set_with, asked_for, sets_eq}
use Rattle.flurry_seq_set.specs.declared.set_calls.SetCall.{SetCall}
use Rattle.flurry_seq_set.specs.declared.set_calls.SetCall.TheVariants.{Contains, Get, Insert, Remove, Take, Retain, Len, IsEmpty, Elements, IsDisjoint, IsSuperset, Equals, TryClone, Clear, Reserve, Extend}
use Rattle.flurry_seq_set.specs.declared.set_calls.SetCall.TheVariants as call
use Rattle.flurry_seq_set.specs.declared.set_calls.SetReply.{SetReply}
use Rattle.flurry_seq_set.specs.declared.set_calls.SetReply.TheVariants.{Element, Truth, Number, Done}
use Rattle.flurry_seq_set.specs.declared.set_calls.SetReply.TheVariants as reply

module _ {T S A : Type 0} where
  -- a reply of an element, with the plain element
  abbrev pub plain_element : SetReply T S A → Option (Option T)
  plain_element (Element x) = Some (option_map arc_value x)
  plain_element r = None

  -- a reply of all elements, with the plain elements
  abbrev pub listed_elements : SetReply T S A → Option (List T)
  listed_elements (reply.Elements list) = Some (map arc_value list.items)
  listed_elements r = None

  module _ {P : Type 0} (cmp : T → T → Ordering) (tests : P → Bor T → Bool → P → Type 0) where
    -- on the set s the call may reply r and leave the set n
    abbrev pub SetCallAnswers : SetCall T S P A → SetContents T S → SetReply T S A → SetContents T S → Type 0
    SetCallAnswers (Contains x) s r n = (r ≡ Truth (is_some (element_at cmp s.elements x))) × (n ≡ s)
    SetCallAnswers (Get x) s r n = (plain_element r ≡ Some (element_at cmp s.elements x)) × (n ≡ s)
    SetCallAnswers (Insert x) s r n =
        (r ≡ Truth (is_none (element_at cmp s.elements x))) × (n.elements ≡ with_element cmp s.elements x) × (n.hasher ≡ s.hasher)
        × (IsSome (element_at cmp s.elements x) → n.bins ≡ s.bins)
    SetCallAnswers (Remove x) s r n = (r ≡ Truth (is_some (element_at cmp s.elements x))) × (n ≡ set_with s (without_element cmp s.elements x))
    SetCallAnswers (Take x) s r n = (plain_element r ≡ Some (element_at cmp s.elements x)) × (n ≡ set_with s (without_element cmp s.elements x))
    SetCallAnswers (Retain p) s r n = (r ≡ Done) × RetainsElements tests cmp p s n
    SetCallAnswers Len s r n = (r ≡ Number (length s.elements)) × (n ≡ s)
    SetCallAnswers IsEmpty s r n = (r ≡ Truth (length s.elements == 0)) × (n ≡ s)
    SetCallAnswers Elements s r n = (xs : List T) × (listed_elements r ≡ Some xs) × IsPermutation s.elements xs × (n ≡ s)
    SetCallAnswers (IsDisjoint other) s r n = (yes : Bool) × (r ≡ Truth yes) × (IsTrue yes ↔ AreDisjoint cmp s.elements other.elements) × (n ≡ s)
    SetCallAnswers (call.IsSubset other) s r n = (yes : Bool) × (r ≡ Truth yes) × (IsTrue yes ↔ IsSubset cmp s.elements other.elements) × (n ≡ s)
    SetCallAnswers (IsSuperset other) s r n = (yes : Bool) × (r ≡ Truth yes) × (IsTrue yes ↔ IsSubset cmp other.elements s.elements) × (n ≡ s)
    SetCallAnswers (Equals other) s r n = (r ≡ Truth (sets_eq cmp s other)) × (n ≡ s)
    SetCallAnswers TryClone s r n = (copy : SetContents T S) × (r ≡ reply.Set copy) × SameElements s copy × (n ≡ s)
    SetCallAnswers Clear s r n = (r ≡ Done) × (n ≡ set_with s [])
    SetCallAnswers (Reserve a) s r n = (r ≡ Done) × SameElements s n × IsGrown (first_bins s.bins (asked_for s a)) (asked_for s a) n.bins
    SetCallAnswers (Extend list) s r n = (r ≡ Done) × (n.elements ≡ with_elements cmp s.elements list.items) × (n.hasher ≡ s.hasher)

  module _ {P : Type 0} (cmp : T → T → Ordering) where
    -- what a call that was refused leaves: the set, but that an `extend` has put a front of its list
    abbrev pub SetCallRefused : SetCall T S P A → SetContents T S → SetContents T S → Type 0
    SetCallRefused (Extend list) s n = (front rest : List T) × (list.items ≡ front ++ rest) × (n.elements ≡ with_elements cmp s.elements front) × (n.hasher ≡ s.hasher)
    SetCallRefused call s n = n ≡ s
