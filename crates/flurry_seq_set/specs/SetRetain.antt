-- What is kept of an owned set after a function was called once on each element.
use Rattle.std.specs.Prelude.{◌≡◌, Bool, List}
use Rattle.std.specs.declared.cmp.Ordering.{Ordering}
use Rattle.std.specs.Borrow.{Bor}
use Rattle.std.specs.List.Sorted.{IsPermutation}
use Rattle.flurry_base.specs.FiniteSet.{set_of_elements}
use Rattle.flurry_base.specs.Keeps.{Keeps}
use Rattle.flurry_seq_set.specs.SetContents.{SetContents, set_with}

module _ {F T : Type 0} (step : F → Bor T → Bool → F → Type 0) where
  -- a call at a reference to an element
  pub record CalledAtElement (f : F) (x : T) (answer : Bool) (next : F) : Type 0 where
    pub element : Bor T
    pub shows : element.now ≡ x
    pub called : step f element answer next

  -- a function was called once on each element of a set, in an order that is open, and the elements at which it answered true are
  -- left. The bins and the hasher stay
  abbrev pub RetainsElements : {S : Type 0} → (T → T → Ordering) → F → SetContents T S → SetContents T S → Type 0
  RetainsElements cmp first old new =
      (order kept : List T) × (last : F) × IsPermutation old.elements order × Keeps CalledAtElement first order kept last × (new ≡ set_with old (set_of_elements cmp kept))
