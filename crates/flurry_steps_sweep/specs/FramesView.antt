-- What contracts see of the frames below the one that is gone over now: the next of them first.
use Rattle.std.specs.Prelude.{List, Option, map, ⊤}
use Rattle.flurry_steps_sweep.specs.Cursor as abstract
use Rattle.flurry_steps_sweep.specs.FrameView.{frame_of}
use Rattle.flurry_steps_sweep.specs.Stack.{place_items, twice_items, TwiceFillsUp}
use Rattle.flurry_steps_sweep.specs.declared.frames.Frame.{Frame}
use Rattle.flurry_steps_sweep.specs.declared.stack.Twice.{Twice}

-- 32 places
abbrev pub Places : Type 0 → Type 0
Places T = Twice (Twice (Twice (Twice (Twice (Option T)))))

abbrev pub items_of : {T : Type 0} → Places T → List T
items_of = twice_items (twice_items (twice_items (twice_items (twice_items place_items))))

-- each half of the places is full before its other half is begun
abbrev pub FillUp : {T : Type 0} → Places T → Type 0
FillUp =
    TwiceFillsUp (twice_items (twice_items (twice_items (twice_items place_items)))) 16
    (TwiceFillsUp (twice_items (twice_items (twice_items place_items))) 8
    (TwiceFillsUp (twice_items (twice_items place_items)) 4
    (TwiceFillsUp (twice_items place_items) 2
    (TwiceFillsUp place_items 1 (λ _. ⊤)))))

abbrev pub frames_of : {K A : Type 0} → Places (Frame K A) → List (abstract.Frame K)
frames_of p = map frame_of (items_of p)
