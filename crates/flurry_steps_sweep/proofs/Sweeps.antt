-- The steps at a bin of a call that goes over all bins, by what its slot answered.
use Rattle.std.specs.Prelude.{◌≡◌, Bool, true, false, Option, Some, None, MatchOption}
use Rattle.std.specs.declared.cmp.Ordering.{Ordering}
use Rattle.std.proofs.Common.{refl, sym, ◌∙◌, ap, subst}
use Rattle.flurry_base.specs.declared.call.Seen.{Seen}
use Rattle.flurry_bins_slots.specs.Slot.{PlainEntry, Content, IsLive, HasMoved, IsUnborn, next_of_live}
use Rattle.flurry_bins_slots.specs.SlotView.{answer_with}
use Rattle.flurry_bins_slots.specs.declared.slot.Answer.{Answer}
use Rattle.flurry_bins_slots.specs.declared.slot.Answer.TheVariants.{Here, Moved, Unborn}
use Rattle.flurry_steps_sweep.specs.Outcome.{OutcomeEnded, OutcomeRefused}
use Rattle.flurry_steps_sweep.specs.Cursor.{CursorState, with_top, with_bound, after_top}
use Rattle.flurry_steps_sweep.specs.declared.step.Event.TheVariants as event
use Rattle.flurry_steps_sweep.specs.Sweep.{SweepStage, OverBins, AtEnd, WalkGives, ReadGives, stage_walked, seen_at}

-- a walk's step at a slot of this content, where its cursor stands, and what it read last
module _ {K V : Type 0} (cmp : K → K → Ordering) (f : CursorState K) (l : Option (Seen K V)) where
  abbrev pub answered : Content K V → Answer (Option (PlainEntry K V)) (Unit {0})
  answered c = answer_with c (λ b. next_of_live cmp f.top.bound b) tt

  -- it reads what is next
  pub reads : (c : Content K V) (x : PlainEntry K V) → Here (Some x) ≡ answered c
      → WalkGives cmp f c l event.Read (OverBins (with_top f (with_bound f.top x.0))) (Some (seen_at x))
  reads (IsLive b) x e =
      subst (λ (o : Option (PlainEntry K V)). MatchOption o ((event.Read ≡ event.Silent) × (OverBins (with_top f (with_bound f.top x.0)) ≡ stage_walked {V = V} (after_top f)) × (Some (seen_at x) ≡ l)) (λ y. ReadGives f y l event.Read (OverBins (with_top f (with_bound f.top x.0))) (Some (seen_at x))))
      (let both : Here (Some x) ≡ Here (next_of_live cmp f.top.bound b) = e in let o : Some x ≡ next_of_live cmp f.top.bound b = cc in o) (refl, refl)
  reads HasMoved x e = let clash : Here (Some x) ≡ Moved tt = e in cc
  reads IsUnborn x e = let clash : Here (Some x) ≡ Unborn tt = e in cc

  -- or is refused a further owner of it
  pub read_refused : (c : Content K V) (x : PlainEntry K V) → Here (Some x) ≡ answered c → WalkGives cmp f c l event.Refused (AtEnd OutcomeRefused) l
  read_refused (IsLive b) x e =
      subst (λ (o : Option (PlainEntry K V)). MatchOption o ((event.Refused ≡ event.Silent) × (AtEnd OutcomeRefused ≡ stage_walked {K = K} {V = V} (after_top f)) × (l ≡ l)) (λ y. ReadGives f y l event.Refused (AtEnd OutcomeRefused) l))
      (let both : Here (Some x) ≡ Here (next_of_live cmp f.top.bound b) = e in let o : Some x ≡ next_of_live cmp f.top.bound b = cc in o) (refl, refl)
  read_refused HasMoved x e = let clash : Here (Some x) ≡ Moved tt = e in cc
  read_refused IsUnborn x e = let clash : Here (Some x) ≡ Unborn tt = e in cc

  -- nothing is left in the bin
  pub leaves : (c : Content K V) (s : SweepStage K V) → Here None ≡ answered c → s ≡ stage_walked (after_top f) → WalkGives cmp f c l event.Silent s l
  leaves (IsLive b) s e same =
      subst (λ (o : Option (PlainEntry K V)). MatchOption o ((event.Silent ≡ event.Silent) × (s ≡ stage_walked (after_top f)) × (l ≡ l)) (λ y. ReadGives f y l event.Silent s l))
      (let both : Here None ≡ Here (next_of_live cmp f.top.bound b) = e in let o : None ≡ next_of_live cmp f.top.bound b = cc in o) (refl, same, refl)
  leaves HasMoved s e same = let clash : Here None ≡ Moved tt = e in cc
  leaves IsUnborn s e same = let clash : Here None ≡ Unborn tt = e in cc

-- where a walk is once it has left the frame on top
module _ {K V : Type 0} (n : CursorState K) (old : CursorState K) (r : Bool) where
  pub left_on : (o : Option (CursorState K)) → MatchOption o ((r ≡ false) × (n ≡ old)) (λ d. (r ≡ true) × (n ≡ d)) → r ≡ true → OverBins n ≡ stage_walked {V = V} o
  left_on None (last, same) is = let clash : false ≡ true = sym last ∙ is in cc
  left_on (Some d) (on, same) is = ap OverBins same

  pub left_last : (o : Option (CursorState K)) → MatchOption o ((r ≡ false) × (n ≡ old)) (λ d. (r ≡ true) × (n ≡ d)) → r ≡ false → AtEnd OutcomeEnded ≡ stage_walked {K = K} {V = V} o
  left_last None (last, same) is = refl
  left_last (Some d) (on, same) is = let clash : true ≡ false = sym on ∙ is in cc
