-- `vacant` writes null beside the allocator, and nothing is owned.
use Rattle.flurry_c_base.proofs.Walk.{[], ◌∷◌, refl, proved, ftrue, fsep, ‵, ◌⊛◌, ◌$◌, ◌∵◌, !, qed, keep, join, fjoin, suffices, agg, enter, and_then, no_more, returns, alloc_all, pass_all, free_all, look_at, get, sets, yes, null_ptr, plain, nothing, Stays, walk_of, says, stay_dropped, Goes-dropped, ends_at, done}
use Rattle.std.proofs.Common.{None, lit<}
use Rattle.std.proofs.alloc.Global.TheLaws as alloc-laws
use Rattle.std.specs.contracts.alloc.Global.{the_row as alloc-row}
use Rattle.flurry_c_base.proofs.Slots.{null_beside, vacant_made}
use Rattle.flurry_c_base.specs.contracts.word_slot.WordSlot.{the_row as R, the_type as owning}
use Rattle.flurry_c_base.specs.contracts.word_slot.WordSlot.vacant as f
use Rattle.flurry_c_base.proofs.word_slot.WordSlot.vacant.Statement.{statement}
use Rattle.flurry_c_base.proofs.word_slot.WordSlot.vacant.Code as code
use types.Kit.{use0}
use types.Run.{lit}

abbrev stayed : Stays f.ended.signature.params f.ended.kept
stayed = (stay_dropped (plain (λ _. alloc-row)) yes, tt)

pub vacant_spec : {M : Type 1} → statement M
vacant_spec 𝓤 𝓛 𝓜 𝓡 wired =
    let c = f.clauses 𝓛 𝓜.mem 𝓡.returns in let W = walk_of 𝓛 f.ended stayed c in
    proved 𝓛 f.ended stayed c 𝓜 𝓡 (Goes-dropped 𝓛 0 (plain (λ _. alloc-row)) yes (λ κs x w. refl), tt)
    f.Key.name code.function (code.unfolded 𝓤 𝓛.H 𝓜 𝓡 wired)
    (λ κs. (λ alloc. alloc-laws.lowered alloc ∷ [], tt)) (λ κs. (alloc-laws.lowers.val_is, tt)) (λ κs qs bounds a _ are.
    let alloc = a.0 in let made : R.Denot = record { at = null_ptr; alloc = alloc; map = None } in let us = alloc-laws.lowered alloc ∷ [] in
    let y : W.Ghost = ((κs, qs, bounds, a, (us, tt)), tt) in
    qed 𝓛 ((‵ ftrue ⊛ ‵ (fsep (alloc-row.own_val alloc us) ftrue)) ∷ ‵ ftrue ∷ []) ∵ keep ! [] $
    enter ! _ _ _ _ _ $ alloc_all ! (λ l. pass_all ! refl ((tt, ((tt, tt), tt)), tt) $
    sets ! (agg ! (and_then ! (lit ! tt) (and_then ! (get ! refl) (no_more !)))) refl (tt, (record { fits = lit< tt }, (((tt, tt), tt), tt))) $
    returns ! (look_at ! 0 refl) $ free_all ! refl $
    suffices ! _ (ends_at 𝓛 f.ended stayed c y (null_beside alloc) made (tt, tt) (tt, tt)) $ says ! (refl, refl) $
    use0 𝓛 (‵ (R.own_val made (null_beside alloc ∷ []))) (vacant_made 𝓛 owning.name alloc) $
    nothing ! $ nothing ! $ fjoin ! $ join ! $ nothing ! $ join ! $ done !))
