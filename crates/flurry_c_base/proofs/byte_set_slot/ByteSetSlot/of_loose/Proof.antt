-- `of_loose` moves the address and the allocator, and what they own goes with them.
use Rattle.flurry_c_base.proofs.Walk.{List, [], ◌∷◌, ◌++◌, refl, ghosts, id⊢, ftrue, fsep, Val, tables, ‵, ◌⊛◌, ◌$◌, ◌∵◌, !, qed, done, move, keep, split, join, use1, fsplit, fjoin, suffices, whole, sub, agg, enter, of_opd, stop, fld, and_then, no_more, returns, alloc_all, pass_all, free_all, look_at, get, get_in, sets, yes, plain, type_at, nothing, Stays, walk_of, says, stay_dropped, Goes-dropped, ends_at}
use Rattle.std.proofs.raw_atomic.Walks.{proved_at}
use types.Kit.{prop, regoal}
use Rattle.std.proofs.Common.{Some}
use Rattle.std.proofs.alloc.Global.TheLaws.{the_row_laws as alloc-laws}
use Rattle.std.proofs.BoxSteps.Form.{Bx, D, B, box_typed, word}
use Rattle.std.proofs.BoxSteps.Steps.{box_in, box_out}
use Rattle.std.specs.contracts.alloc.Global.{the_row as alloc-row}
use Rattle.std.specs.contracts.impls.GlobalAllocator.TheImpl.{dict}
use Rattle.flurry_c_base.specs.contracts.loose.Loose.{the_row as loose-row}
use Rattle.flurry_c_base.specs.contracts.byte_set.ByteSet.{the_row as M}
use Rattle.flurry_c_base.specs.contracts.byte_set_slot.ByteSetSlot.of_loose as f
use Rattle.flurry_c_base.proofs.byte_set.ByteSet.TheLaws.{the_row_laws as set-laws}
use Rattle.flurry_c_base.proofs.byte_set_slot.ByteSetSlot.of_loose.Statement.{statement}
use Rattle.flurry_c_base.proofs.byte_set_slot.ByteSetSlot.of_loose.Code as code
use denote.RattleType.{RattleType}
use prog.Wp.{WpFn}

abbrev From : RattleType
From = loose-row M alloc-row ghosts

abbrev E : Bx
E = record { row = M; laws = set-laws; al = record { row = alloc-row; laws = alloc-laws; g = ghosts; d = dict; drops = dict } }

abbrev stayed : Stays f.ended.signature.params f.ended.kept
stayed = (stay_dropped (plain (λ _. From)) yes, tt)

pub of_loose_spec : {M : Type 1} → statement M
of_loose_spec 𝓤 𝓛 𝓜 𝓡 wired =
    let c = f.clauses 𝓛 𝓜.mem 𝓡.returns in let W = walk_of 𝓛 f.ended stayed c in let 𝓣 = tables 𝓤 𝓛.H 𝓜 𝓡 𝓡.env in
    let To = type_at f.signature.result tt in
    proved_at 𝓛 f.ended stayed c 𝓜 𝓡 (Goes-dropped 𝓛 0 (plain (λ _. From)) yes (λ κs x w. refl), tt)
    f.Key.name code.function (code.unfolded 𝓤 𝓛.H 𝓜 𝓡 wired) (λ y are.
    let loose = y.0.3.0 in let us = y.0.4.0 in
    let boxed : D E = record { ptr = loose.at; alloc = loose.alloc; value = loose.value } in
    let made : To.Denot = record { at = loose.at; alloc = loose.alloc; set = Some loose.value } in
    qed 𝓛 ((‵ ftrue ⊛ ‵ (fsep ((B E).own_val boxed us) ftrue)) ∷ ‵ ftrue ∷ []) ∵ split ! $ move ! (1 ∷ []) $ fsplit ! $ keep ! (0 ∷ []) $
    box_out E ! boxed us (λ b o hv e is fits. box_in E ! boxed b o boxed.value e refl $
    regoal ! (λ (ws : List Val). prop (WpFn 𝓤 𝓛.H 𝓣.C 𝓣.Λ code.function (ws ++ []) (W.post y))) is refl $
    use1 𝓛 (‵ (To.own_val made (word E hv b o ∷ []))) (id⊢ 𝓤 _) $
    enter ! _ _ _ _ _ $ alloc_all ! (λ l. pass_all ! refl (box_typed E hv b o fits, tt) $
    sets ! (of_opd ! (get_in ! (fld ! refl (stop !)) (sub ! 0 refl (whole !)))) refl (tt, tt) $
    sets ! (of_opd ! (get_in ! (fld ! refl (stop !)) (sub ! 1 refl (whole !)))) refl fits $
    sets ! (of_opd ! (get ! refl)) refl (tt, tt) $
    sets ! (agg ! (and_then ! (get ! refl) (and_then ! (get ! refl) (no_more !)))) refl (box_typed E hv b o fits) $
    returns ! (look_at ! 0 refl) $ free_all ! refl $
    suffices ! _ (ends_at 𝓛 f.ended stayed c y (word E hv b o) made (tt, tt) (tt, tt)) $ says ! refl $
    nothing ! $ nothing ! $ fjoin ! $ join ! $ nothing ! $ join ! $ done !)))
