-- `into_loose` asks whether the address is null. Else it moves the address and the allocator, and what they own goes with them.
use Rattle.flurry_c_base.proofs.Walk.{◌≡◌, [], ◌∷◌, refl, proved, ftrue, fsep, Val, tables, ‵, raw, ◌⊛◌, ◌$◌, ◌∵◌, !, qed, done, move, keep, split, join, use1, fsplit, fjoin, rewrite, suffices, whole, sub, agg, enter, of_opd, stop, fld, first, exec, and_then, no_more, returns, alloc_all, pass_all, free_all, look_at, get, get_in, sets, env, after, at_ret, yes, plain, type_at, nothing, ghosts, Stays, walk_of, says, stay_dropped, Goes-dropped, ends_at}
use Rattle.std.proofs.Common.{Some, None, IfNone, subst, ap, sym, lit<}
use Rattle.std.proofs.option.Made.{Some-of, none_of}
use Rattle.std.specs.contracts.alloc.Global.{the_row as alloc-row}
use Rattle.flurry_c_base.proofs.Slots.{none_or_some}
use Rattle.flurry_c_base.specs.contracts.loose.Loose.{the_row as loose-row}
use Rattle.flurry_c_base.specs.contracts.word_set.WordSet.{the_row as M}
use Rattle.flurry_c_base.specs.contracts.word_set_slot.WordSetSlot.{the_row as R, the_type as owning}
use Rattle.flurry_c_base.specs.contracts.word_set_slot.WordSetSlot.into_loose as f
use Rattle.flurry_c_base.proofs.word_set_slot.WordSetSlot.TheLaws.{lowers, the_row_laws}
use Rattle.flurry_c_base.proofs.word_set_slot.WordSetSlot.into_loose.Statement.{statement}
use Rattle.flurry_c_base.proofs.word_set_slot.WordSetSlot.into_loose.Code as code
use contract.Monad.{fact}
use denote.RattleType.{RattleType, Denots}
use denote.Laws.{Is}
use denote.Struct.Owning.{shape}
use denote.Struct.Struct.{Struct}
use denote.Struct.Values.{intos}
use denote.RawPtr.{Ptr, null_ptr, block_ptr, tests_null, ptr_val}
use denote.Steps.{heard}
use types.Kit.{use0}
use types.Match.{live}
use types.Run.{bin, lit, branches}
use types.ByLocal.{is, sets_last}
use mir.Val.{vnil, vcons, has_ty, WT}
use denote.Memory.{lone}
use lib.Dec.{T}

abbrev stayed : Stays f.ended.signature.params f.ended.kept
stayed = (stay_dropped (plain (λ _. R)) yes, tt)

abbrev Lr : RattleType
Lr = loose-row M alloc-row ghosts

abbrev to : R.Denot → Denots (shape owning).fields
to h = intos owning.parts (owning.as_values h)

pub into_loose_spec : {M : Type 1} → statement M
into_loose_spec 𝓤 𝓛 𝓜 𝓡 wired =
    let c = f.clauses 𝓛 𝓜.mem 𝓡.returns in let W = walk_of 𝓛 f.ended stayed c in let 𝓣 = tables 𝓤 𝓛.H 𝓜 𝓡 𝓡.env in
    let Out = type_at f.signature.result tt in
    proved 𝓛 f.ended stayed c 𝓜 𝓡 (Goes-dropped 𝓛 0 (plain (λ _. R)) yes (λ κs x w. refl), tt)
    f.Key.name code.function (code.unfolded 𝓤 𝓛.H 𝓜 𝓡 wired)
    (λ κs. (λ h. lowers.lowered h ∷ [], tt)) (λ κs. (lowers.val_is, tt)) (λ κs qs bounds a _ are.
    let h = a.0 in let v = lowers.lowered h in
    let y : W.Ghost = ((κs, qs, bounds, a, (v ∷ [], tt)), tt) in
    let self_typed = ((the_row_laws.lawful 𝓛).typed h (v ∷ []) are.0).0 in
    qed 𝓛 ((‵ ftrue ⊛ ‵ (fsep (R.own_val h (v ∷ [])) ftrue)) ∷ raw (fact 𝓤 (IfNone h.set (h.at ≡ null_ptr))) ∷ []) ∵
    move ! (1 ∷ []) $ heard ! _ (λ null. split ! $ move ! (1 ∷ []) $ fsplit ! $ keep ! (0 ∷ []) $ fsplit ! $ move ! (1 ∷ []) $
    enter ! _ _ _ _ _ $ alloc_all ! (λ l. pass_all ! refl (self_typed, tt) $
    none_or_some M h.alloc ! h.at h.set null
    (λ at_null gone.
    sets ! (is ! (of_opd ! (get_in ! (fld ! refl (stop !)) (sub ! 0 refl (whole !)))) (ap ptr_val at_null)) refl (tt, record { fits = lit< tt }) $
    sets ! (of_opd ! (get_in ! (fld ! refl (stop !)) (sub ! 1 refl (whole !)))) refl (tt, ((tt, tt), tt)) $
    sets ! (bin ! (get ! refl) (lit ! tt) tt) refl (tt, tt) $ first ! $ branches ! (get ! refl)
    (λ _. sets_last ! (agg ! (and_then ! (lit ! tt) (no_more !))) refl (tt, (record { fits = lit< tt }, tt)) $
    exec ! 𝓣.C 𝓣.Λ (env code.Mir.locals l) (after 4 code.function.body) (at_ret _ (W.post y)) $
    sets ! (of_opd ! (get ! refl)) refl (tt, (record { fits = lit< tt }, tt)) $ returns ! (look_at ! 0 refl) $ free_all ! refl $ keep ! [] $
    use0 𝓛 (‵ (Out.own_val None (live 0 vnil ∷ []))) (none_of 𝓛 Lr) $
    suffices ! _ (ends_at 𝓛 f.ended stayed c y (live 0 vnil) None (tt, tt) (tt, tt)) $ says ! (sym gone) $
    nothing ! $ nothing ! $ fjoin ! $ join ! $ nothing ! $ join ! $ done !) (λ wrong. absurd wrong))
    (λ b o x at_block held may. let there = record h { at = block_ptr b o } in let made = lowers.lowered there in
    let loose : Lr.Denot = record { at = block_ptr b o; alloc = h.alloc; value = x } in let some : Val = live 1 (vcons made vnil) in
    let made_typed = ((the_row_laws.lawful 𝓛).typed there (made ∷ []) (subst (λ (p : Ptr). Is R (record h { at = p }) (lowers.lowered (record h { at = p }) ∷ [])) at_block are.0)).0 in
    let some_typed : T (has_ty (lone Out.mir) some) × WT some = (made_typed.0, (record { fits = lit< tt }, (made_typed.1, tt))) in
    sets ! (is ! (of_opd ! (get_in ! (fld ! refl (stop !)) (sub ! 0 refl (whole !)))) (ap ptr_val at_block)) refl (tt, tt) $
    sets ! (of_opd ! (get_in ! (fld ! refl (stop !)) (sub ! 1 refl (whole !)))) refl (tt, ((tt, tt), tt)) $
    sets ! (bin ! (get ! refl) (lit ! tt) (tests_null (block_ptr b o) may)) refl (tt, tt) $ first ! $ branches ! (get ! refl) (λ wrong. absurd wrong)
    (λ _. sets ! (of_opd ! (get ! refl)) refl (tt, tt) $
    sets ! (agg ! (and_then ! (get ! refl) (and_then ! (get ! refl) (no_more !)))) refl made_typed $
    sets_last ! (agg ! (and_then ! (lit ! tt) (and_then ! (get ! refl) (no_more !)))) refl some_typed $
    exec ! 𝓣.C 𝓣.Λ (env code.Mir.locals l) (after 4 code.function.body) (at_ret _ (W.post y)) $
    sets ! (of_opd ! (get ! refl)) refl some_typed $ returns ! (look_at ! 0 refl) $ free_all ! refl $ move ! (1 ∷ []) $
    rewrite ! 0 (λ (p : Ptr). ‵ ((Struct (shape owning)).own_val (to (record h { at = p })) (lowers.lowered (record h { at = p }) ∷ []))) at_block refl $ fjoin ! $
    use1 𝓛 (‵ (Out.own_val (Some loose) (some ∷ []))) (Some-of 𝓛 Lr loose made) $
    suffices ! _ (ends_at 𝓛 f.ended stayed c y some (Some loose) (tt, tt) (tt, tt)) $ says ! (sym held) $
    nothing ! $ nothing ! $ fjoin ! $ join ! $ nothing ! $ join ! $ done !)))))
