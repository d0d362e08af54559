-- `of_box` takes from `Box::into_raw` what the box owned, at every type and allocator.
use Rattle.flurry_c_base.proofs.Walk.{◌≡◌, List, [], ◌∷◌, ◌++◌, refl, sym, ap, ◌∙◌, box_owns, never, fst∗, id⊢, sem, ftrue, flft, fsep, Val, tables, ‵, raw, ◌⊛◌, some, later, ◌$◌, ◌∵◌, !, qed, done, move, drop, split, join, use1, fsplit, fjoin, pick, await, rewrite, suffices, enter, of_opd, and_then, no_more, returns, agg, alloc_all, pass_all, free_all, look_at, get, sets, no, Ptr, block_ptr, null_ptr, in_a_block, plain, nothing, Stays, walk_of, says, stay_dropped, Goes-dropped, ends_at}
use Rattle.std.proofs.raw_atomic.Walks.{proved_at}
use Rattle.std.proofs.alloc.Calls.{token, Goes-blank, handle_tells}
use Rattle.std.proofs.BoxSteps.Form.{Bx, D, R, P, B, τ, box_typed, word}
use Rattle.std.proofs.BoxSteps.Steps.{box_in, box_out}
use Rattle.std.proofs.boxed.Box.into_raw.Met as g-met
use Rattle.std.specs.contracts.boxed.Box.into_raw as g
use Rattle.flurry_c_base.specs.contracts.loose.Loose.{the_row as loose-row}
use Rattle.flurry_c_base.specs.contracts.loose.Loose.of_box as f
use Rattle.flurry_c_base.proofs.loose.Loose.of_box.Statement.{statement}
use Rattle.flurry_c_base.proofs.loose.Loose.of_box.Code as code
use contract.BorrowLft.{◌⊑◌}
use contract.Monad.{fact}
use denote.Param.{bounded}
use denote.RattleType.{RattleType}
use denote.RawPtr.{RawPtr, ptr_val}
use denote.Steps.{heard, only}
use denote.Triple.Call.{calls_at}
use denote.Triple.Clauses.{Ended, lasts}
use denote.Triple.Spec.{triple_of}
use denote.Triple.Table.{framed}
use mir.MapTy.{inst_fn}
use mir.Raw.{raw as bare}
use mir.Syntax.{Args, Dict, Fn, a_type, dcons, dnil}
use prog.Wp.{WpFn}
use types.ByLocal.{lands_as}
use types.Kit.{feq_l, prop, regoal, split3}

module _ (E : Bx) where
  abbrev To : RattleType
  To = loose-row (R E) (P E) E.al.g

module _ (E : Bx) (t : Dict) where
  abbrev ended : Ended
  ended = f.ended E.row E.al.row E.al.g E.al.d t E.al.drops

  abbrev stayed : Stays ended.signature.params ended.kept
  stayed = (stay_dropped (plain (λ _. B E)) no, (stay_dropped (plain (λ _. P E)) no, tt))

  abbrev passed : Args
  passed = bounded (a_type ∷ a_type ∷ []) (E.row, (E.al.row, tt)) (dcons E.al.d (dcons t (dcons E.al.drops dnil)))

  abbrev body : Fn
  body = inst_fn passed code.function

pub of_box_spec : {M : Type 1} → statement M
of_box_spec 𝓤 𝓛 𝓜 𝓡 wired X Z LX LZ al d t dd meets glue drops =
    let E : Bx = record { row = X; laws = LX; al = record { row = Z; laws = LZ; g = al; d = d; drops = dd } } in
    let c = f.clauses X Z al d t dd 𝓛 𝓜.mem 𝓡.returns in let 𝓣 = tables 𝓤 𝓛.H 𝓜 𝓡 𝓡.env in
    let W = walk_of 𝓛 (ended E t) (stayed E t) c in
    let G = triple_of 𝓛 (g.signature X Z al d dd t) (g.spec X Z al d dd t 𝓛 𝓜.mem 𝓡.returns) in
    proved_at 𝓛 (ended E t) (stayed E t) c 𝓜 𝓡 (Goes-blank 𝓛 2 (plain (λ _. B E)) no (λ κs x w. tt), (Goes-dropped 𝓛 2 (plain (λ _. P E)) no (λ κs x w. refl), tt))
    (f.Key.name (passed E t)) (body E t) (code.unfolded 𝓤 𝓛.H 𝓜 𝓡 wired (X, (Z, tt)) d t dd) (λ y are.
    let κs = y.0.0 in let qs = y.0.1 in let boxed = y.0.3.0 in let alloc = y.0.3.1.0 in let us = y.0.4.0 in let vs = y.0.4.1.0 in
    let Tokens = ‵ (flft κs.0 qs.0) ⊛ ‵ (flft κs.1.0 qs.1.0) ⊛ ‵ ftrue in
    let Lives = raw (fact 𝓤 (κs.0 ⊑ X.lives)) in let Frees = raw (fact 𝓤 (κs.1.0 ⊑ Z.lives)) in
    let Freed = λ (p : Ptr). box_owns (token E.al boxed.alloc) (R E) p boxed.value in
    qed 𝓛 ((Tokens ⊛ ‵ (fsep ((B E).own_val boxed us) (fsep ((P E).own_val alloc vs) ftrue))) ∷ (Lives ⊛ Frees ⊛ raw (fact 𝓤 (alloc ≡ boxed.alloc))) ∷ []) ∵
    split ! $ move ! (1 ∷ []) $ fsplit ! $ move ! (1 ∷ []) $ fsplit ! $
    handle_tells E.al ! alloc vs (λ hv spelled fits. move ! (2 ∷ []) $
    box_out E ! boxed us (λ b o hw e is fits'. box_in E ! boxed b o boxed.value e refl $
    regoal ! (λ (ws : List Val). prop (WpFn 𝓤 𝓛.H 𝓣.C 𝓣.Λ (body E t) (ws ++ (vs ++ [])) (W.post y))) is refl $
    regoal ! (λ (ws : List Val). prop (WpFn 𝓤 𝓛.H 𝓣.C 𝓣.Λ (body E t) ((word E hw b o ∷ []) ++ (ws ++ [])) (W.post y))) spelled refl $
    -- [the box; its allocator's copy; nothing; the tokens; how long both live, and that the allocators are one]
    let z : G.Ghost = ((κs, qs, tt, (boxed, tt), (word E hw b o ∷ [], tt)), tt) in
    enter ! _ _ _ _ _ $ alloc_all ! (λ l. pass_all ! refl (box_typed E hw b o fits', (fits, tt)) $
    sets ! (of_opd ! (get ! refl)) refl (box_typed E hw b o fits') $
    move ! (4 ∷ []) $ split3 ! $ move ! (2 ∷ []) $ heard ! _ (λ same.
    nothing ! $ move ! (2 ∷ 0 ∷ []) $ join ! $ move ! (1 ∷ 0 ∷ []) $ join ! $
    move ! (1 ∷ 3 ∷ []) $ fjoin ! $ move ! (3 ∷ 0 ∷ []) $ join ! $ join ! $ use1 𝓛 (raw (G.pre z)) (id⊢ 𝓤 _) $
    calls_at ! (framed 𝓤 𝓛.H 𝓜 𝓣) G (g-met.met 𝓤 𝓛 𝓜 𝓡 (code.calls-std::boxed::Box::into_raw 𝓡.env wired) X Z LX LZ al d dd t meets drops glue) z
    (and_then ! (get ! refl) (no_more !)) (λ u.
    use1 𝓛 (later (some (λ (p : Ptr). (Tokens ⊛ ‵ (RawPtr.own_val p (u ∷ []))) ⊛ some (λ (ws : (Unit {0} × (Unit {0} × Unit {0})) × Unit {0}). ‵ (lasts (g.ended X Z al d dd t) κs (boxed, tt) ws) ⊛ ‵ (Freed p))))) (id⊢ 𝓤 _) $
    await ! tt $ pick ! (λ p. split ! $ move ! (1 ∷ []) $ pick ! (λ _. split ! $ drop ! $
    in_a_block ! p Freed (fst∗ 𝓤 (never 𝓤) (sem 𝓛 (token E.al boxed.alloc (bare (τ E)) null_ptr))) (λ b' o' at.
    move ! (1 ∷ []) $ split ! $ move ! (1 ∷ []) $ feq_l ! (λ is_u.
    lands_as ! (ap only is_u ∙ ap ptr_val at) refl (tt, tt) $
    sets ! (of_opd ! (get ! refl)) refl fits $
    sets ! (agg ! (and_then ! (get ! refl) (and_then ! (get ! refl) (no_more !)))) refl (box_typed E hv b' o' fits) $
    returns ! (look_at ! 0 refl) $ free_all ! refl $
    -- [the tokens; the memory; the allocator]
    rewrite ! 1 (λ (a : Z.Denot). ‵ (box_owns (token E.al a) (R E) (block_ptr b' o') boxed.value)) (sym same) refl $
    let made : D E = record { ptr = block_ptr b' o'; alloc = alloc; value = boxed.value } in
    let loose : (To E).Denot = record { at = block_ptr b' o'; alloc = alloc; value = boxed.value } in
    move ! (1 ∷ []) $ fsplit ! $ move ! (0 ∷ 1 ∷ 3 ∷ []) $ box_in E ! made b' o' boxed.value refl refl $
    suffices ! _ (ends_at 𝓛 (ended E t) (stayed E t) c y (word E hv b' o') loose ((tt, (tt, tt)), (tt, tt)) (tt, (tt, tt))) $ says ! refl $
    nothing ! $ nothing ! $ fjoin ! $ nothing ! $ fjoin ! $ join ! $ move ! (1 ∷ 0 ∷ []) $ join ! $ done !))))))))))
