-- `into_box` passes what is owned to `Box::from_raw`, at every type and allocator.
use Rattle.flurry_c_base.proofs.Walk.{◌≡◌, List, [], ◌∷◌, ◌++◌, refl, sym, ap, id⊢, ftrue, flft, fsep, Val, vptr, tables, ‵, raw, ◌⊛◌, some, later, at_ret, ◌$◌, ◌∵◌, !, qed, done, move, drop, split, join, use1, fsplit, fjoin, pick, await, rewrite, suffices, whole, sub, enter, of_opd, stop, fld, and_then, no_more, first, blocks, exec, returns, after, alloc_all, pass_all, free_all, look_at, get, get_in, sets, env, no, block_ptr, plain, nothing, Stays, walk_of, says, stay_dropped, ends_at}
use Rattle.std.proofs.Common.{subst}
use Rattle.std.proofs.raw_atomic.Walks.{proved_at}
use Rattle.std.proofs.alloc.Calls.{Goes-blank}
use Rattle.std.proofs.BoxSteps.Form.{Bx, D, R, P, B, args, box_ty, box_typed}
use Rattle.std.proofs.BoxSteps.Steps.{box_in, box_out}
use Rattle.std.proofs.boxed.Box.from_raw.Met as g-met
use Rattle.std.specs.contracts.boxed.Box.from_raw as g
use Rattle.flurry_c_base.specs.contracts.loose.Loose.{the_row as loose-row}
use Rattle.flurry_c_base.specs.contracts.loose.Loose.into_box as f
use Rattle.flurry_c_base.proofs.loose.Loose.into_box.Statement.{statement}
use Rattle.flurry_c_base.proofs.loose.Loose.into_box.Code as code
use contract.BorrowLft.{◌⊑◌}
use contract.Monad.{fact}
use denote.RattleType.{RattleType}
use denote.Steps.{heard, only}
use denote.Triple.Call.{calls_at_last}
use denote.Triple.Clauses.{Ended}
use denote.Triple.Spec.{triple_of}
use denote.Triple.Table.{framed}
use mir.MapTy.{inst_fn}
use lib.Dec.{T}
use mir.Syntax.{Fn}
use mir.Val.{WT, has_ty}
use types.ByLocal.{lands_last}
use prog.Wp.{WpFn}
use types.Kit.{feq_i, prop, regoal, split3}

module _ (E : Bx) where
  abbrev ended : Ended
  ended = f.ended E.row E.al.row E.al.g E.al.d E.al.drops

  abbrev From : RattleType
  From = loose-row (R E) (P E) E.al.g

  abbrev stayed : Stays ended.signature.params ended.kept
  stayed = (stay_dropped (plain (λ _. From)) no, tt)

  abbrev body : Fn
  body = inst_fn (args E) code.function

pub into_box_spec : {M : Type 1} → statement M
into_box_spec 𝓤 𝓛 𝓜 𝓡 wired X Z LX LZ al d dd meets drops =
    let E : Bx = record { row = X; laws = LX; al = record { row = Z; laws = LZ; g = al; d = d; drops = dd } } in
    let c = f.clauses X Z al d dd 𝓛 𝓜.mem 𝓡.returns in let 𝓣 = tables 𝓤 𝓛.H 𝓜 𝓡 𝓡.env in
    let W = walk_of 𝓛 (ended E) (stayed E) c in
    let G = triple_of 𝓛 (g.signature X Z al d dd) (g.spec X Z al d dd 𝓛 𝓜.mem 𝓡.returns) in
    proved_at 𝓛 (ended E) (stayed E) c 𝓜 𝓡 (Goes-blank 𝓛 2 (plain (λ _. From E)) no (λ κs x w. tt), tt)
    (f.Key.name (args E)) (body E) (code.unfolded 𝓤 𝓛.H 𝓜 𝓡 wired (X, (Z, tt)) d dd) (λ y are.
    let κs = y.0.0 in let qs = y.0.1 in let self = y.0.3.0 in let us = y.0.4.0 in
    let boxed : D E = record { ptr = self.at; alloc = self.alloc; value = self.value } in
    let Tokens = ‵ (flft κs.0 qs.0) ⊛ ‵ (flft κs.1.0 qs.1.0) ⊛ ‵ ftrue in
    let Lives = raw (fact 𝓤 (κs.0 ⊑ X.lives)) in let Frees = raw (fact 𝓤 (κs.1.0 ⊑ Z.lives)) in
    qed 𝓛 ((Tokens ⊛ ‵ (fsep ((B E).own_val boxed us) ftrue)) ∷ (Lives ⊛ Frees ⊛ ‵ ftrue) ∷ []) ∵ split ! $ move ! (1 ∷ []) $ fsplit ! $
    box_out E ! boxed us (λ b o hv e spelled fits. fjoin ! $
    regoal ! (λ (ws : List Val). prop (WpFn 𝓤 𝓛.H 𝓣.C 𝓣.Λ (body E) (ws ++ []) (W.post y))) spelled refl $
    -- [the memory; the allocator; nothing; the tokens; how long both live]
    let z : G.Ghost = ((κs, qs, tt, (self.alloc, (block_ptr b o, tt)), (hv ∷ [], (vptr b o ∷ [], tt))), self.value) in
    enter ! _ _ _ _ _ $ alloc_all ! (λ l. pass_all ! refl (box_typed E hv b o fits, tt) $
    sets ! (of_opd ! (get_in ! (fld ! refl (stop !)) (sub ! 0 refl (whole !)))) refl (tt, tt) $
    sets ! (of_opd ! (get_in ! (fld ! refl (stop !)) (sub ! 1 refl (whole !)))) refl fits $
    first ! $ blocks ! $ sets ! (of_opd ! (get ! refl)) refl fits $
    move ! (4 ∷ []) $ split3 ! $ move ! (2 ∷ []) $ drop ! $ move ! (1 ∷ 2 ∷ []) $ join ! $ move ! (1 ∷ 0 ∷ []) $ join ! $
    move ! (2 ∷ []) $ feq_i ! (List Val) (vptr b o ∷ []) (vptr b o ∷ []) refl $ fjoin ! $ move ! (2 ∷ 0 ∷ []) $ fjoin ! $
    move ! (2 ∷ 0 ∷ []) $ join ! $ join ! $ use1 𝓛 (raw (G.pre z)) (id⊢ 𝓤 _) $
    calls_at_last ! (framed 𝓤 𝓛.H 𝓜 𝓣) G (g-met.met 𝓤 𝓛 𝓜 𝓡 (code.calls-std::boxed::Box::from_raw 𝓡.env wired) X Z LX LZ al d dd meets drops) z
    (and_then ! (get ! refl) (and_then ! (get ! refl) (no_more !))) (λ u.
    -- [the box, by what `from_raw` ensures]
    use1 𝓛 (later (some (λ (r : D E). (Tokens ⊛ ‵ ((B E).own_val r (u ∷ []))) ⊛ some (λ (_ : Unit {0} × (Unit {0} × Unit {0})).
    ‵ (fsep ftrue (fsep ftrue ftrue)) ⊛ raw (fact 𝓤 (r.value ≡ self.value)) ⊛ raw (fact 𝓤 (r.alloc ≡ self.alloc)))))) (id⊢ 𝓤 _) $
    await ! tt $ pick ! (λ r. split ! $ move ! (1 ∷ []) $ pick ! (λ _. split3 ! $ drop ! $ heard ! _ (λ same. drop ! $ split ! $ move ! (1 ∷ []) $
    box_out E ! r (u ∷ []) (λ b' o' hw e' is fits'. box_in E ! r b' o' r.value e' refl $
    rewrite ! 0 (λ (ws : List Val). ‵ ((B E).own_val r ws)) (sym is) refl $
    let typed : T (has_ty (box_ty E) u) × WT u = subst (λ (w : Val). T (has_ty (box_ty E) w) × WT w) (sym (ap only is)) (box_typed E hw b' o' fits') in
    lands_last ! refl typed $
    exec ! 𝓣.C 𝓣.Λ (env (body E).locals l) (after 3 (body E).body) (at_ret _ (W.post y)) $
    sets ! (of_opd ! (get ! refl)) refl typed $ returns ! (look_at ! 0 refl) $ free_all ! refl $
    suffices ! _ (ends_at 𝓛 (ended E) (stayed E) c y u r ((tt, (tt, tt)), tt) (tt, tt)) $ says ! same $
    nothing ! $ nothing ! $ fjoin ! $ join ! $ move ! (1 ∷ 0 ∷ []) $ join ! $ done !))))))))
