-- `lend` makes a `&mut` to what lies at the address, and the owner of the address follows it.
use Rattle.flurry_c_base.proofs.Walk.{MutBor, List, [], ◌∷◌, refl, sym, ap, ◌∙◌, proved, after, box_owns, ghosts, full_share, ent, sep, never, fst∗, id⊢, GName, ftrue, flft, fsep, named, Val, vptr, tables, sem, ‵, raw, ◌⊛◌, some, later, at_ret, ◌$◌, ◌∵◌, !, qed, done, move, keep, split, join, use1, fsplit, fsplit3, fjoin, fpack, pick, await, rewrite, suffices, frame, group, whole, sub, look_in, enter, of_opd, addr, load, stop, fld, first, blocks, exec, returns, alloc_all, pass_all, free_all, look_at, get, through, sets, sets_last, env, no, follows, Part, lends_Part, shows, cell_at, lone, part_at, Ptr, block_ptr, null_ptr, in_a_block, MutRef, mut_vals, mut_Tells, plain, mut_ref_to, nothing, opens, peeks, Stays, walk_of, says, stay_dropped, Goes-spent_ref, ends_at}
use denote.Memory.{part_of}
use denote.Struct.Owning.{shape}
use denote.Struct.Struct.{Struct}
use denote.Struct.Values.{intos}
use mir.Raw.{raw as bare}
use Rattle.flurry_c_base.specs.Lent.{byte_set_with}
use Rattle.flurry_c_base.specs.contracts.byte_set.ByteSet.{the_row as M}
use Rattle.flurry_c_base.specs.contracts.held_byte_set.HeldByteSet.{the_row as R, the_type as owning}
use Rattle.flurry_c_base.specs.contracts.held_byte_set.HeldByteSet.lend as f
use Rattle.flurry_c_base.proofs.held_byte_set.HeldByteSet.TheLaws.{lowers}
use Rattle.flurry_c_base.proofs.held_byte_set.HeldByteSet.lend.Statement.{statement}
use Rattle.flurry_c_base.proofs.held_byte_set.HeldByteSet.lend.Code as code

abbrev stayed : Stays f.ended.signature.params f.ended.kept
stayed = (stay_dropped (mut_ref_to (0 ∷ []) tt (plain (λ _. R))) no, tt)

pub lend_spec : {M : Type 1} → statement M
unfolding part_of
lend_spec 𝓤 𝓛 𝓜 𝓡 wired =
    let c = f.clauses 𝓛 𝓜.mem 𝓡.returns in let W = walk_of 𝓛 f.ended stayed c in let 𝓣 = tables 𝓤 𝓛.H 𝓜 𝓡 𝓡.env in
    proved 𝓛 f.ended stayed c 𝓜 𝓡 (Goes-spent_ref 𝓛 1 (0 ∷ []) tt (plain (λ _. R)), tt)
    f.Key.name code.function (code.unfolded 𝓤 𝓛.H 𝓜 𝓡 wired)
    (λ κs. (mut_vals, tt)) (λ κs. (mut_Tells (named 0) κs.0 R, tt)) (λ κs qs bounds a _ are.
    let κ = κs.0 in let q = qs.0 in let self = a.0 in let b = self.ref_ptr.0 in let o = self.ref_ptr.1 in let γ = self.ghost_name in let h = self.now in let vs = mut_vals self in
    let y : W.Ghost = ((κs, qs, bounds, a, (vs, tt)), tt) in
    let Right = λ (p : Ptr). ghosts.dealloc_token h.alloc (bare (lone M.mir)) p in
    let Owned = λ (p : Ptr) (m : M.Denot). box_owns (ghosts.dealloc_token h.alloc) M p m in
    qed 𝓛 (((‵ (flft κ q) ⊛ ‵ ftrue) ⊛ ‵ ((MutRef (named 0) κ R).own_val self vs) ⊛ ‵ ftrue) ∷ ‵ ftrue ∷ []) ∵
    split ! $ split ! $ move ! (2 ∷ []) $ split ! $ keep ! (0 ∷ 2 ∷ []) $
    enter ! _ _ _ _ _ $ alloc_all ! (λ l. pass_all ! refl ((tt, tt), tt) $
    fsplit3 ! $ move ! (1 ∷ 2 ∷ 3 ∷ []) $ opens ! tt R b o (λ us.
    move ! (1 ∷ []) $ peeks ! R _ (shows 𝓛 R) h us (λ is. fsplit ! $ move ! (1 ∷ []) $
    in_a_block ! h.at (λ p. Owned p h.set) (fst∗ 𝓤 (never 𝓤) (sem 𝓛 (Right null_ptr))) (λ b' o' e. fsplit ! $
    -- [the set; the right to free it; what the fields own; the cell of the address; the open borrow, in three entries]
    let word = lowers.val_is h us is ∙ ap (λ (p : Ptr). lowers.lowered (record h { at = p }) ∷ []) e in
    let Cell = λ (ws : List Val). cell_at full_share R.mir ws b o in
    rewrite ! 3 (λ (ws : List Val). ‵ (Cell ws)) word refl $
    sets ! (of_opd ! (load ! (through ! refl (fld ! refl (stop !))) (look_in ! 3 (sub ! 0 refl (whole !))))) refl (tt, tt) $
    sets ! (of_opd ! (get ! refl)) refl (tt, tt) $
    first ! $ blocks ! $ sets_last ! (addr ! (through ! refl (stop !))) refl (tt, tt) $
    exec ! 𝓣.C 𝓣.Λ (env code.Mir.locals l) (after 3 code.function.body) (at_ret _ (W.post y)) $
    sets ! (of_opd ! (get ! refl)) refl (tt, tt) $
    rewrite ! 3 (λ (ws : List Val). ‵ (Cell ws)) (sym word) refl $
    let Rest = fsep (Right (block_ptr b' o')) (fsep ((Struct (shape owning)).own_val (intos owning.parts (owning.as_values h)) us) (Cell us)) in
    let back : (m : M.Denot) → ent 𝓤 (sep 𝓤 (sem 𝓛 (part_at M full_share m b' o')) (sem 𝓛 Rest)) (sem 𝓛 (part_at R full_share (byte_set_with h m) b o)) = λ m.
    qed 𝓛 (‵ (part_at M full_share m b' o') ∷ ‵ Rest ∷ []) ∵ move ! (1 ∷ []) $ fsplit ! $ move ! (2 ∷ 0 ∷ []) $ fjoin ! $
    rewrite ! 0 (λ (p : Ptr). ‵ (Owned p m)) (sym e) refl $ move ! (1 ∷ []) $ fsplit ! $ move ! (0 ∷ 2 ∷ []) $ fjoin ! $ move ! (1 ∷ 0 ∷ []) $ fjoin ! $
    fpack ! (List Val) (λ ws. fsep (Cell ws) (R.own_val (byte_set_with h m) ws)) us $ done ! in
    let Lent = λ (γ' : GName). Part 𝓛 R M (byte_set_with h) (named 0) κ q b o b' o' γ (sem 𝓛 Rest) back h.set γ' in
    move ! (2 ∷ 3 ∷ []) $ fjoin ! $ move ! (2 ∷ 0 ∷ []) $ fjoin ! $ move ! (2 ∷ 3 ∷ 4 ∷ 1 ∷ 0 ∷ []) $ group ! 5 $
    use1 𝓛 (later (some (λ (γ' : GName). raw (Lent γ')))) (lends_Part 𝓛 R M (byte_set_with h) (named 0) κ q b o b' o' γ (sem 𝓛 Rest) back (R.coded.code h) (R.coded.code h) h.set) $
    await ! tt $ pick ! (λ γ'. returns ! (look_at ! 0 refl) $ free_all ! refl $ keep ! (0 ∷ []) $
    let r : MutBor M.Denot = record { ref_ptr = (b', o'); ghost_name = γ'; now = h.set } in
    use1 𝓛 (‵ ((MutRef (named 0) κ M).own_val r (vptr b' o' ∷ [])) ⊛ ‵ (flft κ q) ⊛ ‵ (follows R M γ γ' (byte_set_with h))) (id⊢ 𝓤 _) $ split ! $ move ! (1 ∷ []) $ split ! $ move ! (2 ∷ 0 ∷ []) $
    -- [the loan; the token; what follows]
    suffices ! _ (ends_at 𝓛 f.ended stayed c y (vptr b' o') r (tt, tt) (tt, tt)) $
    nothing ! $ nothing ! $ fjoin ! $ join ! $ nothing ! $ move ! (2 ∷ 0 ∷ []) $ join ! $ join ! $ frame ! $ says ! refl $ done !))))))
