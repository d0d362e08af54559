-- What an address owns that may be null, for the walks of the slots.
--     none_or_some     there is nothing, at null, or a value in a block, and its address may be compared with null
--     vacant_made      null, beside an allocator, owns nothing, so a slot of any name is made of it
use Rattle.flurry_c_base.proofs.Walk.{◌≡◌, ℕ, List, [], ◌∷◌, refl, ghosts, full_share, ent, never, fst∗, fsep, ftrue, sem, Logic, ‵, ◌$◌, ◌∵◌, !, qed, done, drop, use1, fjoin, Val, Ptr, block_ptr, null_ptr, in_a_block, lone, nothing}
use Rattle.std.proofs.Common.{Option, Some, None, IfNone}
use Rattle.std.proofs.GlobalToken.{dealloc_token-Testable}
use Rattle.std.proofs.alloc.Global.TheLaws.{lowered}
use Rattle.std.specs.Global.{Global}
use Rattle.std.specs.contracts.alloc.Global.{the_field}
use Rattle.flurry_c_base.specs.Owned.{owns, slot_owns}
use base.Logic.{emp, guard, guard_i, snd∗, via}
use contract.Monad.{fact_use}
use denote.Laws.{Is}
use denote.RattleType.{RattleType}
use denote.RawPtr.{Testable, lies_at}
use denote.Steps.{owned}
use denote.Struct.Field.{Field, RawPtr-field, rows}
use denote.Struct.Struct.{Shape, Struct, Struct-Makes, Plains}
use denote.Struct.Values.{intos}
use mir.Raw.{raw as bare}
use mir.Syntax.{Sym}
use mir.Val.{vnull, vunit, vstruct, vcons, vnil}
use seplogic.Ra.Ura.{Ura}
use types.Kit.{Goal, Seq, Item, given, learn}

module _ (X : RattleType) (alloc : Global) {M : Type 1} {𝓤 : Ura M} (𝓛 : Logic 𝓤) where
  -- an address that owns a value may be compared with null
  tested : (p : Ptr) (x : X.Denot) → ent 𝓤 (sem 𝓛 (owns X alloc p x)) (guard 𝓤 (Testable p) (sem 𝓛 (owns X alloc p x)))
  tested p x =
      fact_use 𝓤 (Testable p) (via 𝓤 _ (snd∗ 𝓤 (sem 𝓛 (lies_at X full_share p x)) (sem 𝓛 (ghosts.dealloc_token alloc (bare (lone X.mir)) p)))
      (dealloc_token-Testable 𝓛 alloc (bare (lone X.mir)) p)) (guard_i 𝓤 (Testable p) (sem 𝓛 (owns X alloc p x)))

module _ (X : RattleType) (alloc : Global) {M : Type 1} {𝓤 : Ura M} {𝓛 : Logic 𝓤} where
  pub none_or_some : {K : Type 0} {Γ : List (Item 𝓤)} {G : Goal 𝓤 𝓛.H} → K → (at : Ptr) (held : Option X.Denot) → IfNone held (at ≡ null_ptr)
      → (at ≡ null_ptr → held ≡ None → Seq K 𝓛 Γ G)
      → ((b o : ℕ) (x : X.Denot) → at ≡ block_ptr b o → held ≡ Some x → Testable (block_ptr b o) → Seq K 𝓛 (‵ (owns X alloc (block_ptr b o) x) ∷ Γ) G)
      → Seq K 𝓛 (‵ (slot_owns X alloc at held) ∷ Γ) G
  none_or_some t at None null none some = drop t $ none null refl
  none_or_some t at (Some x) null none some =
      in_a_block t at (λ p. owns X alloc p x) (fst∗ 𝓤 (never 𝓤) (sem 𝓛 (ghosts.dealloc_token alloc (bare (lone X.mir)) null_ptr))) (λ b o is.
      use1 𝓛 (given (Testable (block_ptr b o)) (‵ (owns X alloc (block_ptr b o) x))) (tested X alloc 𝓛 (block_ptr b o) x) $ learn t (λ may. some b o x is refl may))

abbrev parts : List Field
parts = RawPtr-field ∷ the_field ∷ []

abbrev slot : Sym → Shape
slot name = record { name = name; args = []; types = []; fields = rows parts }

plains : Plains (rows parts)
plains = ((λ p ws. tt), ((λ alloc ws us. (tt, ((λ us. (tt, (tt, tt))), tt))), tt))

abbrev pub null_beside : Global → Val
null_beside alloc = vstruct (vcons vnull (vcons (lowered alloc) vnil))

null_is : (name : Sym) (alloc : Global) → Is (Struct (slot name)) (intos parts (null_ptr, (alloc, tt))) (null_beside alloc ∷ [])
null_is name alloc = ((vnull ∷ [], (lowered alloc ∷ [], tt)), (refl, (refl, (((vstruct (vcons vunit vnil) ∷ [], tt), (refl, (((vunit ∷ [], tt), (refl, (refl, tt))), tt))), tt))))

pub vacant_made : {M : Type 1} {𝓤 : Ura M} (𝓛 : Logic 𝓤) (name : Sym) (alloc : Global)
    → ent 𝓤 (emp 𝓤) (sem 𝓛 (fsep ((Struct (slot name)).own_val (intos parts (null_ptr, (alloc, tt))) (null_beside alloc ∷ [])) ftrue))
vacant_made {𝓤 = 𝓤} 𝓛 name alloc = qed 𝓛 [] ∵
    nothing ! $ owned ! (Struct (slot name)) _ (Struct-Makes 𝓛 (slot name) plains) (intos parts (null_ptr, (alloc, tt))) (null_beside alloc ∷ []) (null_is name alloc) $ fjoin ! $ done !
