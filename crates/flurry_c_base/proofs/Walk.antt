-- The names that the walks of this crate use.
pub use Rattle.std.proofs.Common.{◌≡◌, ℕ, MutBor, List, [], ◌∷◌, ◌++◌, refl, sym, ap, ◌∙◌}
pub use Rattle.std.proofs.raw_atomic.Walks.{proved}
pub use Rattle.std.proofs.VecSteps.Shapes.{after}
pub use Rattle.std.specs.Box.Ownership.{box_owns}
pub use Rattle.std.specs.contracts.impls.GlobalAllocator.TheImpl.{ghosts}
pub use base.Fraction.{full_share}
pub use base.Logic.{SProp, ent, sep, never, fst∗, id⊢}
pub use base.Fml.{Fml, GName, ftrue, flft, fsep}
pub use mir.Syntax.{named}
pub use mir.Val.{Val, vptr}
pub use contract.Running.{tables}
pub use types.Logic.{Logic, sem}
pub use types.Kit.{‵, raw, ◌⊛◌, some, later, at_ret, ◌$◌, ◌∵◌, !, qed, done, move, keep, drop, use1, split, join, fsplit, fsplit3, fjoin, fpack, pick, await, rewrite, suffices, frame, group}
pub use types.Part.{whole, sub, look_in, agg}
pub use types.Run.{enter, of_opd, addr, load, stop, fld, first, blocks, exec, returns, and_then, no_more}
pub use types.ByLocal.{alloc_all, pass_all, free_all, look_at, get, get_in, through, sets, sets_last, env}
pub use denote.Exit.{no, yes}
pub use denote.Follow.{follows, Part, lends_Part}
pub use denote.Laws.{shows}
pub use denote.Memory.{cell_at, lone, part_at, mem}
pub use denote.RawPtr.{Ptr, block_ptr, null_ptr, in_a_block, rawptr_Lawful}
pub use denote.Ref.{MutRef, mut_vals, mut_Tells}
pub use denote.Signature.{plain, mut_ref_to, type_at}
pub use denote.Steps.{nothing, opens, peeks}
pub use denote.Triple.Walked.{Stays, walk_of, says, stay_dropped, Goes-dropped, Goes-spent_ref, ends_at}
