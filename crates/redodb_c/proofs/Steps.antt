-- The names that the walks of this crate cite, and the value in a handle's memory, by its one machine value.
pub use Rattle.std.proofs.Common.{◌≡◌, ℕ, List, [], ◌∷◌, ◌++◌, refl, sym, ap, ◌∙◌, lit<}
pub use Rattle.std.proofs.raw_atomic.Walks.{proved, proved_at}
pub use base.Fraction.{full_share}
pub use base.Logic.{SProp, ent, emp, sep, ex, guard, id⊢}
pub use base.Fml.{ftrue, fat, flft, froom}
pub use lib.Dec.{T}
pub use mir.Syntax.{Ty, named}
pub use mir.Val.{Val, vunit, vptr, of_list, has_ty, WT}
pub use contract.Running.{tables}
pub use prog.Wp.{WpFn}
pub use seplogic.Ra.Ura.{Ura}
pub use types.Kit.{‵, raw, ◌⊛◌, some, given, prop, at_ret, ◌$◌, ◌∵◌, !, qed, done, move, keep, drop, use0, use1, use2, split, join, fsplit, fsplit3, fjoin, fjoin3, fpack, feq_i, pick, learn, show, check, rewrite, regoal, suffices, frame, group}
pub use types.Logic.{Logic, sem}
pub use types.Match.{live}
pub use types.Part.{whole, sub, look_in, agg}
pub use types.Run.{enter, of_opd, lit, unit_lit, load, look, store, init, stop, fld, no_more, and_then, assigns, assigns_last, first, blocks, exec, returns}
pub use types.ByLocal.{alloc_all, pass_all, free_all, look_at, get, through, sets, sets_last, env}
pub use borrow.Table.OneValue.{part_out, part_in}
pub use denote.Exit.{yes, no}
pub use denote.Laws.{Typed, Is, shows}
pub use denote.Memory.{cell_at, lone, part_at}
pub use denote.RattleType.{RattleType, Valss, owns}
pub use denote.RawPtr.{Ptr, RawPtr, block_ptr, lies_at, room_at, in_a_block, rawptr_vals, rawptr_Tells}
pub use denote.Ref.{MutRef}
pub use denote.Signature.{plain, types_at}
pub use denote.Steps.{nothing, opens, closes, peeks}
pub use denote.Triple.Entry.{on_entry}
pub use denote.Triple.Walked.{Stays, walk_of, says, stay_dropped, Goes-dropped, stay_ref, Goes-ref, ends_at}
