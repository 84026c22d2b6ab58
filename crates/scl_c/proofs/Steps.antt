-- What the walks name: the words of a proof that follows the code step by step, and what is known of pointers, slices and references.
pub use base.Fml.{ftrue, flft, Fml}
pub use base.Fraction.{full_share}
pub use base.Logic.{id⊢, emp, never, fst∗, SProp, ent}
pub use contract.BorrowLft.{◌⊑◌}
pub use contract.Monad.{fact, fact_i}
pub use contract.Running.{tables}
pub use denote.Builtin.{u8, unit, RawPtr, SliceRefOf, usize, i32, SliceRefMutOf, RefMutOf}
pub use denote.Exit.{yes, no}
pub use denote.Laws.{Is, shows}
pub use denote.Memory.{shared_of, cell_at}
pub use denote.Param.{arg, layout}
pub use denote.Param.Laws.{arg_laws}
pub use denote.Param.NoDrop.{glues}
pub use denote.RattleType.{RattleType}
pub use denote.RawPtr.{Ptr, block_ptr, null_ptr, ptr_val, block_of, count_of, in_a_block, rawptr_Tells, rawptr_Lawful}
pub use denote.Ref.{ShrRef, MutRef, mut_vals, mut_Tells}
pub use denote.SharingLaws.{contraction}
pub use denote.Signature.{plain}
pub use denote.Signed.{sint_Lawful}
pub use denote.Slice.{ShrSlice, shr_slice_vals, shr_slice_Tells, MutSlice, mut_slice_vals, mut_slice_Tells}
pub use denote.Steps.{nothing, heard, peeks, only, opens, closes}
pub use denote.Struct.Lending.{lent_at, lent_at_shr_laws}
pub use denote.Triple.Call.{calls_at, calls_at_last}
pub use denote.Triple.Clauses.{Lasts, lasts}
pub use denote.Triple.Spec.{triple_of}
pub use denote.Triple.Table.{framed}
pub use denote.Triple.Walked.{Stays, walk_of, stay_dropped, Goes-dropped, stay_ref, Goes-ref}
pub use lib.Dec.{lit<}
pub use lib.IntN.{ℤ}
pub use mir.Raw.{raw as bare}
pub use mir.Syntax.{named, impl, tnil, tcons, dnil}
pub use mir.Val.{Val, vptr, vunit}
pub use prog.Wp.{WpFn, Wp, after_seq}
pub use types.ByLocal.{alloc_all, pass_all, free_all, look_at, get, through, sets, lands_as, look_in_at, get_in, get_tag, lands_last, env}
pub use types.Kit.{‵, raw, ◌⊛◌, some, later, prop, at_ret, ◌$◌, ◌∵◌, !, qed, by, done, move, keep, drop, use0, use1, use2, split, split3, join, fsplit, fjoin, feq_i, feq_l, pick, await, regoal, suffices, rewrite, fsplit3, fpack, Post, any_q}
pub use types.Logic.{sem}
pub use types.Match.{vrt, in_variant}
pub use types.Part.{whole, sub, agg}
pub use types.Run.{enter, of_opd, unit_lit, addr, stop, no_more, and_then, returns, fld, hop, from, store, assigns, first, switches_on, exec}
pub use types.Tokens.{lft_new}
pub use Rattle.std.proofs.Common.{◌≡◌, ℕ, List, [], ◌∷◌, ◌++◌, ◌∙◌, refl, sym, ap, subst, w32, Bor}
pub use Rattle.std.proofs.alloc.Calls.{handle_tells, Goes-blank}
pub use Rattle.std.proofs.alloc.Shapes.{after, head, arm_body}
pub use Rattle.std.proofs.raw_atomic.Walks.{proved_at, leaves}
pub use Rattle.scl_c.proofs.PassedOn.{stay_left, Goes-left}
pub use Rattle.scl_c.proofs.Answered.{and_true, answers}
