-- `scl_catalogue_new` makes the box, and hands out its pointer with what is owned there.
use Rattle.scl_c.proofs.Steps.{◌≡◌, ℤ, List, [], ◌∷◌, ◌++◌, refl, sym, ap, ◌∙◌, subst, w32, Fml, SProp, proved_at, id⊢, emp, ftrue, flft, named, Val, WpFn, Wp, after_seq, fact, fact_i, leaves, tables, ‵, raw, ◌⊛◌, some, later, prop, any_q, at_ret, Post, ◌$◌, ◌∵◌, !, qed, by, move, keep, drop, use0, use1, use2, split, split3, join, fsplit, fsplit3, fjoin, fpack, feq_i, feq_l, pick, await, rewrite, regoal, enter, of_opd, addr, stop, fld, store, assigns, first, switches_on, exec, no_more, and_then, returns, alloc_all, pass_all, free_all, look_at, get, get_in, get_tag, through, sets, lands_as, lands_last, env, whole, u8, i32, usize, RawPtr, SliceRefOf, RefMutOf, RattleType, yes, no, Is, shows, sint_Lawful, Ptr, ptr_val, rawptr_Lawful, MutRef, ShrSlice, plain, shr_slice_vals, shr_slice_Tells, mut_vals, mut_Tells, nothing, heard, peeks, opens, closes, only, cell_at, calls_at, calls_at_last, Lasts, lasts, triple_of, framed, Stays, walk_of, stay_dropped, stay_ref, stay_left, Goes-dropped, Goes-blank, Goes-ref, Goes-left, impl, tnil, tcons, dnil, layout, bare, arg, arg_laws, glues, handle_tells, lft_new, full_share, ◌⊑◌, vrt, in_variant, lit<, and_true, answers, after, head, arm_body}
use Rattle.std.specs.Prelude.{pos, Ok, IfOk, IfErr}
use Rattle.std.specs.contracts.alloc.Global as heap
use Rattle.std.proofs.alloc.Global.TheLaws as heap_laws
use Rattle.std.specs.contracts.impls.GlobalAllocator.TheImpl.{ghosts, dict}
use Rattle.std.proofs.impls.GlobalAllocator.TheImpl.Met.{passed}
use Rattle.std.specs.contracts.boxed.Box as box
use Rattle.std.proofs.boxed.Box.TheLaws as box_laws
use Rattle.std.specs.contracts.result.Result as result
use Rattle.std.specs.contracts.boxed.Box.into_raw as into_raw
use Rattle.std.proofs.boxed.Box.into_raw.Met as raw_met
use Rattle.std.specs.Box.Ownership.{box_owns}
use Rattle.scl_catalogue.specs.Views.{catalogue_of}
use Rattle.scl_catalogue.specs.contracts.catalogue.Catalogue as catalogue
use Rattle.scl_catalogue.proofs.catalogue.Catalogue.TheLaws as catalogue_laws
use Rattle.scl_catalogue_text.specs.contracts.mistake.ReadError as error
use Rattle.scl_catalogue_text.proofs.mistake.ReadError.TheLaws as error_laws
use Rattle.scl_catalogue_default.specs.Over.{read_over, IsWrongOver}
use Rattle.scl_catalogue_text.specs.Outcome.{ReadsText, ReadsTextNot}
use Rattle.scl_c.specs.Catalogues.{IsMade, IsUnreadBy}
use Rattle.scl_c.specs.Memory.{Made, handed, owned}
use Rattle.scl_c.proofs.Letting.{X, drops, lets_go}
use Rattle.scl_c.proofs.Told.{made_is, unread_is, none_handed}
use Rattle.scl_c.specs.contracts.catalogue.boxed as boxed
use Rattle.scl_c.proofs.catalogue.boxed.Met as boxed_met
use Rattle.scl_c.specs.contracts.catalogue.made as told
use Rattle.scl_c.proofs.catalogue.made.Met as told_met
use Rattle.scl_c.specs.contracts.catalogue.unread as unread
use Rattle.scl_c.proofs.catalogue.unread.Met as unread_met
use Rattle.scl_c.specs.contracts.handle.scl_catalogue_new as f
use Rattle.scl_c.proofs.handle.scl_catalogue_new.Statement.{statement}
use Rattle.scl_c.proofs.handle.scl_catalogue_new.Code as code

abbrev stayed : Stays f.ended.signature.params f.ended.kept
stayed = (stay_dropped _ yes, (stay_dropped _ yes, (stay_ref (1 ∷ []) tt (plain (λ _. RawPtr)), (stay_left _ yes, tt))))

pub scl_catalogue_new_spec : {M : Type 1} → statement M
unfolding Rattle.scl_c.proofs.Destruct++none.drop.Code.code
scl_catalogue_new_spec {M} 𝓤 𝓛 𝓜 𝓡 wired =
    let c = f.clauses 𝓛 𝓜.mem 𝓡.returns in let W = walk_of 𝓛 f.ended stayed c in let 𝓣 = tables 𝓤 𝓛.H 𝓜 𝓡 𝓡.env in let fn = code.function in
    let C : RattleType = catalogue.the_row in let LC = catalogue_laws.the_row_laws in let Z : RattleType = heap.the_row in let LZ = heap_laws.the_row_laws in let E : RattleType = error.the_row in
    let LX = arg_laws (bare (layout C)) no C LC refl in let Y : RattleType = arg (bare (layout Z)) no Z in let LY = arg_laws (bare (layout Z)) no Z LZ refl in
    let dd = impl ("scl_c::Destruct++none::drop" ∷ []) (tcons (layout Y) tnil) dnil in let B : RattleType = box.the_row C Z ghosts in let D : RattleType = result.the_row B E in
    proved_at 𝓛 f.ended stayed c 𝓜 𝓡 (
      Goes-blank 𝓛 3 (plain (λ _. heap.the_row)) yes (λ κs x w. tt),
      (
        Goes-dropped 𝓛 3 (SliceRefOf (0 ∷ []) tt (plain (λ _. u8)) (λ _. tt)) yes (λ κs x w. refl),
        (Goes-ref 𝓛 3 1 tt (plain (λ _. RawPtr)), (Goes-left 𝓛 3 (RefMutOf (2 ∷ []) tt (plain (λ _. usize)) (λ _. tt)) yes, tt)),
      ),
    )
    f.Key.name fn (code.unfolded 𝓤 𝓛.H 𝓜 𝓡 wired) (λ z are.
    let κ₁ = z.0.0.0 in let κ₂ = z.0.0.1.0 in let κ₃ = z.0.0.1.1.0 in let q₁ = z.0.1.0 in let q₂ = z.0.1.1.0 in let q₃ = z.0.1.1.1.0 in
    let h = z.0.3.0 in let text = z.0.3.1.0 in let handle = z.0.3.1.1.0 in let wanted = z.0.3.1.1.1.0 in
    let hs = z.0.4.0 in let ws = z.0.4.1.0 in let ps = z.0.4.1.1.0 in let ns = z.0.4.1.1.1.0 in
    let Text : RattleType = ShrSlice (named 0) κ₁ u8 in let Handle : RattleType = MutRef (named 1) κ₂ RawPtr in let Wanted : RattleType = MutRef (named 2) κ₃ usize in
    let Run : List Val → SProp 𝓤 = λ vs. WpFn 𝓤 𝓛.H 𝓣.C 𝓣.Λ fn vs (W.post z) in
    qed 𝓛 (((‵ (flft κ₁ q₁) ⊛ ‵ (flft κ₂ q₂) ⊛ ‵ (flft κ₃ q₃) ⊛ ‵ ftrue) ⊛ ‵ (Z.own_val h hs) ⊛ ‵ (Text.own_val text ws) ⊛ ‵ (Handle.own_val handle ps) ⊛ ‵ (Wanted.own_val wanted ns) ⊛ ‵ ftrue) ∷ ‵ ftrue ∷ []) ∵
    split ! $ split3 ! $ move ! (2 ∷ []) $ split ! $ move ! (4 ∷ []) $ split3 ! $ move ! (2 ∷ []) $ split3 ! $ keep ! (3 ∷ 4 ∷ 0 ∷ 1 ∷ 7 ∷ 8 ∷ 5 ∷ []) $
    -- [the allocator; the text; the handle; what is wanted; the three tokens]
    handle_tells (record { row = Z; laws = LZ; g = ghosts; d = dict; drops = dict }) ! h hs (λ w ew fits.
    let wv = shr_slice_vals text in let pv = mut_vals handle in let nv = mut_vals wanted in
    let eq : ws ≡ wv = shr_slice_Tells (named 0) κ₁ u8 text ws are.1.0 in let ep : ps ≡ pv = mut_Tells (named 1) κ₂ RawPtr handle ps are.1.1.0 in let en : ns ≡ nv = mut_Tells (named 2) κ₃ usize wanted ns are.1.1.1.0 in
    let are_these : hs ++ (ws ++ (ps ++ (ns ++ []))) ≡ (w ∷ []) ++ (wv ++ (pv ++ (nv ++ []))) =
    ap (λ (xs : List Val). xs ++ (ws ++ (ps ++ (ns ++ [])))) ew ∙ ap (λ (xs : List Val). w ∷ (xs ++ (ps ++ (ns ++ [])))) eq ∙ ap (λ (xs : List Val). w ∷ (wv ++ (xs ++ (ns ++ [])))) ep ∙ ap (λ (xs : List Val). w ∷ (wv ++ (pv ++ (xs ++ [])))) en in
    regoal ! (λ (vs : List Val). prop (Run vs)) are_these refl $
    rewrite ! 1 (λ (xs : List Val). ‵ (Text.own_val text xs)) eq refl $ rewrite ! 3 (λ (xs : List Val). ‵ (Wanted.own_val wanted xs)) en refl $
    enter ! _ _ _ _ _ $ alloc_all ! (λ l. pass_all ! refl (fits, ((tt, (tt, (record { fits = are.1.0.0.1.0 }, tt))), ((tt, tt), ((tt, tt), tt)))) $ let Ev = env fn.locals l in
    let Then : Post 𝓤 𝓛.H = any_q (after_seq 𝓤 𝓛.H (Wp 𝓤 𝓛.H 𝓣.C 𝓣.Λ Ev (after 2 fn.body) (prog.Wp.at_return 𝓤 𝓛.H Ev (W.post z))) (prog.Wp.at_return 𝓤 𝓛.H Ev (W.post z))) in
    let G = triple_of 𝓛 boxed.signature (boxed.spec 𝓛 𝓜.mem 𝓡.returns) in
    let x : G.Ghost = (((κ₁, tt), (q₁, tt), tt, (h, (text, tt)), (w ∷ [], (wv, tt))), tt) in
    nothing ! $ move ! (5 ∷ 0 ∷ []) $ join ! $ nothing ! $ move ! (3 ∷ 0 ∷ []) $ join ! $ move ! (2 ∷ 0 ∷ []) $ join ! $ move ! (1 ∷ 0 ∷ []) $ join ! $ nothing ! $ move ! (1 ∷ 0 ∷ []) $
    use2 𝓛 (raw (G.pre x)) (id⊢ 𝓤 _) $
    -- [the call; the handle; what is wanted; the tokens of both]
    calls_at ! (framed 𝓤 𝓛.H 𝓜 𝓣) G (boxed_met.met 𝓤 𝓛 𝓜 𝓡 (code.calls-scl_c::catalogue::boxed 𝓡.env wired)) x (and_then ! (get ! refl) (and_then ! (get ! refl) (no_more !))) (λ u.
    let Reads : D.Denot → Type 0 = λ d. ReadsText (λ (r : B.Denot). catalogue_of r.value) d (read_over text.now) in let From : D.Denot → Type 0 = λ d. IfOk d (λ r. r.alloc ≡ h) in let Wrong : D.Denot → Type 0 = λ d. IfErr d (IsWrongOver text.now) in
    use1 𝓛 (later (some (λ (d : D.Denot). ((‵ (flft κ₁ q₁) ⊛ ‵ ftrue) ⊛ ‵ (D.own_val d (u ∷ []))) ⊛
    some (λ (ls : Lasts boxed.ended x.0.0 x.0.3). ‵ (lasts boxed.ended x.0.0 x.0.3 ls) ⊛ (raw (fact 𝓤 (Reads d)) ⊛ raw (fact 𝓤 (From d)) ⊛ raw (fact 𝓤 (Wrong d))))))) (id⊢ 𝓤 _) $
    await ! tt $ pick ! (λ d. split ! $ move ! (1 ∷ []) $ pick ! (λ ls. split ! $ drop ! $ split3 ! $ heard ! _ (λ reads. heard ! _ (λ from. heard ! _ (λ wrong. split ! $ split ! $ move ! (1 ∷ []) $ drop ! $ move ! (1 ∷ []) $
    -- [the answer; the text's token; the handle; what is wanted; the tokens of both]
    answers B E ((box_laws.the_field_loose C Z ghosts LC LZ).lawful 𝓛) (error_laws.the_row_laws.lawful 𝓛) (layout B) (layout E) refl refl ! d u
    (λ r v ed eu good. let is_read : read_over text.now ≡ Ok (catalogue_of r.value) = subst Reads ed reads in let its : r.alloc ≡ h = subst From ed from in
    lands_as ! eu refl (and_true _ good.0, (record { fits = lit< tt }, (good.1, tt))) $
    first ! $ switches_on ! (get_tag ! (vrt ! refl (fld ! refl (stop !))) (whole !)) $ exec ! 𝓣.C 𝓣.Λ Ev (arm_body 0 (head (after 1 fn.body))) Then $
    sets ! (of_opd ! (get_in ! (vrt ! refl (fld ! refl (stop !))) (in_variant ! 0 0 refl refl (whole !)))) refl good $ sets ! (of_opd ! (get ! refl)) refl good $
    lft_new ! tt (λ β. lft_new ! tt (λ α. let K = α ∷ [] in let J = β ∷ [] in let Ended = into_raw.ended X Y ghosts dict dd drops in
    -- [the two tokens; the box; the text's token; the handle; what is wanted; the tokens of both]
    let I = triple_of 𝓛 (into_raw.signature X Y ghosts dict dd drops) (into_raw.spec X Y ghosts dict dd drops 𝓛 𝓜.mem 𝓡.returns) in
    let y : I.Ghost = (((K, (J, tt)), (full_share, (full_share, tt)), tt, (r, tt), (v ∷ [], tt)), tt) in
    nothing ! $ move ! (3 ∷ 0 ∷ []) $ join ! $ nothing ! $ move ! (3 ∷ 0 ∷ []) $ join ! $ move ! (2 ∷ 0 ∷ []) $ join ! $ join ! $
    nothing ! $ use0 𝓛 (raw (fact 𝓤 (J ⊑ Z.lives))) (fact_i 𝓤 (J ⊑ Z.lives) (emp 𝓤) (heap_laws.the_within J)) $ join ! $
    use0 𝓛 (raw (fact 𝓤 (K ⊑ C.lives))) (fact_i 𝓤 (K ⊑ C.lives) (emp 𝓤) (catalogue_laws.the_within K)) $ join ! $ move ! (1 ∷ 0 ∷ []) $ use2 𝓛 (raw (I.pre y)) (id⊢ 𝓤 _) $
    calls_at ! (framed 𝓤 𝓛.H 𝓜 𝓣) I (raw_met.met 𝓤 𝓛 𝓜 𝓡 (code.calls-std_alloc::boxed::Box::into_raw 𝓡.env wired) X Y LX LY ghosts dict dd drops
    (passed 𝓡.env (code.calls-std_heap::GlobalAllocator::allocate 𝓡.env wired) (code.calls-std_heap::GlobalAllocator::deallocate 𝓡.env wired) (code.calls-std_heap::GlobalAllocator::grow 𝓡.env wired) (code.calls-std_heap::GlobalAllocator::shrink 𝓡.env wired) M 𝓤 𝓛 𝓜 𝓡)
    (glues "scl_c::Destruct++none::drop" 𝓡.env (code.calls-scl_c::Destruct++none::drop 𝓡.env wired) Y LY M 𝓤 𝓛 𝓜 𝓡)
    (lets_go 𝓤 𝓛 𝓜 𝓡 (code.calls-scl_c::scl_catalogue++catalogue++Catalogue+Destruct::drop 𝓡.env wired))) y (and_then ! (get ! refl) (no_more !)) (λ t.
    use1 𝓛 (later (some (λ (p : Ptr). ((‵ (flft K full_share) ⊛ ‵ (flft J full_share) ⊛ ‵ ftrue) ⊛ ‵ (RawPtr.own_val p (t ∷ []))) ⊛
    some (λ (ms : Lasts Ended y.0.0 y.0.3). ‵ (lasts Ended y.0.0 y.0.3 ms) ⊛ ‵ (box_owns (ghosts.dealloc_token r.alloc) C p r.value))))) (id⊢ 𝓤 _) $
    await ! tt $ pick ! (λ p. split ! $ move ! (1 ∷ []) $ pick ! (λ ms. split ! $ drop ! $ move ! (1 ∷ []) $ split ! $ drop ! $ feq_l ! (λ et.
    let good_p = ((rawptr_Lawful 𝓛).typed p (ptr_val p ∷ []) refl).0 in let b = handle.ref_ptr.0 in let o = handle.ref_ptr.1 in
    lands_as ! (ap only et) refl good_p $ sets ! (of_opd ! (get ! refl)) refl good_p $
    -- [what is owned at the pointer; the text's token; the handle; what is wanted; the tokens of both]
    move ! (2 ∷ []) $ fsplit3 ! $ move ! (1 ∷ 2 ∷ 6 ∷ []) $ opens ! tt RawPtr b o (λ us. move ! (1 ∷ []) $ feq_l ! (λ eo. rewrite ! 0 (λ (xs : List Val). ‵ (cell_at full_share RawPtr.mir xs b o)) eo refl $
    assigns ! (of_opd ! (get ! refl)) (through ! refl (stop !)) (store ! 0 refl good_p) $
    feq_i ! (List Val) (ptr_val p ∷ []) (ptr_val p ∷ []) refl $ move ! (1 ∷ 0 ∷ []) $ closes ! tt RawPtr p (ptr_val p ∷ []) b o $
    sets ! (addr ! (through ! refl (stop !))) refl (tt, tt) $
    -- [the handle's value; its borrow; its token; its address; what is owned at the pointer; the text's token; what is wanted; its token]
    let N = triple_of 𝓛 told.signature (told.spec 𝓛 𝓜.mem 𝓡.returns) in let m : N.Ghost = (((κ₃, tt), (q₃, tt), tt, (wanted, tt), (nv, tt)), tt) in
    nothing ! $ move ! (8 ∷ 0 ∷ []) $ join ! $ nothing ! $ move ! (8 ∷ 0 ∷ []) $ join ! $ move ! (1 ∷ 0 ∷ []) $ join ! $ nothing ! $ move ! (1 ∷ 0 ∷ []) $ use2 𝓛 (raw (N.pre m)) (id⊢ 𝓤 _) $
    calls_at_last ! (framed 𝓤 𝓛.H 𝓜 𝓣) N (told_met.met 𝓤 𝓛 𝓜 𝓡 (code.calls-scl_c::catalogue::made 𝓡.env wired)) m (and_then ! (get ! refl) (no_more !)) (λ s.
    use1 𝓛 (later (some (λ (n : ℤ). ((‵ (flft κ₃ q₃) ⊛ ‵ ftrue) ⊛ ‵ (i32.own_val n (s ∷ []))) ⊛
    some (λ (ms : Lasts told.ended m.0.0 m.0.3). ‵ (lasts told.ended m.0.0 m.0.3 ms) ⊛ raw (fact 𝓤 ((n ≡ pos 0) × (ms.0 ≡ 0))))))) (id⊢ 𝓤 _) $
    await ! tt $ pick ! (λ n. split ! $ move ! (1 ∷ []) $ pick ! (λ ms. split ! $ fsplit ! $ move ! (1 ∷ []) $ drop ! $ move ! (1 ∷ []) $ heard ! _ (λ said.
    move ! (1 ∷ []) $ split ! $ split ! $ move ! (1 ∷ []) $ drop ! $ move ! (1 ∷ []) $
    peeks ! i32 (Is i32) (shows 𝓛 i32) n (s ∷ []) (λ is. let good_n = ((sint_Lawful 𝓛 w32).typed n _ is).0 in
    lands_last ! refl good_n $ exec ! 𝓣.C 𝓣.Λ Ev (after 2 fn.body) (at_ret Ev (W.post z)) $ sets ! (of_opd ! (get ! refl)) refl good_n $ returns ! (look_at ! 0 refl) $ free_all ! refl $
    -- [the status; the token of what is wanted; what is wanted; the handle's value; its borrow; its token; its address; what is owned at the pointer; the text's token]
    move ! (7 ∷ []) $ rewrite ! 0 (λ (a : Z.Denot). ‵ (box_owns (ghosts.dealloc_token a) C p r.value)) its refl $
    fpack ! (Made text.now) (λ made. owned h p made.catalogue) (record { catalogue = r.value; is_read = is_read }) $
    use1 𝓛 (‵ (handed h text.now p (pos 0))) (id⊢ 𝓤 _) $ rewrite ! 0 (λ (i : ℤ). ‵ (handed h text.now p i)) (sym said.0) refl $
    use0 𝓛 (raw (fact 𝓤 (IsMade text.now handle.now p ms.0 n))) (fact_i 𝓤 (IsMade text.now handle.now p ms.0 n) (emp 𝓤) (made_is text.now handle.now p ms.0 n said)) $ move ! (1 ∷ 0 ∷ []) $ join ! $ move ! (1 ∷ []) $
    nothing ! $ move ! (4 ∷ 0 ∷ []) $ join ! $ move ! (4 ∷ 5 ∷ []) $ fjoin ! $ move ! (6 ∷ 0 ∷ []) $ fjoin ! $ join ! $ nothing ! $ join ! $ nothing ! $ join ! $
    nothing ! $ move ! (4 ∷ 0 ∷ []) $ join ! $ move ! (4 ∷ 0 ∷ []) $ join ! $ move ! (4 ∷ 0 ∷ []) $ join ! $
    by ! (leaves 𝓛 f.ended stayed c z s n (tt, (tt, (p, (ms.0, tt)))) (tt, (tt, (tt, (tt, tt)))))))))))))))))))
    (λ e v ed eu good. let is_unread : ReadsTextNot e (read_over text.now) = subst Reads ed reads in let is_wrong : IsWrongOver text.now e = subst Wrong ed wrong in
    lands_as ! eu refl (and_true _ good.0, (record { fits = lit< tt }, (good.1, tt))) $
    first ! $ switches_on ! (get_tag ! (vrt ! refl (fld ! refl (stop !))) (whole !)) $ exec ! 𝓣.C 𝓣.Λ Ev (arm_body 1 (head (after 1 fn.body))) Then $
    sets ! (of_opd ! (get_in ! (vrt ! refl (fld ! refl (stop !))) (in_variant ! 1 0 refl refl (whole !)))) refl good $ sets ! (addr ! (through ! refl (stop !))) refl (tt, tt) $
    -- [the error; the text's token; the handle; what is wanted; the tokens of both]
    let N = triple_of 𝓛 unread.signature (unread.spec 𝓛 𝓜.mem 𝓡.returns) in let m : N.Ghost = (((κ₃, tt), (q₃, tt), tt, (e, (wanted, tt)), (v ∷ [], (nv, tt))), tt) in
    nothing ! $ move ! (6 ∷ 0 ∷ []) $ join ! $ nothing ! $ move ! (5 ∷ 0 ∷ []) $ join ! $ move ! (2 ∷ 0 ∷ []) $ join ! $ move ! (1 ∷ 0 ∷ []) $ join ! $ nothing ! $ move ! (1 ∷ 0 ∷ []) $ use2 𝓛 (raw (N.pre m)) (id⊢ 𝓤 _) $
    calls_at_last ! (framed 𝓤 𝓛.H 𝓜 𝓣) N (unread_met.met 𝓤 𝓛 𝓜 𝓡 (code.calls-scl_c::catalogue::unread 𝓡.env wired)) m (and_then ! (get ! refl) (and_then ! (get ! refl) (no_more !))) (λ s.
    use1 𝓛 (later (some (λ (n : ℤ). ((‵ (flft κ₃ q₃) ⊛ ‵ ftrue) ⊛ ‵ (i32.own_val n (s ∷ []))) ⊛
    some (λ (ms : Lasts unread.ended m.0.0 m.0.3). ‵ (lasts unread.ended m.0.0 m.0.3 ms) ⊛ raw (fact 𝓤 (IsUnreadBy e ms.1.0 n)))))) (id⊢ 𝓤 _) $
    await ! tt $ pick ! (λ n. split ! $ move ! (1 ∷ []) $ pick ! (λ ms. split ! $ fsplit3 ! $ drop ! $ move ! (1 ∷ []) $ drop ! $ move ! (1 ∷ []) $ heard ! _ (λ said.
    move ! (1 ∷ []) $ split ! $ split ! $ move ! (1 ∷ []) $ drop ! $ move ! (1 ∷ []) $
    peeks ! i32 (Is i32) (shows 𝓛 i32) n (s ∷ []) (λ is. let good_n = ((sint_Lawful 𝓛 w32).typed n _ is).0 in
    lands_last ! refl good_n $ exec ! 𝓣.C 𝓣.Λ Ev (after 2 fn.body) (at_ret Ev (W.post z)) $ sets ! (of_opd ! (get ! refl)) refl good_n $ returns ! (look_at ! 0 refl) $ free_all ! refl $
    -- [the status; the token of what is wanted; what is wanted; the text's token; the handle; its token]
    nothing ! $ rewrite ! 0 (λ (F : Fml). ‵ F) (sym (none_handed h text.now handle.now e ms.1.0 n said)) refl $
    use0 𝓛 (raw (fact 𝓤 (IsMade text.now handle.now handle.now ms.1.0 n))) (fact_i 𝓤 (IsMade text.now handle.now handle.now ms.1.0 n) (emp 𝓤) (unread_is text.now e handle.now ms.1.0 n is_unread is_wrong said)) $ move ! (1 ∷ 0 ∷ []) $ join ! $ move ! (1 ∷ []) $
    nothing ! $ move ! (4 ∷ 0 ∷ []) $ join ! $ move ! (5 ∷ 0 ∷ []) $ join ! $ nothing ! $ join ! $ nothing ! $ join ! $
    nothing ! $ move ! (4 ∷ 0 ∷ []) $ join ! $ move ! (5 ∷ 0 ∷ []) $ join ! $ move ! (4 ∷ 0 ∷ []) $ join ! $
    by ! (leaves 𝓛 f.ended stayed c z s n (tt, (tt, (handle.now, (ms.1.0, tt)))) (tt, (tt, (tt, (tt, tt))))))))))))))))))))
