-- `scl_catalogue_describe` reads the catalogue by a `&` for the lifetime that it is lent for, and passes all else on.
use Rattle.scl_c.proofs.Steps.{◌≡◌, ℤ, List, [], ◌∷◌, ◌++◌, refl, sym, ap, ◌∙◌, w32, Bor, SProp, proved_at, id⊢, never, fst∗, emp, ftrue, flft, named, Val, vptr, WpFn, fact, fact_i, leaves, tables, sem, ‵, raw, ◌⊛◌, some, later, prop, ◌$◌, ◌∵◌, !, qed, by, move, keep, drop, use0, use1, use2, split, split3, join, fsplit, fsplit3, fjoin, feq_i, pick, await, rewrite, regoal, enter, of_opd, addr, stop, fld, hop, from, no_more, and_then, returns, alloc_all, pass_all, free_all, look_at, look_in_at, get, get_in, through, sets, lands_as, whole, sub, agg, u8, i32, usize, RawPtr, SliceRefOf, SliceRefMutOf, RefMutOf, RattleType, yes, Is, shows, shared_of, block_of, count_of, sint_Lawful, Ptr, block_ptr, null_ptr, ptr_val, in_a_block, rawptr_Tells, ShrRef, MutRef, MutSlice, ShrSlice, contraction, plain, shr_slice_vals, shr_slice_Tells, mut_slice_vals, mut_slice_Tells, mut_vals, mut_Tells, nothing, heard, peeks, lent_at, lent_at_shr_laws, calls_at, Lasts, lasts, triple_of, framed, Stays, walk_of, stay_dropped, stay_left, Goes-dropped, Goes-blank, Goes-left, handle_tells}
use Rattle.std.specs.Prelude.{pos}
use Rattle.std.specs.contracts.alloc.Global as heap
use Rattle.std.proofs.alloc.Global.TheLaws as heap_laws
use Rattle.std.specs.contracts.impls.GlobalAllocator.TheImpl.{ghosts, dict}
use Rattle.scl_catalogue.specs.Views.{catalogue_of}
use Rattle.scl_requests.specs.Requests.{AnswersBytes}
use Rattle.scl_c.specs.Described.{AsksReadAgain, IsDescribed}
use Rattle.scl_c.specs.Memory.{lease}
use Rattle.scl_c.proofs.AgainLemmas.{asks_again}
use Rattle.scl_catalogue.specs.contracts.catalogue.Catalogue.{the_row as R}
use Rattle.scl_catalogue.proofs.catalogue.Catalogue.TheLaws.{the_row_laws}
use Rattle.scl_c.specs.contracts.handle.scl_catalogue_describe as f
use Rattle.scl_c.proofs.handle.scl_catalogue_describe.Statement.{statement}
use Rattle.scl_c.proofs.handle.scl_catalogue_describe.Code as code
use Rattle.scl_c.specs.contracts.described.describe_by as g
use Rattle.scl_c.proofs.described.describe_by.Met.{met}

abbrev stayed : Stays f.ended.signature.params f.ended.kept
stayed = (stay_dropped _ yes, (stay_dropped _ yes, (stay_dropped _ yes, (stay_left _ yes, (stay_left _ yes, tt)))))

pub scl_catalogue_describe_spec : {M : Type 1} → statement M
scl_catalogue_describe_spec 𝓤 𝓛 𝓜 𝓡 wired =
    let c = f.clauses 𝓛 𝓜.mem 𝓡.returns in let W = walk_of 𝓛 f.ended stayed c in let 𝓣 = tables 𝓤 𝓛.H 𝓜 𝓡 𝓡.env in
    let Z : RattleType = heap.the_row in
    proved_at 𝓛 f.ended stayed c 𝓜 𝓡 (
      Goes-blank 𝓛 3 (plain (λ _. heap.the_row)) yes (λ κs x w. tt),
      (
        Goes-dropped 𝓛 3 (plain (λ _. RawPtr)) yes (λ κs x w. refl),
        (
          Goes-dropped 𝓛 3 (SliceRefOf (0 ∷ []) tt (plain (λ _. u8)) (λ _. tt)) yes (λ κs x w. refl),
          (Goes-left 𝓛 3 (SliceRefMutOf (1 ∷ []) tt (plain (λ _. u8)) (λ _. tt)) yes, (Goes-left 𝓛 3 (RefMutOf (2 ∷ []) tt (plain (λ _. usize)) (λ _. tt)) yes, tt)),
        ),
      ),
    )
    f.Key.name code.function (code.unfolded 𝓤 𝓛.H 𝓜 𝓡 wired) (λ z are.
    let κ₁ = z.0.0.0 in let κ₂ = z.0.0.1.0 in let κ₃ = z.0.0.1.1.0 in let q₁ = z.0.1.0 in let q₂ = z.0.1.1.0 in let q₃ = z.0.1.1.1.0 in
    let h = z.0.3.0 in let p = z.0.3.1.0 in let request = z.0.3.1.1.0 in let room = z.0.3.1.1.1.0 in let wanted = z.0.3.1.1.1.1.0 in
    let hs = z.0.4.0 in let ps = z.0.4.1.0 in let ws = z.0.4.1.1.0 in let rs = z.0.4.1.1.1.0 in let ns = z.0.4.1.1.1.1.0 in
    let α = z.1.0.0 in let s = z.1.0.1 in let v = z.1.1 in
    let Request : RattleType = ShrSlice (named 0) κ₁ u8 in let Room : RattleType = MutSlice (named 1) κ₂ u8 in let Wanted : RattleType = MutRef (named 2) κ₃ usize in
    let Run : List Val → SProp 𝓤 = λ vs. WpFn 𝓤 𝓛.H 𝓣.C 𝓣.Λ code.function vs (W.post z) in
    qed 𝓛 (((‵ (flft κ₁ q₁) ⊛ ‵ (flft κ₂ q₂) ⊛ ‵ (flft κ₃ q₃) ⊛ ‵ ftrue) ⊛ ‵ (Z.own_val h hs) ⊛ ‵ (RawPtr.own_val p ps) ⊛ ‵ (Request.own_val request ws) ⊛ ‵ (Room.own_val room rs) ⊛ ‵ (Wanted.own_val wanted ns) ⊛ ‵ ftrue) ∷ ‵ (lease z.1.0 p v) ∷ []) ∵
    split ! $ split3 ! $ move ! (2 ∷ []) $ split ! $ move ! (4 ∷ []) $ split3 ! $ move ! (2 ∷ []) $ split3 ! $ move ! (2 ∷ []) $ split ! $
    keep ! (10 ∷ 4 ∷ 2 ∷ 3 ∷ 0 ∷ 8 ∷ 9 ∷ 6 ∷ []) $ fsplit ! $
    -- [the loan; its token; the allocator; the request; the room; what is wanted; the three tokens]
    in_a_block ! p (λ r. lent_at R r v α) (fst∗ 𝓤 (never 𝓤) (sem 𝓛 (shared_of R v (block_of null_ptr) (count_of null_ptr) α))) (λ b o e. move ! (2 ∷ []) $
    handle_tells (record { row = Z; laws = heap_laws.the_row_laws; g = ghosts; d = dict; drops = dict }) ! h hs (λ w ew fits.
    let wv = shr_slice_vals request in let rv = mut_slice_vals room in let nv = mut_vals wanted in
    let ep : ps ≡ vptr b o ∷ [] = rawptr_Tells p ps are.1.0 ∙ ap (λ (r : Ptr). ptr_val r ∷ []) e in
    let eq : ws ≡ wv = shr_slice_Tells (named 0) κ₁ u8 request ws are.1.1.0 in
    let er : rs ≡ rv = mut_slice_Tells (named 1) κ₂ u8 room rs are.1.1.1.0 in
    let en : ns ≡ nv = mut_Tells (named 2) κ₃ usize wanted ns are.1.1.1.1.0 in
    let are_these : hs ++ (ps ++ (ws ++ (rs ++ (ns ++ [])))) ≡ (w ∷ []) ++ ((vptr b o ∷ []) ++ (wv ++ (rv ++ (nv ++ [])))) =
    ap (λ (xs : List Val). xs ++ (ps ++ (ws ++ (rs ++ (ns ++ []))))) ew ∙ ap (λ (xs : List Val). w ∷ (xs ++ (ws ++ (rs ++ (ns ++ []))))) ep ∙ ap (λ (xs : List Val). w ∷ vptr b o ∷ (xs ++ (rs ++ (ns ++ [])))) eq
    ∙ ap (λ (xs : List Val). w ∷ vptr b o ∷ (wv ++ (xs ++ (ns ++ [])))) er ∙ ap (λ (xs : List Val). w ∷ vptr b o ∷ (wv ++ (rv ++ (xs ++ [])))) en in
    regoal ! (λ (vs : List Val). prop (Run vs)) are_these refl $
    rewrite ! 3 (λ (xs : List Val). ‵ (Request.own_val request xs)) eq refl $ rewrite ! 4 (λ (xs : List Val). ‵ (Room.own_val room xs)) er refl $ rewrite ! 5 (λ (xs : List Val). ‵ (Wanted.own_val wanted xs)) en refl $
    let Lent = ‵ (lent_at R (block_ptr b o) v α) in let r : Bor R.Denot = record { ref_ptr = (b, o); now = v } in
    move ! (1 ∷ []) $ use1 𝓛 (Lent ⊛ Lent) (contraction 𝓛 (lent_at R (block_ptr b o) v) (lent_at_shr_laws R the_row_laws.shr_laws (block_ptr b o) v) α) $ split ! $
    fsplit ! $ drop ! $ feq_i ! (List Val) (vptr b o ∷ []) (vptr b o ∷ []) refl $ fjoin ! $ use1 𝓛 (‵ ((ShrRef (named 0) α R).own_val r (vptr b o ∷ []))) (id⊢ 𝓤 _) $
    -- [the `&`; the loan; the allocator; the loan's token; the request; the room; what is wanted; the three tokens]
    enter ! _ _ _ _ _ $ alloc_all ! (λ l. pass_all ! refl (fits, ((tt, tt), ((tt, (tt, (record { fits = are.1.1.0.0.1.0 }, tt))), ((tt, (tt, (record { fits = are.1.1.1.0.0.1.0 }, tt))), ((tt, tt), tt))))) $
    sets ! (of_opd ! (get ! refl)) refl (tt, tt) $ sets ! (addr ! (through ! refl (stop !))) refl (tt, tt) $
    sets ! (addr ! (from ! (fld ! refl (hop ! (look_in_at ! 4 (sub ! 0 refl (whole !))) (stop !))))) refl (tt, tt) $
    sets ! (agg ! (and_then ! (get ! refl) (and_then ! (get_in ! (fld ! refl (stop !)) (sub ! 1 refl (whole !))) (no_more !)))) refl (tt, (tt, (record { fits = are.1.1.1.0.0.1.0 }, tt))) $
    sets ! (addr ! (through ! refl (stop !))) refl (tt, tt) $
    let G = triple_of 𝓛 g.signature (g.spec 𝓛 𝓜.mem 𝓡.returns) in
    let x : G.Ghost = (((α, (κ₁, (κ₂, (κ₃, tt)))), (s, (q₁, (q₂, (q₃, tt)))), tt, (h, (r, (request, (room, (wanted, tt))))), (w ∷ [], (vptr b o ∷ [], (wv, (rv, (nv, tt)))))), tt) in
    nothing ! $ move ! (10 ∷ 0 ∷ []) $ join ! $ move ! (9 ∷ 0 ∷ []) $ join ! $ move ! (8 ∷ 0 ∷ []) $ join ! $ move ! (4 ∷ 0 ∷ []) $ join ! $
    nothing ! $ move ! (7 ∷ 0 ∷ []) $ join ! $ move ! (6 ∷ 0 ∷ []) $ join ! $ move ! (5 ∷ 0 ∷ []) $ join ! $ move ! (2 ∷ 0 ∷ []) $ join ! $ move ! (3 ∷ 0 ∷ []) $ join ! $ move ! (1 ∷ 0 ∷ []) $ join ! $
    nothing ! $ move ! (1 ∷ 0 ∷ []) $ use2 𝓛 (raw (G.pre x)) (id⊢ 𝓤 _) $
    calls_at ! (framed 𝓤 𝓛.H 𝓜 𝓣) G (met 𝓤 𝓛 𝓜 𝓡 (code.calls-scl_c::described::describe_by 𝓡.env wired)) x
    (and_then ! (get ! refl) (and_then ! (get ! refl) (and_then ! (get ! refl) (and_then ! (get ! refl) (and_then ! (get ! refl) (no_more !)))))) (λ u.
    let Said : (n : ℤ) → Lasts g.ended x.0.0 x.0.3 → Type 0 = λ n ls. IsDescribed (AnswersBytes (catalogue_of v) request.now) request.now room.now ls.1.1.1.0 ls.1.1.1.1.0 n in
    use1 𝓛 (later (some (λ (n : ℤ). ((‵ (flft α s) ⊛ ‵ (flft κ₁ q₁) ⊛ ‵ (flft κ₂ q₂) ⊛ ‵ (flft κ₃ q₃) ⊛ ‵ ftrue) ⊛ ‵ (i32.own_val n (u ∷ []))) ⊛
    some (λ (ls : Lasts g.ended x.0.0 x.0.3). ‵ (lasts g.ended x.0.0 x.0.3 ls) ⊛ raw (fact 𝓤 (Said n ls)))))) (id⊢ 𝓤 _) $
    await ! tt $ pick ! (λ n. split ! $ move ! (1 ∷ []) $ pick ! (λ ls. split ! $
    fsplit3 ! $ move ! (2 ∷ []) $ fsplit3 ! $ move ! (2 ∷ []) $ fsplit ! $ move ! (1 ∷ 2 ∷ 4 ∷ 5 ∷ []) $ drop ! $ drop ! $ drop ! $ drop ! $
    -- [what is wanted; the room; what is told; the tokens and the status; the loan]
    move ! (2 ∷ []) $ heard ! _ (λ told. move ! (2 ∷ []) $ split ! $ split3 ! $ move ! (2 ∷ []) $ split3 ! $ move ! (2 ∷ []) $ drop ! $ move ! (4 ∷ []) $
    -- [the status; the tokens of the room, of what is wanted, of the loan, of the request; what is wanted; the room; the loan]
    peeks ! i32 (Is i32) (shows 𝓛 i32) n (u ∷ []) (λ is. lands_as ! refl refl ((sint_Lawful 𝓛 w32).typed n _ is).0 $
    returns ! (look_at ! 0 refl) $ free_all ! refl $ rewrite ! 7 (λ (r' : Ptr). ‵ (lent_at R r' v α)) (sym e) refl $
    let Again : Type 0 = n ≡ pos 0 → AsksReadAgain request.now in
    use0 𝓛 (raw (fact 𝓤 Again)) (fact_i 𝓤 Again (emp 𝓤) (asks_again (catalogue_of v) request.now room.now ls.1.1.1.0 ls.1.1.1.1.0 n told)) $ use0 𝓛 (raw (fact 𝓤 (Said n ls))) (fact_i 𝓤 (Said n ls) (emp 𝓤) told) $ join ! $
    move ! (8 ∷ 4 ∷ []) $ fjoin ! $ join ! $ move ! (1 ∷ []) $
    -- [the status; the `ensures`; the tokens of the room, of what is wanted, of the request; what is wanted; the room]
    nothing ! $ move ! (6 ∷ 0 ∷ []) $ join ! $ move ! (6 ∷ 0 ∷ []) $ join ! $ nothing ! $ join ! $ nothing ! $ join ! $ nothing ! $ join ! $
    nothing ! $ move ! (5 ∷ 0 ∷ []) $ join ! $ move ! (4 ∷ 0 ∷ []) $ join ! $ move ! (4 ∷ 0 ∷ []) $ join ! $
    by ! (leaves 𝓛 f.ended stayed c z u n (tt, (tt, (tt, (ls.1.1.1.0, (ls.1.1.1.1.0, tt))))) (tt, (tt, (tt, (tt, (tt, tt)))))))))))))))
