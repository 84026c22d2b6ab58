-- `scl_catalogue_drop` makes the box again, and lets it go.
use Rattle.scl_c.proofs.Steps.{◌≡◌, List, [], ◌∷◌, ◌++◌, refl, sym, ap, ◌∙◌, subst, proved_at, leaves, id⊢, emp, never, fst∗, SProp, ent, ftrue, flft, full_share, Val, vptr, vunit, WpFn, fact, fact_i, tables, sem, ‵, raw, ◌⊛◌, some, later, ◌$◌, ◌∵◌, !, qed, by, move, drop, use0, use1, use2, split, split3, join, feq_i, feq_l, pick, await, suffices, enter, of_opd, unit_lit, no_more, and_then, returns, alloc_all, pass_all, free_all, look_at, get, sets, lands_as, unit, RawPtr, yes, no, Is, shows, RattleType, Ptr, block_ptr, null_ptr, ptr_val, in_a_block, nothing, peeks, only, calls_at, Lasts, lasts, triple_of, framed, Stays, walk_of, stay_dropped, Goes-dropped, Goes-blank, plain, impl, tnil, tcons, dnil, bare, lft_new, ◌⊑◌, arg, layout, arg_laws, glues, handle_tells}
use Rattle.std.specs.contracts.alloc.Global as heap
use Rattle.std.proofs.alloc.Global.TheLaws as heap_laws
use Rattle.std.specs.contracts.impls.GlobalAllocator.TheImpl.{ghosts, dict}
use Rattle.std.proofs.impls.GlobalAllocator.TheImpl.Met.{passed}
use Rattle.std.specs.contracts.boxed.Box as boxed
use Rattle.std.proofs.boxed.Box.TheLaws as boxed_laws
use Rattle.std.specs.contracts.boxed.Box.from_raw as from_raw
use Rattle.std.proofs.boxed.Box.from_raw.Met as raw_met
use Rattle.scl_c.specs.Memory.{owned}
use Rattle.scl_catalogue.specs.contracts.catalogue.Catalogue as catalogue
use Rattle.scl_catalogue.proofs.catalogue.Catalogue.TheLaws as catalogue_laws
use Rattle.scl_c.specs.contracts.catalogue.discard as g
use Rattle.scl_c.proofs.catalogue.discard.Met.{met}
use Rattle.scl_c.specs.contracts.handle.scl_catalogue_drop as f
use Rattle.scl_c.proofs.handle.scl_catalogue_drop.Statement.{statement}
use Rattle.scl_c.proofs.handle.scl_catalogue_drop.Code as code

abbrev stayed : Stays f.ended.signature.params f.ended.kept
stayed = (stay_dropped _ yes, (stay_dropped _ yes, tt))

pub scl_catalogue_drop_spec : {M : Type 1} → statement M
unfolding Rattle.scl_c.proofs.Destruct++none.drop.Code.code
scl_catalogue_drop_spec {M} 𝓤 𝓛 𝓜 𝓡 wired =
    let c = f.clauses 𝓛 𝓜.mem 𝓡.returns in let W = walk_of 𝓛 f.ended stayed c in let 𝓣 = tables 𝓤 𝓛.H 𝓜 𝓡 𝓡.env in
    let C : RattleType = catalogue.the_row in let LC = catalogue_laws.the_row_laws in let Z : RattleType = heap.the_row in let LZ = heap_laws.the_row_laws in
    -- the two types as arguments of a call
    let X : RattleType = arg (bare (layout C)) no C in let LX = arg_laws (bare (layout C)) no C LC refl in
    let Y : RattleType = arg (bare (layout Z)) no Z in let LY = arg_laws (bare (layout Z)) no Z LZ refl in
    let dd = impl ("scl_c::Destruct++none::drop" ∷ []) (tcons (layout Y) tnil) dnil in let B : RattleType = boxed.the_row C Z ghosts in
    proved_at 𝓛 f.ended stayed c 𝓜 𝓡 (Goes-blank 𝓛 0 (plain (λ _. heap.the_row)) yes (λ κs x w. tt), (Goes-dropped 𝓛 0 (plain (λ _. RawPtr)) yes (λ κs x w. refl), tt))
    f.Key.name code.function (code.unfolded 𝓤 𝓛.H 𝓜 𝓡 wired) (λ z are.
    let h = z.0.3.0 in let p = z.0.3.1.0 in let us = z.0.4.0 in let vs = z.0.4.1.0 in let v = z.1 in
    let Run : List Val → SProp 𝓤 = λ ws. WpFn 𝓤 𝓛.H 𝓣.C 𝓣.Λ code.function ws (W.post z) in
    qed 𝓛 ((‵ ftrue ⊛ ‵ (Z.own_val h us) ⊛ ‵ (RawPtr.own_val p vs) ⊛ ‵ ftrue) ∷ ‵ (owned h p v) ∷ []) ∵ split ! $ drop ! $ split3 ! $
    handle_tells (record { row = Z; laws = LZ; g = ghosts; d = dict; drops = dd }) ! h us (λ w ew fits. move ! (1 ∷ []) $ feq_l ! (λ ep. move ! (2 ∷ []) $
    in_a_block ! p (λ r. owned h r v) (fst∗ 𝓤 (never 𝓤) (sem 𝓛 (ghosts.dealloc_token h (bare (layout C)) null_ptr))) (λ b o e.
    let is : vs ≡ vptr b o ∷ [] = ep ∙ ap (λ (r : Ptr). ptr_val r ∷ []) e in
    suffices ! (Run (w ∷ vptr b o ∷ [])) (subst (λ (ws : List Val). ent 𝓤 (Run (w ∷ vptr b o ∷ [])) (Run (ws ++ (vs ++ [])))) (sym ew)
    (subst (λ (ws : List Val). ent 𝓤 (Run (w ∷ vptr b o ∷ [])) (Run (w ∷ (ws ++ [])))) (sym is) (id⊢ 𝓤 (Run (w ∷ vptr b o ∷ []))))) $
    enter ! _ _ _ _ _ $ alloc_all ! (λ l. pass_all ! refl (fits, ((tt, tt), tt)) $ sets ! (of_opd ! (get ! refl)) refl (tt, tt) $
    lft_new ! tt (λ β. lft_new ! tt (λ α. let K = α ∷ [] in let J = β ∷ [] in
    -- [the two tokens; the block; the allocator; nothing]
    use0 𝓛 (raw (fact 𝓤 (J ⊑ Z.lives))) (fact_i 𝓤 (J ⊑ Z.lives) (emp 𝓤) (heap_laws.the_within J)) $ move ! (0 ∷ 3 ∷ []) $ join ! $
    use0 𝓛 (raw (fact 𝓤 (K ⊑ C.lives))) (fact_i 𝓤 (K ⊑ C.lives) (emp 𝓤) (catalogue_laws.the_within K)) $ join ! $
    feq_i ! (List Val) (vptr b o ∷ []) (vptr b o ∷ []) refl $ move ! (0 ∷ 5 ∷ []) $ join ! $ move ! (4 ∷ 0 ∷ []) $ join ! $
    nothing ! $ move ! (4 ∷ 0 ∷ []) $ join ! $ move ! (3 ∷ 0 ∷ []) $ join ! $ join ! $
    let G = triple_of 𝓛 (from_raw.signature X Y ghosts dict dd) (from_raw.spec X Y ghosts dict dd 𝓛 𝓜.mem 𝓡.returns) in
    let x : G.Ghost = (((K, (J, tt)), (full_share, (full_share, tt)), tt, (h, (block_ptr b o, tt)), (w ∷ [], (vptr b o ∷ [], tt))), v) in
    use2 𝓛 (raw (G.pre x)) (id⊢ 𝓤 _) $
    calls_at ! (framed 𝓤 𝓛.H 𝓜 𝓣) G (raw_met.met 𝓤 𝓛 𝓜 𝓡 (code.calls-std_alloc::boxed::Box::from_raw 𝓡.env wired) X Y LX LY ghosts dict dd
    (passed 𝓡.env (code.calls-std_heap::GlobalAllocator::allocate 𝓡.env wired) (code.calls-std_heap::GlobalAllocator::deallocate 𝓡.env wired) (code.calls-std_heap::GlobalAllocator::grow 𝓡.env wired) (code.calls-std_heap::GlobalAllocator::shrink 𝓡.env wired) M 𝓤 𝓛 𝓜 𝓡)
    (glues "scl_c::Destruct++none::drop" 𝓡.env (code.calls-scl_c::Destruct++none::drop 𝓡.env wired) Y LY M 𝓤 𝓛 𝓜 𝓡)) x (and_then ! (get ! refl) (and_then ! (get ! refl) (no_more !))) (λ u.
    use1 𝓛 (later (some (λ (r : B.Denot). ((‵ (flft K full_share) ⊛ ‵ (flft J full_share) ⊛ ‵ ftrue) ⊛ ‵ (B.own_val r (u ∷ []))) ⊛
    some (λ (ls : Lasts (from_raw.ended X Y ghosts dict dd) x.0.0 x.0.3). ‵ (lasts (from_raw.ended X Y ghosts dict dd) x.0.0 x.0.3 ls) ⊛ (raw (fact 𝓤 (r.value ≡ v)) ⊛ raw (fact 𝓤 (r.alloc ≡ h))))))) (id⊢ 𝓤 _) $
    await ! tt $ pick ! (λ r. split ! $ move ! (1 ∷ []) $ drop ! $ split ! $ drop ! $
    peeks ! B (Is B) (shows 𝓛 B) r (u ∷ []) (λ good. lands_as ! refl refl (((boxed_laws.the_field_loose C Z ghosts LC LZ).lawful 𝓛).typed r (u ∷ []) good).0 $
    -- [the box]
    let D = triple_of 𝓛 g.signature (g.spec 𝓛 𝓜.mem 𝓡.returns) in let y : D.Ghost = ((tt, tt, tt, (r, tt), (u ∷ [], tt)), tt) in
    nothing ! $ move ! (1 ∷ 0 ∷ []) $ join ! $ nothing ! $ join ! $ nothing ! $ move ! (1 ∷ 0 ∷ []) $ use2 𝓛 (raw (D.pre y)) (id⊢ 𝓤 _) $
    calls_at ! (framed 𝓤 𝓛.H 𝓜 𝓣) D (met 𝓤 𝓛 𝓜 𝓡 (code.calls-scl_c::catalogue::discard 𝓡.env wired)) y (and_then ! (get ! refl) (no_more !)) (λ t.
    use1 𝓛 (later (some (λ (n : Unit {0}). (‵ ftrue ⊛ ‵ (unit.own_val n (t ∷ []))) ⊛ some (λ (ls : Lasts g.ended y.0.0 y.0.3). ‵ (lasts g.ended y.0.0 y.0.3 ls) ⊛ ‵ ftrue)))) (id⊢ 𝓤 _) $
    await ! tt $ pick ! (λ n. split ! $ split ! $ drop ! $ feq_l ! (λ is_unit. drop ! $
    lands_as ! (ap only is_unit) refl (tt, tt) $ sets ! (of_opd ! (unit_lit !)) refl (tt, tt) $
    returns ! (look_at ! 0 refl) $ free_all ! refl $
    nothing ! $ feq_i ! (List Val) (vunit ∷ []) (vunit ∷ []) refl $ nothing ! $ nothing ! $ join ! $ nothing ! $ join ! $ nothing ! $
    by ! (leaves 𝓛 f.ended stayed c z vunit tt (tt, (tt, tt)) (tt, (tt, tt))))))))))))))))
