-- Who owns a catalogue may lend it, have any number of leases of it, and have it back when they have all come back.
use Rattle.scl_c.proofs.Steps.{ℕ, [], ◌∷◌, ent, never, fst∗, flft, full_share, vptr, sem, ‵, ◌⊛◌, later, ◌$◌, ◌∵◌, !, qed, done, move, drop, use1, use2, split, fsplit, fjoin, await, nothing, contraction, lent_at, lent_at_shr_laws, ShrRef, lft_new, block_ptr, null_ptr, Ptr}
use seplogic.Ra.Ura.{Ura}
use base.Share
use base.Logic.{sep, ex, via, never_e}
use base.Fml.{Lft, Share, flent, Incl-refl}
use mir.Syntax.{erased}
use mir.Raw.{raw as raw_type}
use Rattle.std.specs.contracts.impls.GlobalAllocator.TheImpl.{ghosts}
use types.Logic.{Logic}
use types.Kit.{show, updating, now}
use types.Tokens.{lft_end, lent_back}
use denote.Lend.{lends_shr}
use denote.Memory.{lone, part_at}
use Rattle.std.specs.Global.{Global}
use Rattle.scl_c.specs.Memory.{due, lease, owned}
use Rattle.scl_catalogue.specs.declared.catalogue.Catalogue.{Catalogue}
use Rattle.scl_catalogue.specs.contracts.catalogue.Catalogue.{the_row as R}
use Rattle.scl_catalogue.proofs.catalogue.Catalogue.TheLaws.{the_row_laws, the_within}

module _ {M : Type 1} {𝓤 : Ura M} (𝓛 : Logic 𝓤) (alloc : Global) (v : Catalogue) where
  open 𝓛 use {H}

  pub lends : (p : Ptr) → ent 𝓤 (sem 𝓛 (owned alloc p v)) (H.⇛ (ex 𝓤 (λ (α : ℕ). sep 𝓤 (sem 𝓛 (lease (α ∷ [], full_share) p v)) (sem 𝓛 (due (α ∷ []) alloc p v)))))
  lends (block_ptr b o) =
      qed 𝓛 (‵ (owned alloc (block_ptr b o) v) ∷ []) ∵ fsplit ! $ updating ! $ lft_new ! tt (λ α. move ! (1 ∷ 0 ∷ []) $
      use2 𝓛 (later ((‵ ((ShrRef erased (α ∷ []) R).own_val (record { ref_ptr = (b, o); now = v }) (vptr b o ∷ [])) ⊛ ‵ (flent (α ∷ []) (part_at R full_share v b o))) ⊛ ‵ (flft (α ∷ []) full_share)))
      (lends_shr 𝓛 R erased (α ∷ []) full_share v b o R.lives (the_row_laws.shares 𝓛 v) ((α ∷ [], full_share) ∷ []) (the_within (α ∷ [])) (Incl-refl (α ∷ []))) $ await ! tt $ split ! $ split ! $
      fsplit ! $ drop ! $ nothing ! $ fjoin ! $ move ! (0 ∷ 2 ∷ []) $ fjoin ! $ move ! (1 ∷ 2 ∷ []) $ fjoin ! $ now ! $
      show ! (λ (β : ℕ). sep 𝓤 (sem 𝓛 (lease (β ∷ [], full_share) (block_ptr b o) v)) (sem 𝓛 (due (β ∷ []) alloc (block_ptr b o) v))) α $ move ! (1 ∷ 0 ∷ []) $ done !)
  lends null_ptr = via 𝓤 (never 𝓤) (fst∗ 𝓤 (never 𝓤) (sem 𝓛 (ghosts.dealloc_token alloc (raw_type (lone R.mir)) null_ptr))) (never_e 𝓤 _)

  pub comes_back : (p : Ptr) (α : ℕ) → ent 𝓤 (sep 𝓤 (sem 𝓛 (lease (α ∷ [], full_share) p v)) (sem 𝓛 (due (α ∷ []) alloc p v))) (H.⇛ (sem 𝓛 (owned alloc p v)))
  comes_back p α =
      qed 𝓛 (‵ (lease (α ∷ [], full_share) p v) ∷ ‵ (due (α ∷ []) alloc p v) ∷ []) ∵ updating ! $ fsplit ! $ drop ! $ lft_end ! tt $ move ! (1 ∷ []) $ fsplit ! $ move ! (2 ∷ 0 ∷ []) $ lent_back ! tt $ fjoin ! $ now ! $ done !

  pub parts : (p : Ptr) (κ : Lft) (q : Share) → ent 𝓤 (sem 𝓛 (lease (κ, q) p v)) (sep 𝓤 (sem 𝓛 (lease (κ, Share.left q) p v)) (sem 𝓛 (lease (κ, Share.right q) p v)))
  parts p κ q =
      qed 𝓛 (‵ (lease (κ, q) p v) ∷ []) ∵ fsplit ! $ use1 𝓛 (‵ (lent_at R p v κ) ⊛ ‵ (lent_at R p v κ)) (contraction 𝓛 (lent_at R p v) (lent_at_shr_laws R the_row_laws.shr_laws p v) κ) $ split ! $ move ! (2 ∷ []) $
      use1 𝓛 (‵ (flft κ (Share.left q)) ⊛ ‵ (flft κ (Share.right q))) (𝓛.lfts.lft_split κ q) $ split ! $ move ! (2 ∷ 0 ∷ []) $ fjoin ! $ move ! (2 ∷ 1 ∷ []) $ fjoin ! $ move ! (1 ∷ 0 ∷ []) $ done !

  pub whole : (p : Ptr) (κ : Lft) (q : Share) → ent 𝓤 (sep 𝓤 (sem 𝓛 (lease (κ, Share.left q) p v)) (sem 𝓛 (lease (κ, Share.right q) p v))) (sem 𝓛 (lease (κ, q) p v))
  whole p κ q =
      qed 𝓛 (‵ (lease (κ, Share.left q) p v) ∷ ‵ (lease (κ, Share.right q) p v) ∷ []) ∵ fsplit ! $ move ! (2 ∷ []) $ fsplit ! $ drop ! $ move ! (2 ∷ 0 ∷ []) $
      use2 𝓛 (‵ (flft κ q)) (𝓛.lfts.lft_join κ q) $ move ! (1 ∷ 0 ∷ []) $ fjoin ! $ done !
