-- A walk opens a `Result` whose two types have one machine value each.
use mathlib.Core.Path.{◌≡◌, refl, ap, ◌∙◌, subst}
use mathlib.Core.Bool.{Bool, true, false, ◌&&◌}
use mathlib.Core.List.{List, [], ◌∷◌, ◌++◌}
use lib.Dec.{T}
use seplogic.Ra.Ura.{Ura}
use mir.Syntax.{Ty}
use mir.Val.{Val, of_list, has_ty, WT}
use types.Logic.{Logic}
use types.Kit.{Goal, Seq, Item, ‵, ◌$◌, move, drop, rewrite, fsplit, fpick, feq_l}
use types.Match.{live}
use denote.RattleType.{RattleType}
use denote.Laws.{Typed, Is, shows, Lawful}
use denote.Steps.{only, peeks}
use Rattle.std.specs.declared.result.Result.TheVariants.{Ok, Err}
use Rattle.std.specs.contracts.result.Result as result

-- a machine value has this type
abbrev pub Fits : Ty → Val → Type 0
Fits τ v = T (has_ty τ v) × WT v

alone : (τ : Ty) (vs : List Val) → Typed (τ ∷ []) vs → (v : Val) × ((vs ≡ v ∷ []) × Fits τ v)
alone τ [] t = absurd t
alone τ (v ∷ []) t = (v, (refl, t.0))
alone τ (v ∷ w ∷ vs) t = absurd t.1

pub and_true : (b : Bool) → T b → T (b && true)
and_true true t = tt
and_true false t = absurd t

module _ {M : Type 1} {𝓤 : Ura M} {𝓛 : Logic 𝓤} {K : Type 0} {Γ : List (Item 𝓤)} {G : Goal 𝓤 𝓛.H} where
  -- what is owned of a value of a type of one machine value is owned at that one
  pub tells_one : K → (R : RattleType) → Lawful 𝓛 R → (τ : Ty) → R.mir ≡ τ ∷ [] → (x : R.Denot) (vs : List Val)
      → ((v : Val) → vs ≡ v ∷ [] → Fits τ v → Seq K 𝓛 (‵ (R.own_val x (v ∷ [])) ∷ Γ) G) → Seq K 𝓛 (‵ (R.own_val x vs) ∷ Γ) G
  tells_one t R L τ one x vs k =
      peeks t R (Is R) (shows 𝓛 R) x vs (λ is. let a = alone τ vs (subst (λ (τs : List Ty). Typed τs vs) one (L.typed x vs is)) in
      rewrite t 0 (λ (us : List Val). ‵ (R.own_val x us)) a.1.0 refl $ k a.0 a.1.0 a.1.1)

  module _ (R R' : RattleType) (L : Lawful 𝓛 R) (L' : Lawful 𝓛 R') (τ τ' : Ty) (one : R.mir ≡ τ ∷ []) (one' : R'.mir ≡ τ' ∷ []) where
    pub answers : K → (d : (result.the_row R R').Denot) (u : Val)
        → ((x : R.Denot) (v : Val) → d ≡ Ok x → u ≡ live 0 (of_list (v ∷ [])) → Fits τ v → Seq K 𝓛 (‵ (R.own_val x (v ∷ [])) ∷ Γ) G)
        → ((x : R'.Denot) (v : Val) → d ≡ Err x → u ≡ live 1 (of_list (v ∷ [])) → Fits τ' v → Seq K 𝓛 (‵ (R'.own_val x (v ∷ [])) ∷ Γ) G)
        → Seq K 𝓛 (‵ ((result.the_row R R').own_val d (u ∷ [])) ∷ Γ) G
    answers t (Ok x) u ok err =
        fpick t (λ us. fsplit t $ feq_l t (λ e. fpick t (λ vss. fsplit t $ feq_l t (λ e'. fsplit t $ move t (1 ∷ []) $ drop t $
        tells_one t R L τ one x vss.0 (λ v e'' fits. ok x v refl (ap only e ∙ ap (λ (ws : List Val). live 0 (of_list ws)) (e' ∙ ap (λ (ws : List Val). ws ++ []) e'')) fits)))))
    answers t (Err x) u ok err =
        fpick t (λ us. fsplit t $ feq_l t (λ e. fpick t (λ vss. fsplit t $ feq_l t (λ e'. fsplit t $ move t (1 ∷ []) $ drop t $
        tells_one t R' L' τ' one' x vss.0 (λ v e'' fits. err x v refl (ap only e ∙ ap (λ (ws : List Val). live 1 (of_list ws)) (e' ∙ ap (λ (ws : List Val). ws ++ []) e'')) fits)))))
