-- The function that Rattle makes to let a catalogue go is the glue of its type.
use mathlib.Core.Path.{refl}
use mathlib.Core.List.{[], ◌∷◌}
use seplogic.Ra.Ura.{Ura}
use base.Logic.{sep, wand, via, id⊢, emp}
use base.Fml.{ftrue, fsep, flft}
use contract.BorrowLft.{◌⊑◌}
use contract.Monad.{fact}
use contract.Running.{Running}
use mir.Raw.{raw as bare}
use mir.Syntax.{Dict, impl, method, no_args, tnil, dnil}
use mir.Val.{Val}
use prog.Model.{Model}
use prog.Wired.{Wired}
use types.Kit.{‵, raw, ◌⊛◌, some, later, ◌$◌, ◌∵◌, !, qed, move, keep, use1, split, join, pick, await, frame, assume, each, show, updating, now, done}
use types.Logic.{Logic, sem}
use denote.Builtin.{unit}
use denote.Exit.{no}
use denote.Param.{arg, layout}
use denote.Param.Glue as glue
use denote.RattleType.{RattleType}
use denote.Steps.{nothing}
use denote.Triple.Clauses.{Lasts, lasts}
use denote.Triple.Spec.{Back, triple_of}
use denote.Triple.Statement.{Contract, Implies, ask_at, then, implied}
use denote.Triple.Table.{run_framed, widened}
use Rattle.scl_catalogue.specs.contracts.catalogue.Catalogue.{the_row}
use Rattle.scl_c.specs.contracts.scl_catalogue++catalogue++Catalogue+Destruct.drop as made
use Rattle.scl_c.proofs.scl_catalogue++catalogue++Catalogue+Destruct.drop.Met.{met}
use Rattle.scl_c.proofs.scl_catalogue++catalogue++Catalogue+Destruct.drop.Symbol as symbol

-- the catalogue as an argument of a call, and the table of its drop
abbrev pub X : RattleType
X = arg (bare (layout the_row)) no the_row

abbrev pub drops : Dict
drops = impl ("scl_c::scl_catalogue++catalogue++Catalogue+Destruct::drop" ∷ []) tnil dnil

module _ {M : Type 1} (𝓤 : Ura M) (𝓛 : Logic 𝓤) (𝓜 : Model 𝓤 𝓛.H) (𝓡 : Running 𝓤 𝓛.H 𝓜) where
  abbrev Made : Contract 𝓤
  Made = triple_of 𝓛 made.signature (made.spec 𝓛 𝓜.mem 𝓡.returns)

  abbrev Glue : Contract 𝓤
  Glue = triple_of 𝓛 (glue.signature X) (glue.spent 𝓛 X)

  implies : Implies 𝓤 Made Glue
  implies x =
      let y : Made.Ghost = ((tt, tt, tt, x.0.3, x.0.4), tt) in
      via 𝓤 (sep 𝓤 (Made.pre y) (then 𝓤 Made y (Glue.post x)))
      (qed 𝓛 (((‵ (flft x.0.0.0 x.0.1.0) ⊛ ‵ ftrue) ⊛ ‵ (X.own_val x.0.3.0 x.0.4.0) ⊛ ‵ ftrue) ∷ (raw (fact 𝓤 (x.0.0.0 ⊑ X.lives)) ⊛ ‵ ftrue) ∷ []) ∵
      split ! $ keep ! (1 ∷ 0 ∷ []) $ nothing ! $ join ! $ nothing ! $ move ! (1 ∷ 0 ∷ []) $ join ! $ use1 𝓛 (raw (Made.pre y)) (id⊢ 𝓤 _) $ frame ! $
      each ! (λ (v : Val). wand 𝓤 (Made.post y v) (Glue.post x v)) (λ v. assume ! (raw (Made.post y v)) $ updating ! $
      use1 𝓛 (later (some (λ (r : Unit {0}). (‵ ftrue ⊛ ‵ (unit.own_val r (v ∷ []))) ⊛ some (λ (ws : Lasts made.ended tt x.0.3). ‵ (lasts made.ended tt x.0.3 ws) ⊛ ‵ ftrue)))) (id⊢ 𝓤 _) $
      await ! tt $ pick ! (λ r. split ! $ split ! $ keep ! (3 ∷ 1 ∷ []) $ now ! $
      show ! (λ (r' : Unit {0}). sep 𝓤 (Back 𝓛 (glue.signature X) x.0 v r') ((glue.spent 𝓛 X x.0.0 x.0.3).ensures x.1 r')) r $ join ! $ frame ! $
      show ! (λ (ws : Unit {0} × Unit {0}). sep 𝓤 (sem 𝓛 (fsep ftrue ftrue)) (emp 𝓤)) (tt, tt) $ nothing ! $ nothing ! $ nothing ! $ join ! $ done !)))
      (ask_at 𝓤 Made y (Glue.post x))

  pub lets_go : Wired 𝓡.env symbol.code → glue.Met 𝓛 𝓜 𝓡 𝓡.env X drops
  lets_go wired = widened 𝓤 𝓛.H Glue 𝓜 𝓡 𝓡.env (𝓡.env symbol.name) (𝓡.env (method drops 0 no_args)) (symbol.as_method 𝓡.env wired (method drops 0 no_args) refl)
      (implied 𝓤 Made Glue implies (𝓡.run (𝓡.env symbol.name)) (run_framed 𝓤 𝓛.H 𝓜 𝓡 (𝓡.env symbol.name)) (met 𝓤 𝓛 𝓜 𝓡 wired))
