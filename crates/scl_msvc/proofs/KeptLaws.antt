-- Lists carry options of the kinds that the checks of tables are for, and unknown ones.
use Rattle.std.proofs.Common.{◌≡◌, ℕ, Bool, true, false, cond, List, [], ◌∷◌, map, refl, arith}
use Rattle.std.specs.List.{list_any}
use Rattle.std.specs.Prelude.{codes}
use Rattle.std.specs.Str.{bytes_eq}
use Rattle.scl_values.specs.Cuts.{Cut, raw, unknown, flag, with_value}
use Rattle.scl_values.specs.Seen.{shown}
use Rattle.scl_args.specs.Wrapped.{wrapped_apart, wrapped_joined}
use Rattle.scl_args.specs.Commands.{Inner}
use Rattle.scl_args.specs.Origins.{IsKept}
use Rattle.scl_args.specs.Promises.{inner_of}
use Rattle.scl_args.proofs.CommandLaws.{IsList}
use Rattle.scl_args.proofs.RawLaws.{HasNoRaws}
use Rattle.scl_gnu_reading.specs.declared.gcc.data.Kind as gnu
use Rattle.scl_gnu_reading.specs.ClangRows.{clang_tables}
use Rattle.scl_msvc_reading.specs.contracts.msvc.data.KindPartialEq.TheImpl as kinds
use Rattle.scl_msvc_reading.specs.contracts.msvc.place.PlacePartialEq.TheImpl.{ghosts}
use Rattle.scl_msvc_reading.specs.declared.msvc.data.Kind.{Kind}
use Rattle.scl_msvc_reading.specs.declared.msvc.data.Kind.TheVariants as kind
use Rattle.scl_msvc_reading.specs.declared.msvc.place.Place.{Place}
use Rattle.scl_msvc_reading.specs.declared.msvc.place.Place.TheVariants as places
use Rattle.scl_msvc_reading.specs.Again.{is_list, carried, carried_inner}
use Rattle.scl_msvc_reading.specs.Inners.{inner_place, goes_inside_to}
use Rattle.scl_msvc_reading.specs.Places.{place, goes_to, side_of_flag}
use Rattle.scl_msvc.specs.Promises.{handed_on}
use Rattle.scl_msvc.specs.ReadAgain.{list_of}
use Rattle.scl_msvc_reading.specs.Rows.{msvc_tables}

-- ---- places

pub same-list : (a there : Place) → is_list there ≡ true → ghosts.eq a there ≡ true → is_list a ≡ true
same-list a there l e = grind arith

-- each word for an inner line follows its wrapper
abbrev pub wrapped : Inner Kind gnu.Kind → List ℕ → List (List ℕ)
wrapped i w = cond (bytes_eq i.flag (codes "-Xclang")) (wrapped_apart (codes "-Xclang") w) (wrapped_joined (codes "-clang:") w)

module _ (there : Place) (lists : is_list there ≡ true) where
  keeps : (dashes : Bool) (c : Cut Kind) → goes_to there (shown c) ≡ true → IsKept dashes carried c
  keeps dashes (raw w) e = absurd (let no : false ≡ true = same-list places.Nowhere there lists e in cc)
  keeps dashes (unknown w) e = tt
  keeps dashes (flag row) e = tt
  keeps dashes (with_value row v h) e = same-list (place row.kind) there lists e

  keeps_inner : (c : Cut gnu.Kind) → goes_inside_to there (shown c) ≡ true → IsKept false carried_inner c
  keeps_inner (raw w) e = refl
  keeps_inner (unknown w) e = tt
  keeps_inner (flag row) e = tt
  keeps_inner (with_value row v h) e = same-list (inner_place row.kind) there lists e

  nowhere : ghosts.eq places.Nowhere there ≡ false
  nowhere = elim (ghosts.eq places.Nowhere there) as (λ b. ghosts.eq places.Nowhere there ≡ b → b ≡ false) [
    | true ↦ λ e. absurd (let no : false ≡ true = same-list places.Nowhere there lists e in cc)
    | false ↦ λ e. refl
  ] refl

  pub no-raws : HasNoRaws (list_of there)
  no-raws = record { carries_none = λ w. nowhere; adds_none = refl }

  pub is-list : (dashes : Bool) (xclang clang : List (Cut gnu.Kind)) →
      IsList msvc_tables dashes clang_tables carried carried_inner side_of_flag wrapped (map inner_of (handed_on xclang clang)) (list_of there)
  is-list dashes xclang clang = record { keeps = keeps dashes; keeps_inner = keeps_inner; adds_none = (refl, (refl, tt)) }

-- ---- kinds

abbrev pub is_kind : Kind → Kind → Bool
is_kind k other = list_any (λ x. kinds.ghosts.eq x other) (k ∷ [])

pub compiles-alone : (x : Kind) → is_kind kind.DoCompilation x ≡ true → x ≡ kind.DoCompilation
compiles-alone kind.DoCompilation e = refl
compiles-alone _ e = absurd (cc)
