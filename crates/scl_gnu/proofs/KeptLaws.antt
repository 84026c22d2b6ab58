-- Lists carry options of the kinds that the checks of tables are for, and unknown ones.
use Rattle.std.proofs.Common.{◌≡◌, Bool, true, false, List, [], refl, arith}
use Rattle.scl_values.specs.Cuts.{Cut, raw, unknown, flag, with_value}
use Rattle.scl_values.specs.Each.{Each}
use Rattle.scl_args.specs.Options.{side_of_flag}
use Rattle.scl_values.specs.Row.{Row}
use Rattle.scl_values.specs.Seen.{Plain, shown}
use Rattle.scl_args.specs.Wrapped.{wrapped_apart}
use Rattle.scl_args.specs.Commands.{Inner, values_at, raw_words}
use Rattle.scl_args.specs.Origins.{IsKept}
use Rattle.scl_args.proofs.CommandLaws.{IsList}
use Rattle.scl_args.proofs.RawLaws.{HasNoRaws}
use Rattle.std.specs.Prelude.{codes}
use Rattle.scl_gnu_reading.specs.declared.gcc.data.Kind.{Kind}
use Rattle.scl_gnu_reading.specs.declared.gcc.data.Kind.TheVariants as kind
use Rattle.scl_gnu_reading.specs.contracts.gcc.place.PlacePartialEq.TheImpl.{ghosts}
use Rattle.scl_gnu_reading.specs.declared.gcc.place.Place.{Place}
use Rattle.scl_gnu_reading.specs.declared.gcc.place.Place.TheVariants as places
use Rattle.scl_gnu_reading.specs.Again.{is_list, carried, carried_inner}
use Rattle.scl_gnu_reading.specs.ClangRows.{clang_tables}
use Rattle.scl_gnu_reading.specs.Inners.{inner_place, goes_inside_to}
use Rattle.scl_gnu_reading.specs.Places.{place, goes_to}
use Rattle.scl_gnu.specs.OwnTables.{is_kind}
use Rattle.scl_gnu.specs.ReadAgain.{list_of}

-- ---- places

pub same-list : (a there : Place) → is_list there ≡ true → ghosts.eq a there ≡ true → is_list a ≡ true
same-list a there l e = grind arith

module _ (there : Place) (lists : is_list there ≡ true) where
  keeps : (dashes : Bool) (c : Cut Kind) → goes_to there (shown c) ≡ true → IsKept dashes carried c
  keeps dashes (raw w) e = absurd (let no : false ≡ true = same-list places.Nowhere there lists e in cc)
  keeps dashes (unknown w) e = tt
  keeps dashes (flag row) e = tt
  keeps dashes (with_value row v h) e = same-list (place row.kind) there lists e

  keeps_inner : (c : Cut Kind) → goes_inside_to there (shown c) ≡ true → IsKept false carried_inner c
  keeps_inner (raw w) e = refl
  keeps_inner (unknown w) e = tt
  keeps_inner (flag row) e = tt
  keeps_inner (with_value row v h) e = same-list (inner_place row.kind) there lists e

  nowhere : ghosts.eq places.Nowhere there ≡ false
  nowhere = elim (ghosts.eq places.Nowhere there) as (λ b. ghosts.eq places.Nowhere there ≡ b → b ≡ false) [
    | true ↦ λ e. absurd (let no : false ≡ true = same-list places.Nowhere there lists e in cc)
    | false ↦ λ e. refl
  ] refl

  pub no-raws : (added : List (Plain Kind)) → raw_words added ≡ [] → HasNoRaws (list_of there added)
  no-raws added none = record { carries_none = λ w. nowhere; adds_none = none }

  pub is-list : (tables : List (List (Row Kind))) (dashes : Bool) (inners : List (Inner Kind Kind)) (added : List (Plain Kind)) → Each (λ i. values_at i.flag added ≡ []) inners
      → IsList tables dashes clang_tables carried carried_inner side_of_flag (λ i w. wrapped_apart (codes "-Xclang") w) inners (list_of there added)
  is-list tables dashes inners added none = record { keeps = keeps dashes; keeps_inner = keeps_inner; adds_none = none }

-- ---- kinds

pub compiles-alone : (x : Kind) → is_kind kind.DoCompilation x ≡ true → x ≡ kind.DoCompilation
compiles-alone kind.DoCompilation e = refl
compiles-alone _ e = absurd (cc)

pub target-alone : (x : Kind) → is_kind kind.DepTarget x ≡ true → x ≡ kind.DepTarget
target-alone kind.DepTarget e = refl
target-alone _ e = absurd (cc)
