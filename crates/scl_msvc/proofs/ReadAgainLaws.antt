-- The command of a record of Msvc is read again.
use Rattle.std.proofs.Common.{◌≡◌, ℕ, Bool, true, false, List, [], ◌∷◌, ◌++◌, map, Option, Some, Ok, None, refl, sym, ap, subst, ◌∙◌, append_assoc}
use Rattle.std.proofs.lemmas.List.{append-nil}
use Rattle.std.specs.List.{flat_map, list_all}
use Rattle.std.specs.Prelude.{codes, not, ◌||◌}
use Rattle.scl_values.specs.Cuts.{Cut, cut}
use Rattle.scl_values.specs.Each.{Each}
use Rattle.scl_args.specs.Options.{last_flag, texts}
use Rattle.scl_values.specs.Row.{Row, row, apart}
use Rattle.scl_values.specs.Seen.{Seen, Plain, shown}
use Rattle.scl_values.specs.Seen as plain
use Rattle.scl_values.specs.Tables.{owner_in, all_rows}
use Rattle.scl_args.specs.Wrapped.{wrapped_apart, wrapped_joined}
use Rattle.scl_args.specs.Commands.{Said, carried, values_at, IsReadAgain}
use Rattle.scl_args.specs.Commands as command
use Rattle.scl_args.specs.Origins.{IsClear, AreClear}
use Rattle.scl_args.specs.Promises.{Line, said_by}
use Rattle.scl_args.specs.Reads.{Reads}
use Rattle.scl_args.proofs.CommandLaws.{IsInner, list-again, command-again}
use Rattle.scl_args.specs.OwnWords.{is_bare}
use Rattle.scl_args.proofs.FoundLaws.{last-flag, flag-again}
use Rattle.scl_args.proofs.ReadsLaws.{reads-append, reads-apart, reads-nil}
use Rattle.scl_args.proofs.ValuesLaws.{HaveOwnFlags}
use Rattle.scl_files.specs.declared.expand.ExpansionKind.TheVariants as expansions
use Rattle.scl_text.specs.declared.language.Language.{Language}
use Rattle.scl_text.specs.declared.language.Language.TheVariants as languages
use Rattle.scl_text.specs.Commands.{object_of}
use Rattle.scl_files.specs.Expand.{expand}
use Rattle.scl_text.specs.Records.{Parsed}
use Rattle.scl_files.specs.Views.{Viewed}
use Rattle.scl_gnu_reading.specs.declared.gcc.data.Kind as gnu
use Rattle.scl_gnu_reading.specs.ClangRows.{clang_tables}
use Rattle.scl_msvc_reading.specs.declared.msvc.data.Kind.{Kind}
use Rattle.scl_msvc_reading.specs.declared.msvc.data.Kind.TheVariants as kind
use Rattle.scl_msvc_reading.specs.declared.msvc.place.Place.{Place}
use Rattle.scl_msvc_reading.specs.declared.msvc.place.Place.TheVariants as places
use Rattle.scl_msvc_reading.specs.Again as again
use Rattle.scl_msvc.specs.Building.{command_words, input_words, list_words}
use Rattle.scl_msvc_reading.specs.FixedTests.{Found}
use Rattle.scl_msvc_reading.specs.Inners as inners
use Rattle.scl_msvc_reading.specs.Inners.{inner_list}
use Rattle.scl_msvc_reading.specs.Kinds.{of}
use Rattle.scl_msvc_reading.specs.Places.{side_of_flag, words_at}
use Rattle.scl_msvc.specs.ReadAgain as msvc
use Rattle.scl_msvc.specs.Promises.{handed_on, msvc_line}
use Rattle.scl_msvc.specs.ReadAgain.{list_of, parts, outer_options_of, inner_options_of}
use Rattle.scl_msvc_reading.specs.Readings.{reading}
use Rattle.scl_msvc_reading.specs.Recordings.{all_words_at, record_of}
use Rattle.scl_msvc_reading.specs.Rows.{msvc_rows, msvc_tables}
use Rattle.scl_msvc_reading.specs.Verdicts.{verdict}
use Rattle.scl_msvc_reading.proofs.CheckLaws.{msvc_passes, inner_passes, xclang_alone, clang_alone}
use Rattle.scl_msvc.proofs.InputLaws.{reads-output, reads-clang, reads-input}
use Rattle.scl_msvc.proofs.KeptLaws.{wrapped, no-raws, is-list, is_kind, compiles-alone}
use Rattle.scl_msvc.proofs.ReadingLaws.{HasFound, is-read, object-found}

abbrev own : List ℕ → Option (Row Kind)
own = owner_in msvc_tables

xclang_row : Row Kind
xclang_row = row (codes "-Xclang") kind.XClang apart

compile_flags : list_all (λ row. not (is_kind kind.DoCompilation row.kind) || is_bare row.shape) (all_rows msvc_tables) ≡ true
unfolding msvc_rows
compile_flags = refl

reads-xclang : (dashes : Bool) (w : List ℕ) → Reads own dashes (codes "-Xclang" ∷ w ∷ []) (plain.value (codes "-Xclang") kind.XClang w ∷ [])
unfolding msvc_rows xclang_row
reads-xclang true w = reads-apart own true xclang_row w refl (record { is = refl; no_mark = refl })
reads-xclang false w = reads-apart own false xclang_row w refl (record { is = refl; no_mark = refl })

four : {A : Type 0} (a b c d : List A) → a ++ (b ++ (c ++ (d ++ []))) ≡ a ++ b ++ c ++ d
four a b c d = ap (λ x. a ++ (b ++ (c ++ x))) (append-nil d) ∙ simp append_assoc

-- the options at the end have no words for inner command lines
abbrev HasNoHanded : List (Plain Kind) → Type 0
HasNoHanded options = (values_at (codes "-Xclang") options ≡ []) × ((values_at (codes "-clang:") options ≡ []) × Unit {0})

none-input : (is_said : Bool) (l : Language) (x : List ℕ) → HasNoHanded (msvc.input_option is_said l x ∷ [])
none-input true languages.C x = (refl, (refl, tt))
none-input true languages.Cxx x = (refl, (refl, tt))
none-input true _ x = (refl, (refl, tt))
none-input false l x = (refl, (refl, tt))

none-behind : (marked is_said : Bool) (l : Language) (x : List ℕ) → HasNoHanded (msvc.mark_option marked ++ msvc.input_option is_said l x ∷ [])
none-behind true is_said l x = none-input is_said l x
none-behind false is_said l x = none-input is_said l x

-- ---- the command of a record

module _ (is_clang : Bool) (ws : List (List ℕ)) (xclang clang : List (Cut gnu.Kind))
    (xclang_clear : AreClear (owner_in clang_tables) false (map shown xclang)) (clang_clear : AreClear (owner_in clang_tables) false (map shown clang)) where
  abbrev cs : List (Cut Kind)
  cs = (cut own is_clang ws).options

  abbrev os : List (Seen Kind)
  os = map shown cs

  abbrev Printed : List (List ℕ) → List (Plain Kind) → Type 0
  Printed words options = Reads own is_clang words options

  abbrev line : Line Kind gnu.Kind
  line = record { options = cs; handed_on = handed_on xclang clang }

  abbrev said : Said Kind gnu.Kind
  said = said_by line

  abbrev inside : inners.BothInner
  inside = record { xclang = map shown xclang; clang = map shown clang }

  are-inners : Each (IsInner msvc_tables is_clang clang_tables again.carried again.carried_inner side_of_flag wrapped) said.inners
  are-inners = (
    record { clear = xclang_clear; wraps = reads-xclang is_clang; alone = xclang_alone },
    (record { clear = clang_clear; wraps = reads-clang is_clang; alone = clang_alone }, tt),
  )

  own-flags : HaveOwnFlags said.inners
  own-flags = (((refl, refl), tt), (tt, tt))

  -- ---- in front

  reads-compile : (f : List ℕ) → last_flag (of (kind.DoCompilation ∷ [])) os ≡ Some f → Printed (f ∷ []) (plain.flag f kind.DoCompilation ∷ [])
  reads-compile f e =
      let o = last-flag msvc_tables is_clang (of (kind.DoCompilation ∷ [])) ws f e in
      subst (λ x. Printed (x ∷ []) (plain.flag x kind.DoCompilation ∷ [])) o.2
      (flag-again msvc_tables is_clang (is_kind kind.DoCompilation) compile_flags kind.DoCompilation compiles-alone (of (kind.DoCompilation ∷ [])) (λ x. refl) o.0 o.1)

  -- ---- the lists

  module _ (clear : Each IsClear cs) where
    are_clear : AreClear own is_clang os
    are_clear = record { words = ws; are = refl; clear = clear }

    -- the words of a list, as its parts give them
    words-are : (there : Place) →
        let x = flat_map (wrapped_apart (codes "-Xclang")) (inner_list there inside.xclang) in
        let c = flat_map (wrapped_joined (codes "-clang:")) (inner_list there inside.clang) in
        words_at there os ++ (x ++ (c ++ [])) ++ [] ≡ all_words_at there os inside
    words-are there =
        let x = flat_map (wrapped_apart (codes "-Xclang")) (inner_list there inside.xclang) in
        let c = flat_map (wrapped_joined (codes "-clang:")) (inner_list there inside.clang) in
        append-nil (words_at there os ++ (x ++ (c ++ []))) ∙ ap (λ v. words_at there os ++ (x ++ v)) (append-nil c)

    reads-list : (there : Place) → again.is_list there ≡ true → Printed (all_words_at there os inside) (carried said (list_of there))
    reads-list there lists = subst (λ vs. Printed vs (carried said (list_of there))) (words-are there)
        (list-again msvc_tables is_clang clang_tables again.carried again.carried_inner side_of_flag wrapped msvc_passes inner_passes said are_clear are-inners own-flags
        (list_of there) (is-list there lists is_clang xclang clang) [] (reads-nil own is_clang))

    module _ (directory : List ℕ) (view : Viewed) (f : Found) (has : HasFound os f) (unrefused : Each (λ o. verdict is_clang [] o ≡ None) os) where
      abbrev record_is : Parsed
      record_is = record_of directory view os inside f

      abbrev made : command.Parts Kind gnu.Kind
      made = parts record_is f.object

      reads-lists : Printed (list_words record_is) (flat_map (carried said) made.lists)
      reads-lists = subst (λ vs. Printed vs (flat_map (carried said) made.lists))
          (four record_is.preprocessor_args record_is.dependency_args record_is.unhashed_args record_is.common_args)
          (reads-append own is_clang _ _ _ _ (reads-list places.Preprocessor refl)
          (reads-append own is_clang _ _ _ _ (reads-list places.Dependency refl)
          (reads-append own is_clang _ _ _ _ (reads-list places.Unhashed refl)
          (reads-append own is_clang _ _ _ _ (reads-list places.Common refl) (reads-nil own is_clang)))))

      abbrev front : List (List ℕ)
      front = f.compile_flag ∷ (codes "-Fo" ++ f.object) ∷ []

      pub record-again : IsReadAgain msvc_tables is_clang clang_tables said made (command_words record_is f.object)
      record-again =
          command-again msvc_tables is_clang clang_tables again.carried again.carried_inner side_of_flag wrapped msvc_passes inner_passes said are_clear are-inners own-flags
          made front (list_words record_is) (input_words record_is)
          (record {
            lists = (
              is-list places.Preprocessor refl is_clang xclang clang,
              (
                is-list places.Dependency refl is_clang xclang clang,
                (is-list places.Unhashed refl is_clang xclang clang, (is-list places.Common refl is_clang xclang clang, tt)),
              ),
            );
            no_raws = (no-raws places.Preprocessor refl, (no-raws places.Dependency refl, (no-raws places.Unhashed refl, (no-raws places.Common refl, tt))));
            front_read = reads-append own is_clang _ _ _ _ (reads-compile f.compile_flag has.flag_is) (reads-output is_clang f.object);
            back_read = reads-input is_clang ws f.language f.input has.input_is unrefused has.language_is;
            none_in_front = (refl, (refl, tt));
            none_behind = none-behind record_is.double_dash_input record_is.msvc_explicit_language f.language f.input;
          }) reads-lists

-- ---- the command of a reading

pub command-read : (is_clang : Bool) (directory : List ℕ) (view : Viewed) (words : List (List ℕ)) (p : Parsed) (object : List ℕ) → reading is_clang directory view words ≡ Ok p → object_of p ≡ Some object
    → IsReadAgain msvc_tables is_clang clang_tables (said_by (msvc_line is_clang directory view words)) (parts p object) (command_words p object)
command-read is_clang directory view words p object e has_object =
    let r = is-read is_clang directory view words p e in
    let os = map shown (outer_options_of is_clang directory view words) in
    let xclang = inner_options_of kind.XClang directory view os in
    let clang = inner_options_of kind.Clang directory view os in
    let found = object-found directory view os (record { xclang = map shown xclang; clang = map shown clang }) r.tested in
    let both : Some r.tested.object ≡ Some object = sym found ∙ (ap object_of r.is ∙ has_object) in
    let same : r.tested.object ≡ object = cc in
    let words_of = λ (k : Kind). expand expansions.Gnu directory view.files (texts (of (k ∷ [])) os) in
    let said = said_by (msvc_line is_clang directory view words) in
    subst (λ x. IsReadAgain msvc_tables is_clang clang_tables said (parts p x) (command_words p x)) same
    (subst (λ q. IsReadAgain msvc_tables is_clang clang_tables said (parts q r.tested.object) (command_words q r.tested.object)) r.is
    (record-again is_clang (expand expansions.Msvc directory view.files words) xclang clang
    (record { words = words_of kind.XClang; are = refl; clear = r.xclang_clear }) (record { words = words_of kind.Clang; are = refl; clear = r.clang_clear })
    r.clear directory view r.tested r.has r.unrefused))
