-- The command of a record of Gcc or Clang is read again.
use Rattle.std.proofs.Common.{◌≡◌, ℕ, Bool, true, false, not, List, [], ◌∷◌, ◌++◌, map, Option, None, Some, Ok, refl, sym, ap, subst, ◌∙◌}
use Rattle.std.proofs.lemmas.List.{append-nil}
use Rattle.std.specs.List.{flat_map}
use Rattle.std.specs.Prelude.{codes, is_some, unwrap_or}
use Rattle.std.specs.Str.{bytes_eq}
use Rattle.scl_values.specs.Cuts.{Cut, cut}
use Rattle.scl_values.specs.Each.{Each}
use Rattle.scl_args.specs.Options.{last_flag, last_text, dash_words, is_behind_dashes, side_of_flag, texts}
use Rattle.scl_values.specs.Row.{Row}
use Rattle.scl_values.specs.Seen.{Seen, Plain, shown, flag_of}
use Rattle.scl_values.specs.Seen as plain
use Rattle.scl_values.specs.Tables.{owner_in}
use Rattle.scl_args.specs.Commands.{Inner, Said, carried, values_at, IsReadAgain}
use Rattle.scl_args.specs.Commands as command
use Rattle.scl_args.specs.Origins.{IsClear, AreClear, input_words}
use Rattle.scl_args.specs.Promises.{HandedOn, inner_of, said_by}
use Rattle.scl_args.specs.Reads.{read, cleanly, Reads}
use Rattle.scl_args.proofs.CommandLaws.{list-again, command-again}
use Rattle.scl_args.proofs.FoundLaws.{last-flag, flag-again}
use Rattle.scl_args.proofs.InputLaws.{ends-input}
use Rattle.scl_args.proofs.MarkLaws.{marked-dashes, raw-is_input}
use Rattle.scl_args.proofs.OtherValueLaws.{other-value, flag-so}
use Rattle.scl_args.proofs.ReadsLaws.{reads-append, reads-nil}
use Rattle.scl_args.proofs.ValuesLaws.{each-map}
use Rattle.scl_files.specs.declared.expand.ExpansionKind.TheVariants as expansions
use Rattle.scl_text.specs.declared.language.Language.{Language}
use Rattle.scl_text.specs.declared.records.CCompilerKind.{CCompilerKind}
use Rattle.scl_text.specs.declared.records.ColorMode.{ColorMode}
use Rattle.scl_text.specs.declared.records.ColorMode.TheVariants as colors
use Rattle.scl_text.specs.Commands.{object_of}
use Rattle.scl_text.specs.JudgedWords.{options_of}
use Rattle.scl_files.specs.Expand.{expand}
use Rattle.scl_files.specs.Paths.{with_extension}
use Rattle.scl_text.specs.Records.{Parsed}
use Rattle.scl_files.specs.Views.{Viewed}
use Rattle.scl_gnu_reading.specs.declared.gcc.data.Kind.{Kind}
use Rattle.scl_gnu_reading.specs.declared.gcc.data.Kind.TheVariants as kind
use Rattle.scl_gnu_reading.specs.declared.gcc.place.Place.{Place}
use Rattle.scl_gnu_reading.specs.declared.gcc.place.Place.TheVariants as places
use Rattle.scl_gnu_reading.specs.Again as again
use Rattle.scl_gnu.specs.Building.{language_words, color_words, front_words, list_words, back_words, command_words}
use Rattle.scl_gnu_reading.specs.ClangRows.{clang_tables}
use Rattle.scl_gnu_reading.specs.FixedTests.{Found}
use Rattle.scl_gnu_reading.specs.Kinds.{of, any, is_input}
use Rattle.scl_gnu_reading.specs.Places.{words_at}
use Rattle.scl_gnu.specs.ReadAgain.{language_option, color_option, split_dwarf_option, depfile_option, target_options, list_of, line_of, parts, inner_options_of}
use Rattle.scl_gnu_reading.specs.Readings.{reading}
use Rattle.scl_gnu_reading.specs.Recordings.{is_clang, needs_target, added_common, added_depfile, added_dependency, all_words_at, dependency_words, record_of}
use Rattle.scl_gnu_reading.proofs.CheckLaws.{inner_passes}
use Rattle.scl_gnu.specs.OwnTables.{is_kind}
use Rattle.scl_gnu.proofs.KeptLaws.{no-raws, compiles-alone, target-alone, is-list}
use Rattle.scl_gnu.proofs.ReadingLaws.{HasFound, is-read}
use Rattle.scl_gnu_reading.proofs.ObjectLaws.{object-found}
use Rattle.scl_gnu.proofs.OwnWordsLaws.{xclang, wrapped, OwnWords, AreInners, not-so, none-front, none-back, none-define, none-depfile, no_raw-define, no_raw-target, five}

-- ---- the command of a record

module _ (compiler : CCompilerKind) (tables : List (List (Row Kind))) (own_words : OwnWords tables (is_clang compiler)) (ws : List (List ℕ))
    (inner : List (Seen Kind)) (inners : List (Inner Kind Kind)) (handed : AreInners tables (is_clang compiler) inner inners) where
  abbrev dashes : Bool
  dashes = is_clang compiler

  abbrev own : List ℕ → Option (Row Kind)
  own = owner_in tables

  abbrev cs : List (Cut Kind)
  cs = (cut own dashes ws).options

  abbrev os : List (Seen Kind)
  os = map shown cs

  abbrev Printed : List (List ℕ) → List (Plain Kind) → Type 0
  Printed words options = Reads own dashes words options

  abbrev said : Said Kind Kind
  said = record { options = os; inners = inners }

  none-of : (added : List (Plain Kind)) → values_at xclang added ≡ [] → Each (λ i. values_at i.flag added ≡ []) inners
  none-of added e = each-map (λ i. i.flag ≡ xclang) (λ i. values_at i.flag added ≡ []) (λ i f. ap (λ g. values_at g added) f ∙ e) inners handed.flags

  -- ---- in front

  reads-language : (text : Option (List ℕ)) → Printed (language_words text) (language_option text)
  reads-language None = reads-nil own dashes
  reads-language (Some text) = own_words.language text

  reads-compile : (f : List ℕ) → last_flag (of (kind.DoCompilation ∷ [])) os ≡ Some f → Printed (f ∷ []) (plain.flag f kind.DoCompilation ∷ [])
  reads-compile f e =
      let o = last-flag tables dashes (of (kind.DoCompilation ∷ [])) ws f e in
      subst (λ x. Printed (x ∷ []) (plain.flag x kind.DoCompilation ∷ [])) o.2
      (flag-again tables dashes (is_kind kind.DoCompilation) own_words.compile_flags kind.DoCompilation compiles-alone (of (kind.DoCompilation ∷ [])) (λ x. refl) o.0 o.1)

  reads-front : (text : Option (List ℕ)) (f object : List ℕ) → last_flag (of (kind.DoCompilation ∷ [])) os ≡ Some f →
      Printed (language_words text ++ f ∷ codes "-o" ∷ object ∷ []) (language_option text ++ plain.flag f kind.DoCompilation ∷ plain.value (codes "-o") kind.Output object ∷ [])
  reads-front text f object e = reads-append own dashes _ _ _ _ (reads-language text) (reads-append own dashes _ _ _ _ (reads-compile f e) (own_words.output object))

  -- ---- what is added

  reads-define : (is_split : Bool) (object : List ℕ) → Printed (added_common is_split object) (split_dwarf_option is_split object)
  reads-define true object = own_words.define (with_extension object (codes "dwo"))
  reads-define false object = reads-nil own dashes

  reads-depfile : (has_path : Bool) (object : List ℕ) → Printed (added_depfile has_path object) (depfile_option has_path object)
  reads-depfile true object = reads-nil own dashes
  reads-depfile false object = own_words.depfile (with_extension object (codes "d"))

  module _ (flag_at : Option (List ℕ)) (is_last : last_flag (of (kind.DepTarget ∷ [])) os ≡ flag_at) where
    reads-target : (target : List ℕ) → Printed (unwrap_or flag_at (codes "-MT") ∷ target ∷ []) (plain.value (unwrap_or flag_at (codes "-MT")) kind.DepTarget target ∷ [])
    reads-target target = elim flag_at as (λ f. last_flag (of (kind.DepTarget ∷ [])) os ≡ f → Printed (unwrap_or f (codes "-MT") ∷ target ∷ []) (plain.value (unwrap_or f (codes "-MT")) kind.DepTarget target ∷ [])) [
      | None ↦ λ e. own_words.target target
      | Some f ↦ λ e.
          let o = last-flag tables dashes (of (kind.DepTarget ∷ [])) ws f e in
          subst (λ x. Printed (x ∷ target ∷ []) (plain.value x kind.DepTarget target ∷ [])) o.2
          (other-value tables dashes again.carried side_of_flag own_words.pass (is_kind kind.DepTarget) own_words.target_flags kind.DepTarget target-alone (of (kind.DepTarget ∷ [])) (λ x. refl) o.0 o.1 target)
    ] is_last

    other-flag : bytes_eq (unwrap_or flag_at (codes "-MT")) xclang ≡ false
    other-flag = elim flag_at as (λ f. last_flag (of (kind.DepTarget ∷ [])) os ≡ f → bytes_eq (unwrap_or f (codes "-MT")) xclang ≡ false) [
      | None ↦ λ e. refl
      | Some f ↦ λ e.
          let o = last-flag tables dashes (of (kind.DepTarget ∷ [])) ws f e in
          subst (λ x. bytes_eq x xclang ≡ false) o.2
          (not-so (bytes_eq (flag_of o.0) xclang) (flag-so tables dashes (is_kind kind.DepTarget)
          (λ x. not (bytes_eq x xclang)) own_words.other_flags (of (kind.DepTarget ∷ [])) (λ x. refl) o.0 o.1))
    ] is_last

    reads-dependency : (needed has_path : Bool) (target : Option (List ℕ)) (object : List ℕ) → Printed (added_dependency needed has_path flag_at target object) (target_options needed has_path flag_at target object)
    reads-dependency true has_path target object = reads-append own dashes _ _ _ _ (reads-target (unwrap_or target object)) (reads-depfile has_path object)
    reads-dependency false has_path target object = reads-nil own dashes

    none-target : (needed has_path : Bool) (target : Option (List ℕ)) (object : List ℕ) → values_at xclang (target_options needed has_path flag_at target object) ≡ []
    none-target true has_path target object = rw other-flag (none-depfile has_path object)
    none-target false has_path target object = refl

  -- ---- at the end

  module _ (x : List ℕ) (is_text : texts is_input os ≡ x ∷ []) where
    reads-color : (color : ColorMode) → Printed (color_words color) (color_option color)
    reads-color colors.Off = reads-nil own dashes
    reads-color colors.On = own_words.color
    reads-color colors.Auto = own_words.color

    marks : (marked : Bool) → dash_words marked ++ x ∷ [] ≡ input_words marked x
    marks true = refl
    marks false = refl

    reads-back : (color : ColorMode) → let marked = is_behind_dashes is_input os in
        read own dashes (color_words color ++ (dash_words marked ++ x ∷ [])) ≡ cleanly (color_option color ++ map plain.raw (input_words marked x))
    reads-back color =
        let marked = is_behind_dashes is_input os in
        ap (λ w. read own dashes (color_words color ++ w)) (marks marked)
        ∙ ends-input own dashes (color_words color) (color_option color) marked x (reads-color color) (marked-dashes tables dashes ws is_input) (raw-is_input own dashes ws x is_text)

  -- ---- the lists

  module _ (clear : Each IsClear cs) where
    are_clear : AreClear own dashes os
    are_clear = record { words = ws; are = refl; clear = clear }

    reads-list : (there : Place) → again.is_list there ≡ true → (words : List (List ℕ)) (added : List (Plain Kind)) → Printed words added → values_at xclang added ≡ []
        → Printed (all_words_at there os inner ++ words) (carried said (list_of there added))
    reads-list there lists words added reads none =
        subst (λ vs. Printed (words_at there os ++ vs ++ words) (carried said (list_of there added))) (handed.words_are there)
        (list-again tables dashes clang_tables again.carried again.carried_inner side_of_flag wrapped own_words.pass inner_passes said are_clear handed.are handed.own_flags
        (list_of there added) (is-list there lists tables dashes inners added (none-of added none)) words reads)

    reads-plain_list : (there : Place) → again.is_list there ≡ true → Printed (all_words_at there os inner) (carried said (list_of there []))
    reads-plain_list there lists = subst (λ vs. Printed vs (carried said (list_of there []))) (append-nil (all_words_at there os inner)) (reads-list there lists [] [] (reads-nil own dashes) refl)

    module _ (directory : List ℕ) (view : Viewed) (f : Found) (has : HasFound os f) (text : Option (List ℕ)) where
      abbrev record_is : Parsed
      record_is = record_of compiler directory view os inner f

      abbrev made : command.Parts Kind Kind
      made = parts text os record_is f.object

      abbrev targets : List (Plain Kind)
      targets = target_options (needs_target f.language os) (is_some (last_text (of (kind.DepArgumentPath ∷ [])) os)) (last_flag (of (kind.DepTarget ∷ [])) os) (last_text (of (kind.DepTarget ∷ [])) os) f.object

      no-targets : values_at xclang targets ≡ []
      no-targets = none-target (last_flag (of (kind.DepTarget ∷ [])) os) refl (needs_target f.language os) (is_some (last_text (of (kind.DepArgumentPath ∷ [])) os)) (last_text (of (kind.DepTarget ∷ [])) os) f.object

      reads-dependencies : Printed (dependency_words os inner f) (carried said (list_of places.Dependency targets))
      reads-dependencies = reads-list places.Dependency refl _ targets
          (reads-dependency (last_flag (of (kind.DepTarget ∷ [])) os) refl (needs_target f.language os) (is_some (last_text (of (kind.DepArgumentPath ∷ [])) os)) (last_text (of (kind.DepTarget ∷ [])) os) f.object) no-targets

      abbrev is_split : Bool
      is_split = any (kind.SplitDwarf ∷ []) os

      reads-common : Printed (all_words_at places.Common os inner ++ added_common is_split f.object) (carried said (list_of places.Common (split_dwarf_option is_split f.object)))
      reads-common = reads-list places.Common refl _ (split_dwarf_option is_split f.object) (reads-define is_split f.object) (none-define is_split f.object)

      reads-lists : Printed (list_words record_is) (flat_map (carried said) made.lists)
      reads-lists = subst (λ vs. Printed vs (flat_map (carried said) made.lists))
          (five record_is.preprocessor_args record_is.dependency_args record_is.unhashed_args record_is.common_args record_is.arch_args)
          (reads-append own dashes _ _ _ _ (reads-plain_list places.Preprocessor refl)
          (reads-append own dashes _ _ _ _ reads-dependencies
          (reads-append own dashes _ _ _ _ (reads-plain_list places.Unhashed refl)
          (reads-append own dashes _ _ _ _ reads-common
          (reads-append own dashes _ _ _ _ (reads-plain_list places.Arch refl) (reads-nil own dashes))))))

      pub record-again : IsReadAgain tables dashes clang_tables said made (command_words text record_is f.object)
      record-again = command-again tables dashes clang_tables again.carried again.carried_inner side_of_flag wrapped own_words.pass inner_passes said are_clear handed.are handed.own_flags
          made (front_words text f.object record_is) (list_words record_is) (back_words record_is)
          (record {
            lists = (
              is-list places.Preprocessor refl tables dashes inners [] (none-of [] refl),
              (
                is-list places.Dependency refl tables dashes inners targets (none-of targets no-targets),
                (
                  is-list places.Unhashed refl tables dashes inners [] (none-of [] refl),
                  (
                    is-list places.Common refl tables dashes inners (split_dwarf_option is_split f.object) (none-of (split_dwarf_option is_split f.object) (none-define is_split f.object)),
                    (is-list places.Arch refl tables dashes inners [] (none-of [] refl), tt),
                  ),
                ),
              ),
            );
            no_raws = (
              no-raws places.Preprocessor refl [] refl,
              (
                no-raws places.Dependency refl targets (no_raw-target (needs_target f.language os) (is_some (last_text (of (kind.DepArgumentPath ∷ [])) os)) (last_flag (of (kind.DepTarget ∷ [])) os) (last_text (of (kind.DepTarget ∷ [])) os) f.object),
                (
                  no-raws places.Unhashed refl [] refl,
                  (
                    no-raws places.Common refl (split_dwarf_option is_split f.object) (no_raw-define is_split f.object),
                    (no-raws places.Arch refl [] refl, tt),
                  ),
                ),
              ),
            );
            front_read = reads-front text f.compile_flag f.object has.flag_is;
            back_read = reads-back f.input has.input_is record_is.color_mode;
            none_in_front = none-of made.front (none-front text f.compile_flag f.object);
            none_behind = none-of made.back (none-back record_is.color_mode (is_behind_dashes is_input os) f.input);
          }) reads-lists

module _ (compiler : CCompilerKind) (tables : List (List (Row Kind))) (own_words : OwnWords tables (is_clang compiler))
    (text : Language → Option (List ℕ)) (handed_on : List (Cut Kind) → List (HandedOn Kind Kind))
    (handed : (directory : List ℕ) (view : Viewed) (words : List (List ℕ)) →
    let inner = inner_options_of directory view (map shown (options_of expansions.Gnu tables (is_clang compiler) directory view words)) in
    Each IsClear inner → AreInners tables (is_clang compiler) (map shown inner) (map inner_of (handed_on inner))) where
  -- if words have a record with an object, its command is read again
  pub commands-again : (plusplus : Bool) (directory : List ℕ) (view : Viewed) (words : List (List ℕ)) (p : Parsed) (object : List ℕ) →
      reading compiler plusplus tables directory view words ≡ Ok p → object_of p ≡ Some object →
      let line = line_of tables (is_clang compiler) handed_on directory view words in
      IsReadAgain tables (is_clang compiler) clang_tables (said_by line) (parts (text p.language) (map shown line.options) p object) (command_words (text p.language) p object)
  commands-again plusplus directory view words p object e has_object =
      let r = is-read compiler plusplus tables directory view words p e in
      let os = map shown (options_of expansions.Gnu tables (is_clang compiler) directory view words) in
      let inner = inner_options_of directory view os in
      let said : Said Kind Kind = said_by (line_of tables (is_clang compiler) handed_on directory view words) in
      let found = object-found compiler directory view os (map shown inner) r.tested in
      let both : Some r.tested.object ≡ Some object = sym found ∙ (ap object_of r.is ∙ has_object) in
      let same : r.tested.object ≡ object = cc in
      subst (λ x. IsReadAgain tables (is_clang compiler) clang_tables said (parts (text p.language) os p x) (command_words (text p.language) p x)) same
      (subst (λ q. IsReadAgain tables (is_clang compiler) clang_tables said (parts (text q.language) os q r.tested.object) (command_words (text q.language) q r.tested.object)) r.is
      (record-again compiler tables own_words (expand expansions.Gnu directory view.files words) (map shown inner) (map inner_of (handed_on inner)) (handed directory view words r.inner_clear)
      r.clear directory view r.tested r.has (text r.tested.language)))
