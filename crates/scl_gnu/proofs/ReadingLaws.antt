-- What an outcome Ok says of the options of a command line.
use Rattle.std.proofs.Common.{◌≡◌, ℕ, Bool, false, List, [], ◌∷◌, map, Some, Ok, ap, ◌∙◌}
use Rattle.std.specs.Prelude.{ok_or}
use Rattle.scl_values.specs.Cuts.{cut, is_dangling}
use Rattle.scl_values.specs.Each.{Each}
use Rattle.scl_args.specs.Empties.{refusing_empty}
use Rattle.scl_args.specs.Options.{last_flag, last_text, texts}
use Rattle.scl_values.specs.Row.{Row}
use Rattle.scl_values.specs.Seen.{Seen, shown}
use Rattle.scl_values.specs.Tables.{owner_in}
use Rattle.scl_args.specs.Origins.{IsClear}
use Rattle.scl_args.proofs.EmptyLaws.{judged-clear}
use Rattle.scl_args.proofs.OutcomeLaws.{bind-ok, ok_or-ok, judged-ok}
use Rattle.scl_files.specs.declared.expand.ExpansionKind.TheVariants as expansions
use Rattle.scl_text.specs.declared.records.CCompilerKind.{CCompilerKind}
use Rattle.scl_files.specs.Expand.{expand}
use Rattle.scl_text.specs.JudgedWords.{judged_words, options_of}
use Rattle.scl_text.specs.Reasons.{argument_parse, empty_value, invalid_input_file, unknown_source_language}
use Rattle.scl_text.specs.Records.{Parsed, NotCompilation}
use Rattle.scl_text.specs.Refusals.{the_input}
use Rattle.scl_files.specs.Views.{Viewed}
use Rattle.scl_gnu_reading.specs.declared.gcc.data.Kind.{Kind}
use Rattle.scl_gnu_reading.specs.declared.gcc.data.Kind.TheVariants as kind
use Rattle.scl_gnu_reading.specs.ClangRows.{clang_tables}
use Rattle.scl_gnu_reading.specs.FixedTests as tests
use Rattle.scl_gnu_reading.specs.FixedTests.{Found, found, language_of, module_path_unless}
use Rattle.scl_gnu_reading.specs.Inners.{inner_reading, inner_verdict}
use Rattle.scl_gnu_reading.specs.Kinds.{of, any, is_input}
use Rattle.scl_gnu.specs.ReadAgain.{inner_options_of}
use Rattle.scl_gnu_reading.specs.Readings.{read, reading, recorded}
use Rattle.scl_gnu_reading.specs.Recordings.{is_clang, record_of}
use Rattle.scl_gnu_reading.specs.Verdicts.{verdict}

-- ---- what the tests found

the_input-ok : (xs : List (List ℕ)) (x : List ℕ) → the_input xs ≡ Ok x → xs ≡ x ∷ []
the_input-ok [] x e = absurd (cc)
the_input-ok (y ∷ []) x e = cc
the_input-ok (y ∷ z ∷ ys) x e = absurd (cc)

pub record HasFound (os : List (Seen Kind)) (f : Found) : Type 0 where
  pub flag_is : last_flag (of (kind.DoCompilation ∷ [])) os ≡ Some f.compile_flag
  pub input_is : texts is_input os ≡ f.input ∷ []

pub has-found : (plusplus : Bool) (os : List (Seen Kind)) (f : Found) → found plusplus os ≡ Ok f → HasFound os f
has-found plusplus os f e =
    let a = bind-ok (ok_or (last_flag (of (kind.DoCompilation ∷ [])) os) NotCompilation) _ f e in
    let b = bind-ok (the_input (texts is_input os)) _ f a.2 in
    let c = bind-ok (ok_or (language_of plusplus (last_text (of (kind.Language ∷ [])) os) b.0) unknown_source_language) _ f b.2 in
    let d = bind-ok (ok_or (tests.object_path (last_text (of (kind.Output ∷ [])) os) b.0) invalid_input_file) _ f c.2 in
    let m = bind-ok (module_path_unless (any (kind.ModuleOnlyFlag ∷ []) os) (last_text (of (kind.ClangModuleOutput ∷ [])) os) b.0 d.0) _ f d.2 in
    let made : Found = record { compile_flag = a.0; input = b.0; language = c.0; object = d.0; module_path = m.0 } in
    let is : made ≡ f = cc (m.2) in
    record {
      flag_is = ok_or-ok (last_flag (of (kind.DoCompilation ∷ [])) os) NotCompilation a.0 a.1 ∙ ap (λ x. Some x.compile_flag) is;
      input_is = the_input-ok (texts is_input os) b.0 b.1 ∙ ap (λ x. x.input ∷ []) is;
    }

-- ---- what was read

module _ (compiler : CCompilerKind) (plusplus : Bool) (tables : List (List (Row Kind))) (directory : List ℕ) (view : Viewed) (words : List (List ℕ)) (p : Parsed) where
  abbrev os : List (Seen Kind)
  os = map shown (options_of expansions.Gnu tables (is_clang compiler) directory view words)

  abbrev inner : List (Seen Kind)
  inner = map shown (inner_options_of directory view os)

  pub record IsRead : Type 0 where
    pub tested : Found
    pub has : HasFound os tested
    pub is : record_of compiler directory view os inner tested ≡ p
    pub clear : Each IsClear (options_of expansions.Gnu tables (is_clang compiler) directory view words)
    pub inner_clear : Each IsClear (inner_options_of directory view os)

  pub is-read : reading compiler plusplus tables directory view words ≡ Ok p → IsRead
  is-read e =
      let c = cut (owner_in tables) (is_clang compiler) (expand expansions.Gnu directory view.files words) in
      let handed = texts (of (kind.XClang ∷ [])) os in
      let d = cut (owner_in clang_tables) false (expand expansions.Gnu directory view.files handed) in
      let a = bind-ok (judged_words expansions.Gnu (verdict view.is_multiarch) tables (is_clang compiler) directory view words) (read compiler plusplus directory view) p e in
      let r : read compiler plusplus directory view os ≡ Ok p =
      ap (read compiler plusplus directory view) (judged-ok (refusing_empty (owner_in tables) empty_value (verdict view.is_multiarch)) argument_parse os (is_dangling c.end) a.0 a.1) ∙ a.2 in
      let b = bind-ok (inner_reading inner_verdict directory view handed) (recorded compiler plusplus directory view os) p r in
      let i : recorded compiler plusplus directory view os inner ≡ Ok p =
      ap (recorded compiler plusplus directory view os) (judged-ok (refusing_empty (owner_in clang_tables) empty_value inner_verdict) argument_parse inner (is_dangling d.end) b.0 b.1) ∙ b.2 in
      let t = bind-ok (found plusplus os) _ p i in
      record {
        tested = t.0;
        has = has-found plusplus os t.0 t.1;
        is = cc (t.2);
        clear = judged-clear tables (is_clang compiler) (expand expansions.Gnu directory view.files words) empty_value (verdict view.is_multiarch) argument_parse a.0 a.1;
        inner_clear = judged-clear clang_tables false (expand expansions.Gnu directory view.files handed) empty_value inner_verdict argument_parse b.0 b.1;
      }
