-- Where the disk has none of the questions, the reading and the answer are the same, whatever the compiler.
use Rattle.std.proofs.Common.{◌≡◌, ℕ, true, false, List, [], ◌∷◌, ◌++◌, length, map, Option, None, Some, refl, ap, sym, subst, ◌∙◌, append_assoc}
use Rattle.std.specs.List.{flat_map, list_any}
use Rattle.std.specs.Option.{option_map_or}
use Rattle.std.specs.Prelude.{unwrap_or}
use Rattle.scl_values.specs.Each.{Each}
use Rattle.scl_files.specs.Views.{Viewed, exists, is_directory}
use Rattle.scl_files.specs.Sources.{indices}
use Rattle.scl_files.specs.Wanted.{HasNone}
use Rattle.scl_files.specs.declared.expand.ExpansionKind.{ExpansionKind}
use Rattle.scl_files.specs.declared.expand.ExpansionKind.TheVariants as expansions
use Rattle.scl_text.specs.declared.records.CCompilerKind.TheVariants as kinds
use Rattle.scl_gnu_reading.specs.ClangRows.{clang_tables}
use Rattle.scl_gnu_reading.specs.GccRows.{gcc_rows}
use Rattle.scl_msvc.specs.Reads.{surrounded_read}
use Rattle.scl_small.specs.DiabReading as diab
use Rattle.scl_small.specs.DiabTable as diab_table
use Rattle.scl_small.specs.Reads.{read_by}
use Rattle.scl_values.specs.Tables.{owner_in}
use Rattle.scl_reader.specs.declared.compiler.Compiler.{Compiler}
use Rattle.scl_reader.specs.declared.compiler.Compiler.TheVariants as compilers
use Rattle.scl_reader.specs.declared.reading.Reading.{Reading}
use Rattle.scl_reader.specs.declared.reading.Reading.TheVariants as reading
use Rattle.scl_reader.specs.CommandLines.{Request, given_in}
use Rattle.scl_reader.specs.Answers.{answer_from, command_by, kept_by, reading_by}
use Rattle.scl_reader.specs.PrecompiledHeaders.{concerned_in, has_precompiled_header, paths_named}
use Rattle.scl_reader.specs.Reads as reads
use Rattle.scl_reader.specs.Reads.{Lacked, IsReadBy, files_lacked, named_by, outcome_in, read_of}
use Rattle.scl_reader.specs.Questions.{Extends, HasNoneOf, directories_in, database_asked, database_in, headers_asked, no_path, questions_of, on_disk, AnswersAreDecided, HeadersAreDecided, ReadingsAreDecided, WholeReadingsAreDecided}
use Rattle.scl_reader.proofs.DecidedLaws.{expanded-decided}
use Rattle.scl_reader.proofs.ExpandedSameLaws.{each-front, each-back}
use Rattle.scl_reader.proofs.GnuQuestionLaws.{gcc-apart, clang-apart, gnu-decided}
use Rattle.scl_reader.proofs.MsvcQuestionLaws.{answer-same, exists-same, msvc-decided}
use Rattle.scl_reader.proofs.ReadLaws.{readings-say}

-- ---- the files that a reading lacks

abbrev paths_in : List Lacked → List (List ℕ)
paths_in files = map (λ file. file.path) files

paths-named : (kind : ExpansionKind) (paths : List (List ℕ)) → paths_in (named_by kind paths) ≡ paths
paths-named kind [] = refl
paths-named kind (path ∷ paths) = ap (λ others. path ∷ others) (paths-named kind paths)

paths-joined : (xs ys : List Lacked) → paths_in (xs ++ ys) ≡ paths_in xs ++ paths_in ys
paths-joined [] ys = refl
paths-joined (x ∷ xs) ys = ap (λ others. x.path ∷ others) (paths-joined xs ys)

three-named : (k l m : ExpansionKind) (xs ys zs : List (List ℕ)) → paths_in (named_by k xs ++ named_by l ys ++ named_by m zs) ≡ xs ++ (ys ++ zs)
three-named k l m xs ys zs =
    paths-joined (named_by k xs ++ named_by l ys) (named_by m zs)
    ∙ rw (paths-joined (named_by k xs) (named_by l ys), paths-named k xs, paths-named l ys, paths-named m zs) (append_assoc xs ys zs)

-- ---- the whole reading

module _ (r : Request) (disk : Viewed) (extends : Extends disk r.view) where
  abbrev read_at : Compiler → Viewed → Reading
  read_at c view = reads.read_by c (given_in (on_disk r view))

  -- the disk has none of the files and directories that the reading asks for
  record NothingFor (c : Compiler) : Type 0 where
    files : HasNone disk.files (paths_in (files_lacked (read_at c r.view)))
    directories : Each (λ path. is_directory path disk ≡ false) (directories_in r.view (outcome_in (read_at c r.view)))

  decided-by : (c : Compiler) → NothingFor c → read_at c disk ≡ read_at c r.view
  decided-by compilers.Gcc n =
      ap reading.Gnu (gnu-decided kinds.Gcc false (gcc_rows ∷ []) gcc-apart r.directory disk r.view extends r.words (indices (length r.words)) (subst (HasNone disk.files) (paths-named expansions.Gnu _) n.files) n.directories)
  decided-by compilers.Gxx n =
      ap reading.Gnu (gnu-decided kinds.Gcc true (gcc_rows ∷ []) gcc-apart r.directory disk r.view extends r.words (indices (length r.words)) (subst (HasNone disk.files) (paths-named expansions.Gnu _) n.files) n.directories)
  decided-by compilers.Clang n =
      ap reading.Gnu (gnu-decided kinds.Clang false clang_tables clang-apart r.directory disk r.view extends r.words (indices (length r.words)) (subst (HasNone disk.files) (paths-named expansions.Gnu _) n.files) n.directories)
  decided-by compilers.Clangxx n =
      ap reading.Gnu (gnu-decided kinds.Clang true clang_tables clang-apart r.directory disk r.view extends r.words (indices (length r.words)) (subst (HasNone disk.files) (paths-named expansions.Gnu _) n.files) n.directories)
  decided-by compilers.Cl n =
      let m = surrounded_read false r.directory r.environment r.view r.words in
      ap reading.Msvc (msvc-decided false r.directory disk r.view extends r.words r.environment
      (subst (HasNone disk.files) (three-named expansions.Msvc expansions.Gnu expansions.Gnu m.outer.lacked m.xclang.lacked m.clang.lacked) n.files) n.directories)
  decided-by compilers.ClangCl n =
      let m = surrounded_read true r.directory r.environment r.view r.words in
      ap reading.Msvc (msvc-decided true r.directory disk r.view extends r.words r.environment
      (subst (HasNone disk.files) (three-named expansions.Msvc expansions.Gnu expansions.Gnu m.outer.lacked m.xclang.lacked m.clang.lacked) n.files) n.directories)
  decided-by compilers.Diab n =
      ap (λ e. reading.Diab (read_by diab.verdict diab.tested (owner_in (diab_table.rows ∷ [])) e))
      (expanded-decided r.directory r.view.files disk.files extends.files expansions.Diab r.words (indices (length r.words)) (subst (HasNone disk.files) (paths-named expansions.Diab _) n.files))
  decided-by compilers.Tasking n = refl

pub wholes-decided : WholeReadingsAreDecided
wholes-decided r disk extends n = decided-by r disk extends r.compiler (record { files = n.files; directories = n.directories })

pub readings-decided : ReadingsAreDecided
readings-decided r disk extends n =
    let there : IsReadBy (on_disk r disk) = readings-say (on_disk r disk) in
    let here : IsReadBy r = readings-say r in
    sym there.outcome ∙ ap outcome_in (wholes-decided r disk extends n) ∙ here.outcome

-- ---- paths that exist

module _ (r : Request) (disk : Viewed) (extends : Extends disk r.view) (n : HasNoneOf disk (questions_of r)) where
  abbrev IsNowhere : List ℕ → Type 0
  IsNowhere path = exists path disk ≡ false

  abbrev database : List (List ℕ)
  database = database_asked r.directory r.view (database_in (outcome_in (read_of r)))

  abbrev headers : List (List ℕ)
  headers = headers_asked (given_in r) (read_of r)

  no-database : Each IsNowhere (database_asked r.directory r.view (database_in (reading_by r.compiler r)))
  no-database =
      let is : IsReadBy r = readings-say r in
      subst (λ said. Each IsNowhere (database_asked r.directory r.view (database_in said))) is.outcome (each-front IsNowhere database headers n.existing)

  no-headers : Each IsNowhere headers
  no-headers = each-back IsNowhere database headers n.existing

  any-same : (paths : List (List ℕ)) → Each IsNowhere (flat_map (no_path r.view) paths) → list_any (λ path. exists path disk) paths ≡ list_any (λ path. exists path r.view) paths
  any-same [] a = refl
  any-same (path ∷ paths) a =
      rw (
        exists-same false r.directory disk r.view extends path (each-front IsNowhere (no_path r.view path) (flat_map (no_path r.view) paths) a),
        any-same paths (each-back IsNowhere (no_path r.view path) (flat_map (no_path r.view) paths) a),
      ) refl

  none-named : (paths : Option (List (List ℕ))) → Each IsNowhere (flat_map (no_path r.view) (unwrap_or paths []))
      → option_map_or (list_any (λ path. exists path disk)) paths true ≡ option_map_or (list_any (λ path. exists path r.view)) paths true
  none-named None a = refl
  none-named (Some paths) a = any-same paths a

pub headers-decided : HeadersAreDecided
headers-decided r disk extends n =
    ap (has_precompiled_header (given_in (on_disk r disk))) (wholes-decided r disk extends n)
    ∙ none-named r disk extends n (paths_named r.directory (concerned_in (read_of r))) (no-headers r disk extends n)

-- ---- the answer

answer-by : (c : Compiler) (r : Request) (disk : Viewed) (extends : Extends disk r.view)
    → Each (λ path. exists path disk ≡ false) (database_asked r.directory r.view (database_in (reading_by c r)))
    → answer_from (command_by c) (kept_by c (on_disk r disk)) (reading_by c r) ≡ answer_from (command_by c) (kept_by c r) (reading_by c r)
answer-by compilers.Gcc r disk extends x = refl
answer-by compilers.Gxx r disk extends x = refl
answer-by compilers.Clang r disk extends x = refl
answer-by compilers.Clangxx r disk extends x = refl
answer-by compilers.Cl r disk extends x = answer-same false r.directory disk r.view extends (reading_by compilers.Cl r) x
answer-by compilers.ClangCl r disk extends x = answer-same true r.directory disk r.view extends (reading_by compilers.ClangCl r) x
answer-by compilers.Diab r disk extends x = refl
answer-by compilers.Tasking r disk extends x = refl

pub are-decided : AnswersAreDecided
are-decided r disk extends n =
    ap (answer_from (command_by r.compiler) (kept_by r.compiler (on_disk r disk))) (readings-decided r disk extends n)
    ∙ answer-by r.compiler r disk extends (no-database r disk extends n)
