-- Where the disk has none of the questions of Gcc and Clang, it gives the same reading.
use Rattle.std.proofs.Common.{◌≡◌, ℕ, Bool, true, false, not, ◌||◌, cond, List, [], ◌∷◌, ◌++◌, map, filter, Option, None, Some, Result, Ok, Err, refl, sym, ap, subst, ◌∙◌}
use Rattle.std.specs.Prelude.{is_some}
use Rattle.std.specs.List.{flat_map, list_all, list_any}
use Rattle.scl_values.specs.Cuts.{Cut, cut, raw, unknown, flag, with_value}
use Rattle.scl_values.specs.declared.argument.ArgDisposition.{ArgDisposition}
use Rattle.scl_values.specs.declared.argument.ArgDisposition.TheVariants as how
use Rattle.scl_values.specs.Each.{Each}
use Rattle.scl_values.specs.Row.{Row, Shape, bare, apart, joined, either}
use Rattle.scl_values.specs.Seen.{Seen, Known, shown, text_of}
use Rattle.scl_values.specs.Tables.{owner_in, all_rows}
use Rattle.scl_args.proofs.OwnerLaws.{owner_in-is, owner_is}
use Rattle.scl_args.specs.Options.{begins_with_at, names_file, texts, first_verdict, ◌>>=◌}
use Rattle.scl_args.proofs.AgainChecks.{implied}
use Rattle.scl_args.proofs.FoundLaws.{IsFound, found}
use Rattle.scl_args.proofs.OriginLaws.{CameUnmarked, value_row}
use Rattle.scl_args.proofs.OtherValueLaws.{has-all}
use Rattle.scl_args.proofs.OutcomeLaws.{option_or-none}
use Rattle.scl_args.specs.Origins.{ValueCame}
use Rattle.scl_files.specs.declared.expand.ExpansionKind.TheVariants as expansions
use Rattle.scl_files.specs.Expand.{expand}
use Rattle.scl_files.specs.Expanded.{ExpandedWords, expanded_by}
use Rattle.scl_files.specs.Paths.{join}
use Rattle.scl_files.specs.ResponseFiles.{file_name_in}
use Rattle.scl_files.specs.Views.{Viewed, File, is_directory}
use Rattle.scl_files.proofs.ExpandLaws.{plain_words}
use Rattle.scl_text.specs.declared.records.CCompilerKind.{CCompilerKind}
use Rattle.scl_text.specs.Lines.{JudgedLine, line_by, line_options}
use Rattle.scl_text.specs.ReadLines.{LineRead, line_read}
use Rattle.scl_text.specs.Records.{Parsed, Verdict}
use Rattle.scl_gnu_reading.specs.declared.gcc.data.Kind.{Kind}
use Rattle.scl_gnu_reading.specs.declared.gcc.data.Kind.TheVariants as kind
use Rattle.scl_gnu_reading.specs.declared.gcc.hash_files.HashRole.{HashRole}
use Rattle.scl_gnu_reading.specs.declared.gcc.hash_files.HashRole.TheVariants as roles
use Rattle.scl_gnu_reading.specs.ClangRows.{clang_rows, clang_tables}
use Rattle.scl_gnu_reading.specs.FixedTests as tests
use Rattle.scl_gnu_reading.specs.GccRows.{gcc_rows}
use Rattle.scl_gnu_reading.specs.Hashes.{Hashed}
use Rattle.scl_gnu_reading.specs.Inners.{inner_verdict}
use Rattle.scl_gnu_reading.specs.Kinds.{of, hashed}
use Rattle.scl_gnu_reading.specs.Readings.{recorded}
use Rattle.scl_gnu_reading.specs.Reads.{GnuRead, handed_ats, handed_words, inner_read, outcome_by, outer_read, read_by}
use Rattle.scl_gnu_reading.specs.Recordings.{is_clang, record_of, hash_path, hash_path_as, profile_in}
use Rattle.scl_gnu_reading.specs.Verdicts.{verdict}
use Rattle.scl_gnu.specs.OwnTables.{is_kind}
use Rattle.scl_files.specs.Wanted.{wanted, HasNone}
use Rattle.scl_reader.specs.Questions.{if_none, no_directory, hash_files, Extends}
use Rattle.scl_reader.proofs.DecidedLaws.{IsGnuSettled, expanded-decided, gnu-expanded, gnu-settled, nothing-settled, settled-wanted}
use Rattle.scl_reader.proofs.HandedLaws.{cut-handed, takes_rest}

-- ---- words that are passed on name no file

abbrev pub is_apart : Shape → Bool
is_apart bare = false
is_apart apart = true
is_apart (joined d) = false
is_apart (either d) = false

abbrev pub handed_apart : List (List (Row Kind)) → Type 0
handed_apart tables = list_all (λ row. not (is_kind kind.XClang row.kind) || is_apart row.shape) (all_rows tables) ≡ true

pub gcc-apart : handed_apart (gcc_rows ∷ [])
unfolding gcc_rows
gcc-apart = refl

pub clang-apart : handed_apart clang_tables
unfolding gcc_rows clang_rows
clang-apart = refl

not-named : (m : Bool) (before : List (Seen Kind)) (o : Seen Kind) → verdict m before o ≡ None → names_file o ≡ false
not-named m before o e = either_ (names_file o) refl where
  either_ : (b : Bool) → names_file o ≡ b → b ≡ false
  either_ true k = absurd (let no = rw k at e in cc)
  either_ false k = refl

pub none-named : (m : Bool) (before os : List (Seen Kind)) → first_verdict (verdict m) before os ≡ None → Each (λ o. names_file o ≡ false) os
none-named m before [] e = tt
none-named m before (o ∷ os) e =
    let both = option_or-none (verdict m before o) (first_verdict (verdict m) (before ++ o ∷ []) os) e in
    (not-named m before o both.0, none-named m (before ++ o ∷ []) os both.1)

module _ (tables : List (List (Row Kind))) (dashes : Bool) (rows_apart : handed_apart tables) where
  row-apart : (row : Row Kind) (v : List ℕ) (h : ArgDisposition) → ValueCame (owner_in tables) dashes row row.shape v h → is_kind kind.XClang row.kind ≡ true → is_apart row.shape ≡ true
  row-apart row v h came e =
      implied (is_kind kind.XClang row.kind) (is_apart row.shape)
      (has-all (λ row. not (is_kind kind.XClang row.kind) || is_apart row.shape) (all_rows tables) row rows_apart (value_row (owner_in tables) dashes (all_rows tables) (owner_in-is tables) row row.shape v h came)) e

  came-apart : (row : Row Kind) (s : Shape) (v : List ℕ) (h : ArgDisposition) → ValueCame (owner_in tables) dashes row s v h → is_apart s ≡ true → h ≡ how.Separated
  came-apart row bare v h came e = absurd came
  came-apart row apart v h came e = came.0
  came-apart row (joined d) v h came e = absurd (cc)
  came-apart row (either d) v h came e = absurd (cc)

  cut-none : (c : Cut Kind) → CameUnmarked (owner_in tables) dashes c → of (kind.XClang ∷ []) (shown c) ≡ true → names_file (shown c) ≡ false → begins_with_at (text_of (shown c)) ≡ false
  cut-none (raw w) came e n = absurd (cc)
  cut-none (unknown w) came e n = absurd (cc)
  cut-none (flag row) came e n = refl
  cut-none (with_value row v h) came e n =
      let same : h ≡ how.Separated = came-apart row row.shape v h came (row-apart row v h came e) in
      sym (ap (λ x. names_file (Known row.flag row.kind v (Some x))) same) ∙ n

  -- the texts of options that are found and name none
  filter-none : (os : List (Seen Kind)) → Each (λ o. names_file o ≡ false) os → Each (λ o. names_file o ≡ false) (filter (of (kind.XClang ∷ [])) os)
  filter-none [] h = tt
  filter-none (o ∷ os) h =
      elim (of (kind.XClang ∷ []) o) as (λ b. Each (λ o. names_file o ≡ false) (cond b (o ∷ filter (of (kind.XClang ∷ [])) os) (filter (of (kind.XClang ∷ [])) os))) [
        | true ↦ (h.0, filter-none os h.1)
        | false ↦ filter-none os h.1
      ]

  found-none : (os : List (Seen Kind)) → Each (IsFound tables dashes (of (kind.XClang ∷ []))) os → Each (λ o. names_file o ≡ false) os → Each (λ w. begins_with_at w ≡ false) (map text_of os)
  found-none [] f n = tt
  found-none (o ∷ os) f n = (
    sym (ap (λ x. begins_with_at (text_of x)) f.0.is)
        ∙ cut-none f.0.option f.0.came (ap (of (kind.XClang ∷ [])) f.0.is ∙ f.0.passes) (ap names_file f.0.is ∙ n.0),
    found-none os f.1 n.1,
  )

  pub handed-none : (words : List (List ℕ)) → let os = map shown (cut (owner_in tables) dashes words).options in
      Each (λ o. names_file o ≡ false) os → Each (λ w. begins_with_at w ≡ false) (texts (of (kind.XClang ∷ [])) os)
  handed-none words n = found-none _ (found tables dashes (of (kind.XClang ∷ [])) words) (filter-none _ n)

-- ---- words that name no file stand, whatever the files

names-none : (w : List ℕ) → begins_with_at w ≡ false → is_some (file_name_in expansions.Gnu w) ≡ false
names-none [] e = refl
names-none (b ∷ name) e = rw e refl

no-names : (ws : List (List ℕ)) → Each (λ w. begins_with_at w ≡ false) ws → list_any (λ w. is_some (file_name_in expansions.Gnu w)) ws ≡ false
no-names [] h = refl
no-names (w ∷ ws) h = rw (names-none w h.0, no-names ws h.1) refl

pub stand : (directory : List ℕ) (files : List File) (ws : List (List ℕ)) → Each (λ w. begins_with_at w ≡ false) ws → expand expansions.Gnu directory files ws ≡ ws
stand directory files ws h = plain_words expansions.Gnu directory files ws (no-names ws h)

-- ---- directories

module _ (directory : List ℕ) (disk view : Viewed) (extends : Extends disk view) where
  abbrev pub NoneAt : List (List ℕ) → Type 0
  NoneAt paths = Each (λ path. is_directory path disk ≡ false) paths

  same-directory : (path : List ℕ) → NoneAt (if_none (is_directory path view) path) → is_directory path disk ≡ is_directory path view
  same-directory path n = elim (is_directory path view) as (λ b. is_directory path view ≡ b → NoneAt (if_none b path) → is_directory path disk ≡ b) [
    | true ↦ λ e _. extends.directories path e
    | false ↦ λ e k. k.0
  ] refl n

  profile-same : (path : List ℕ) (b : Bool) → is_directory path view ≡ b → NoneAt (no_directory view (profile_in b path)) → is_directory path disk ≡ is_directory path view
  profile-same path true e n = extends.directories path e ∙ sym e
  profile-same path false e n = same-directory path n

  same-path : (role : HashRole) (text : List ℕ) → NoneAt (no_directory view (hash_path_as role text directory view)) → hash_path_as role text directory disk ≡ hash_path_as role text directory view
  same-path roles.File text n = refl
  same-path roles.Module text n = refl
  same-path roles.Profile text n = ap (λ b. profile_in b (join directory text)) (profile-same (join directory text) (is_directory (join directory text) view) refl n)

  front : (xs ys : List (List ℕ)) → NoneAt (xs ++ ys) → NoneAt xs
  front [] ys n = tt
  front (x ∷ xs) ys n = (n.0, front xs ys n.1)

  back : (xs ys : List (List ℕ)) → NoneAt (xs ++ ys) → NoneAt ys
  back [] ys n = n
  back (x ∷ xs) ys n = back xs ys n.1

  abbrev pub NoneAsked : List (List ℕ) → Type 0
  NoneAsked paths = NoneAt (flat_map (no_directory view) paths)

  pub same-paths : (hs : List Hashed) → NoneAsked (map (hash_path directory view) hs) → map (hash_path directory disk) hs ≡ map (hash_path directory view) hs
  same-paths [] n = refl
  same-paths (h ∷ hs) n =
      let path = hash_path directory view h in
      let others = flat_map (no_directory view) (map (hash_path directory view) hs) in
      rw (same-path h.role h.text (front (no_directory view path) others n), same-paths hs (back (no_directory view path) others n)) refl

  same-recorded : (compiler : CCompilerKind) (plusplus : Bool) (os inner : List (Seen Kind)) → NoneAsked (hash_files (recorded compiler plusplus directory view os inner))
      → recorded compiler plusplus directory disk os inner ≡ recorded compiler plusplus directory view os inner
  same-recorded compiler plusplus os inner n =
      elim (tests.found plusplus os) as (λ r. NoneAsked (hash_files (r >>= (λ f. Ok (record_of compiler directory view os inner f))))
      → (r >>= (λ f. Ok (record_of compiler directory disk os inner f))) ≡ (r >>= (λ f. Ok (record_of compiler directory view os inner f)))) [
        | Ok f ↦ λ k. ap (λ paths. Ok (record (record_of compiler directory view os inner f) { extra_hash_files = paths })) (same-paths (hashed os ++ hashed inner) k)
        | Err v ↦ λ k. refl
      ] n

-- ---- readings

pub bind-same : {A B V : Type 0} (r : Result A V) (f g : A → Result B V) → ((a : A) → r ≡ Ok a → f a ≡ g a) → (r >>= f) ≡ (r >>= g)
bind-same (Ok a) f g h = h a refl
bind-same (Err v) f g h = refl

apart-takes : (s : Shape) → is_apart s ≡ true → takes_rest s ≡ false
apart-takes bare e = refl
apart-takes apart e = refl
apart-takes (joined d) e = absurd (cc)
apart-takes (either d) e = absurd (cc)

module _ (compiler : CCompilerKind) (plusplus : Bool) (tables : List (List (Row Kind))) (rows_apart : handed_apart tables)
    (directory : List ℕ) (disk view : Viewed) (extends : Extends disk view) where
  abbrev outcome_at : Viewed → JudgedLine Kind → JudgedLine Kind → Result Parsed Verdict
  outcome_at files outer inner = outcome_by compiler plusplus directory files outer inner

  outcome-same : (outer inner : JudgedLine Kind) → NoneAsked directory disk view extends (hash_files (outcome_at view outer inner)) → outcome_at disk outer inner ≡ outcome_at view outer inner
  outcome-same outer inner n =
      bind-same (line_options outer) _ _ (λ os e. bind-same (line_options inner) _ _ (λ is f.
      same-recorded directory disk view extends compiler plusplus os is
      (subst (λ r. NoneAsked directory disk view extends (hash_files (r >>= recorded compiler plusplus directory view os))) f
      (subst (λ r. NoneAsked directory disk view extends (hash_files (r >>= (λ xs. line_options inner >>= recorded compiler plusplus directory view xs)))) e n))))

  stand-apart : (word : List ℕ) (row : Row Kind) (value : List ℕ) (h : Option ArgDisposition) → owner_in tables word ≡ Some row → of (kind.XClang ∷ []) (Known row.flag row.kind value h) ≡ true → takes_rest row.shape ≡ false
  stand-apart word row value h o e =
      apart-takes row.shape
      (implied (is_kind kind.XClang row.kind) (is_apart row.shape)
      (has-all (λ row. not (is_kind kind.XClang row.kind) || is_apart row.shape) (all_rows tables) row rows_apart (owner_is (all_rows tables) word row (sym (owner_in-is tables word) ∙ o)).is_row) e)

  module _ (words : List (List ℕ)) (ats : List (Option ℕ)) (no_files : HasNone disk.files (wanted expansions.Gnu directory view.files words)) where
    abbrev expanded_at : Viewed → ExpandedWords
    expanded_at files = expanded_by expansions.Gnu directory files.files words ats

    abbrev outer : LineRead Kind
    outer = outer_read compiler tables view (expanded_at view)

    outer-same : outer_read compiler tables disk (expanded_at disk) ≡ outer
    outer-same =
        ap (outer_read compiler tables disk) (expanded-decided directory view.files disk.files extends.files expansions.Gnu words ats no_files)
        ∙ ap (λ m. line_read (verdict m) (owner_in tables) (is_clang compiler) (expanded_at view)) extends.multiarch

    handed-settled : Each (IsGnuSettled directory view.files disk.files extends.files) (handed_words outer.line)
    unfolding line_by
    handed-settled =
        cut-handed (owner_in tables) (is_clang compiler) (of (kind.XClang ∷ [])) (IsGnuSettled directory view.files disk.files extends.files) (nothing-settled directory view.files disk.files extends.files)
        (λ word. refl) (λ word. refl) stand-apart (expand expansions.Gnu directory view.files words)
        (gnu-expanded directory view.files disk.files extends.files words (gnu-settled directory view.files disk.files extends.files words no_files))

    abbrev inner_at : Viewed → LineRead Kind → LineRead Kind
    inner_at files line = inner_read inner_verdict directory files (handed_words line.line) (handed_ats line.line)

    inner-same : inner_at disk outer ≡ inner_at view outer
    inner-same =
        ap (line_read inner_verdict (owner_in clang_tables) false)
        (expanded-decided directory view.files disk.files extends.files expansions.Gnu (handed_words outer.line) (handed_ats outer.line)
        (settled-wanted directory view.files disk.files extends.files (handed_words outer.line) handed-settled))

    abbrev built : LineRead Kind → LineRead Kind → Result Parsed Verdict → GnuRead
    built line inner said = record { compiler = compiler; plusplus = plusplus; outer = line; handed = handed_words line.line; inner = inner; outcome = said }

    abbrev read_at : Viewed → GnuRead
    read_at files = read_by compiler plusplus tables directory files (expanded_at files)

    -- the whole reading is the same
    pub gnu-decided : NoneAsked directory disk view extends (hash_files (read_at view).outcome) → read_at disk ≡ read_at view
    gnu-decided n =
        ap (λ line. built line (inner_at disk line) (outcome_at disk line.line (inner_at disk line).line)) outer-same
        ∙ ap (λ inner. built outer inner (outcome_at disk outer.line inner.line)) inner-same
        ∙ ap (built outer (inner_at view outer)) (outcome-same outer.line (inner_at view outer).line n)
