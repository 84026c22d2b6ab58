-- The key of a command line: what a cache hashes as it stands, and what it asks and hashes; or why none can be right.
use Rattle.std.specs.Prelude.{ℕ, Bool, false, nat_eq, ◌&&◌, ◌||◌, not, List, [], ◌∷◌, ◌++◌, drop, map, filter, codes, Option, Some, None, is_some, if◌then◌else◌}
use Rattle.std.specs.List.{flat_map, list_all, list_any, starts_with}
use Rattle.std.specs.Option.{option_to_list}
use Rattle.std.specs.Str.{bytes_eq}
use Rattle.scl_files.specs.Views.{Viewed, empty_view, is_among}
use Rattle.scl_text.specs.Records.{Artifact, Parsed}
use Rattle.scl_description.specs.Rows.{Entry, row_entry}
use Rattle.scl_reader.specs.declared.compiler.Compiler.{Compiler}
use Rattle.scl_catalogue.specs.Lookup.{Lexicon}
use Rattle.scl_catalogue.specs.declared.entry.Doing.{Doing}
use Rattle.scl_catalogue.specs.declared.entry.Doing.TheVariants as doings
use Rattle.scl_key.specs.declared.no_key.Reason.{Reason}
use Rattle.scl_key.specs.declared.no_key.Reason.TheVariants.{WritesUnnamed, TextHides, OutputIsNoFile, OnePathTwice, Hazard, Effect as EffectBars}
use Rattle.scl_key.specs.declared.part.Ask.{Ask}
use Rattle.scl_key.specs.declared.part.Ask.TheVariants as asks
use Rattle.scl_key.specs.Directs.{Direct, directs_by}
use Rattle.scl_key.specs.Effects.{Judged, assembler_words, behind, is_plain, suffixes, writes_by_assembler}
use Rattle.scl_key.specs.Families.{folder_variables, is_clang, is_gcc, notes_by_runs, unset_variables, variables}
use Rattle.scl_key.specs.Known.{Known, folders, has_macros, headers, known_in, shows_by}
use Rattle.scl_key.specs.Made.{dependency_files, handed_file}
use Rattle.scl_key.specs.Parts.{Part, asked, directory, compiler, output, pch, sources, times}
use Rattle.scl_key.specs.Reads.{files_perhaps}
use Rattle.scl_key.specs.Runs.{is_assembler, is_header, plans, run_parts}
use Rattle.scl_key.specs.Told.{RunWords, given, built, hazardous, told_by}

-- ---- what is asked

-- the same is asked of each name
abbrev pub asked_each : Ask → List (List ℕ) → List Part
asked_each ask names = map (asked ask) names

-- the response files that the given words name, if those are run
abbrev pub response_files : RunWords → List (List ℕ)
response_files built = []
response_files (given words files) = files
response_files (hazardous hazard) = []

-- names, each after what it is
abbrev pub named_each : List ℕ → List (List ℕ) → List (List ℕ)
named_each what names = flat_map (λ name. what ∷ name ∷ []) names

-- where Gcc searches what it may read in the place of the first header
abbrev pub searched : Known → Parsed → List (List ℕ)
searched k p =
    named_each (codes "header") (headers k)
    ++ named_each (codes "beside") (p.input ∷ [])
    ++ named_each (codes "folder") (folders k)
    ++ named_each (codes "variable") folder_variables

abbrev pub precompiled_parts : Known → Compiler → Parsed → List Part
precompiled_parts k c p =
    if is_gcc c then pch (searched k p) ∷ [] else []

-- the outcome has nothing of the sources that is missing from the text of a run
abbrev pub text_is_enough : Known → Compiler → Parsed → Bool
text_is_enough k c p = shows_by k c p.language && list_all (λ j. is_plain j.doing) k.common

-- what in a text says that a source has more than the text: its columns, names, lines, or whether a message is an error
abbrev pub telling : List ℕ
telling = codes "__builtin_(COLUMN|LINE|FILE|source_location)|diagnostic[ \t]+error|__has_embed|#[ \t]*embed"

-- the same for Clang, which names what has no name by its column, and expands macros in pragmas that its runs write as they stand
abbrev pub clang_telling : List ℕ
clang_telling = codes "__builtin_(COLUMN|LINE|FILE|source_location|dump_struct)|__PRETTY_FUNCTION__|diagnostic[ \t]+error|__has_embed|#[ \t]*embed|#[ \t]*pragma[ \t]+([^GSpc \t]|p[^uo]|c[^l]|clang[ \t]+[^d \t]|GCC[ \t]+[^vdspew \t])"

abbrev pub telling_of : Compiler → List ℕ
telling_of c = if is_clang c then clang_telling else telling

abbrev pub source_parts : Known → Compiler → Parsed → List Part
source_parts k c p = if text_is_enough k c p then asked asks.SourcesIfShown (telling_of c) ∷ [] else sources ∷ []

abbrev pub stamps_times : Compiler → Parsed → Bool
stamps_times c p = is_clang c && (is_header p.language && not (list_any (λ word. bytes_eq word (codes "-fno-pch-timestamp")) p.common_args))

-- what in a text reads a file that nobody names, or may: an assembler's directives, and its macros that make such
abbrev pub reading : List ℕ
reading = codes "(^|[^])A-Za-z0-9_.$]|\\\\[nt])\\.[Ii][Nn][Cc]([Bb][Ii][Nn]|[Ll][Uu][Dd][Ee])([^A-Za-z0-9_]|$)|^[ \t]*#[ \t]*embed|\\.[A-Za-z0-9_]*\\\\\\\\[A-Za-z0-9_(@]"

abbrev pub assembler_reading : List ℕ
assembler_reading = codes "(^|[^])A-Za-z0-9_.$]|\\\\[nt])\\.[Ii][Nn][Cc]([Bb][Ii][Nn]|[Ll][Uu][Dd][Ee])([^A-Za-z0-9_]|$)|\\.[A-Za-z0-9_]*\\\\[A-Za-z0-9_(@]"

abbrev pub refusals : Parsed → List Part
refusals p = asked asks.RefuseIfShown (if is_assembler p.language then assembler_reading else reading) ∷ []

-- what is asked of variables and files
abbrev pub file_parts : Known → Compiler → RunWords → Parsed → List Part
file_parts k c words p =
    asked_each asks.Env (variables c)
    ++ asked_each asks.Unset (unset_variables c)
    ++ asked_each asks.File p.extra_hash_files
    ++ asked_each asks.File (response_files words)
    ++ asked_each asks.Maybe (files_perhaps k c p)

-- what is asked of texts: the runs, and after them what asks of what these write
abbrev pub text_parts : Known → Compiler → Parsed → List Part
text_parts k c p = run_parts (has_macros k) c p ++ precompiled_parts k c p ++ source_parts k c p ++ (if stamps_times c p then times ∷ [] else []) ++ refusals p

-- the parts that ask, in order
abbrev pub asked_parts : Known → Compiler → RunWords → Parsed → List Part
asked_parts k c words p = (directory ∷ compiler ∷ []) ++ plans c p ++ file_parts k c words p ++ asked_each asks.Regular (p.input ∷ headers k) ++ text_parts k c p

-- ---- all parts

abbrev pub key_by : Known → Compiler → (environment : List (List ℕ × List ℕ)) → RunWords → Parsed → List Part
key_by k c environment words p = told_by (shows_by k c p.language) c environment words p ++ map output k.made ++ asked_parts k c words p

abbrev pub key_of : Lexicon → Compiler → (environment : List (List ℕ × List ℕ)) → RunWords → Parsed → List Part
key_of l c environment words p = key_by (known_in l p) c environment words p

-- ---- where no key can be right

-- the reason, and the word, path or hazard
pub record NoKey : Type 0 where
  pub reason : Reason
  pub word : List ℕ

abbrev pub no_key : Reason → List ℕ → NoKey
no_key reason word = record { reason = reason; word = word }

abbrev pub reason_name : Reason → List ℕ
reason_name WritesUnnamed = codes "writes-unnamed"
reason_name TextHides = codes "text-hides"
reason_name OutputIsNoFile = codes "output-is-no-file"
reason_name OnePathTwice = codes "one-path-twice"
reason_name Hazard = codes "hazard"
reason_name EffectBars = codes "effect"

-- why there is no key for what a word does
abbrev pub reason_of : Doing → Option Reason
reason_of doings.Plain = None
reason_of doings.Exact = None
reason_of doings.Macros = None
reason_of doings.WritesUnnamed = Some WritesUnnamed
reason_of doings.TextHides = Some TextHides
reason_of doings.ReadsCounts = None
reason_of doings.ReadsSamples = None

abbrev pub no_key_by : Judged → List NoKey
no_key_by j = map (λ reason. no_key reason j.word) (option_to_list (reason_of j.doing))

abbrev pub asks_for_rules : List ℕ → Bool
asks_for_rules text = starts_with nat_eq text (codes "-M")

-- a word asks the preprocessor for rules, in another way than by one file
abbrev pub hides_file : List ℕ → Bool
hides_file word = starts_with nat_eq word (codes "-Wp,") && (list_any asks_for_rules (suffixes 44 word) && not (is_some (handed_file word)))

-- words that write a file that no row names: of the assembler, and of the preprocessor
abbrev pub unnamed_by : List (List ℕ) → List (List ℕ)
unnamed_by words =
    filter writes_by_assembler (assembler_words words)
    ++ filter hides_file words
    ++ filter asks_for_rules (behind (codes "-Xpreprocessor") false words)

-- a second file of dependencies, and each that the command does not write
abbrev pub lost_files : Compiler → Parsed → List (List ℕ)
lost_files c p = drop 1 (dependency_files p) ++ (if notes_by_runs c then p.dependency_args ++ option_to_list p.depfile else [])

abbrev pub unnamed : Compiler → Parsed → List (List ℕ)
unnamed c p = unnamed_by p.preprocessor_args ++ unnamed_by p.common_args ++ unnamed_by p.unhashed_args ++ lost_files c p

-- an output that nothing can be kept of
abbrev pub is_no_file : List ℕ → Bool
is_no_file path = bytes_eq path (codes "-") || (starts_with nat_eq path (codes "/dev/") || starts_with nat_eq path (codes "/proc/"))

abbrev pub made_paths : List Artifact → List (List ℕ)
made_paths outputs = map (λ output. output.path) outputs

-- what a view has in which these paths exist
abbrev pub view_of : List (List ℕ) → Viewed
view_of paths = record empty_view { existing = paths }

-- the paths that are named again
abbrev pub repeated : List (List ℕ) → List (List ℕ)
repeated [] = []
repeated (path ∷ paths) = if is_among path paths then path ∷ repeated paths else repeated paths

abbrev pub hazards : RunWords → List NoKey
hazards built = []
hazards (given words files) = []
hazards (hazardous hazard) = no_key Hazard hazard ∷ []

-- what the words of a record do
abbrev pub no_keys_by_words : Known → List NoKey
no_keys_by_words k = flat_map no_key_by k.preprocessor ++ flat_map no_key_by k.common ++ flat_map no_key_by k.unhashed ++ flat_map no_key_by k.dependency

abbrev pub no_keys : Known → Compiler → RunWords → Parsed → List NoKey
no_keys k c words p =
    hazards words
    ++ no_keys_by_words k
    ++ map (no_key WritesUnnamed) (unnamed c p)
    ++ map (no_key OutputIsNoFile) (filter is_no_file (made_paths k.made))
    ++ map (no_key OnePathTwice) (repeated (made_paths k.made))

-- ---- what is said of a command line

-- a key, with what direct mode needs, if it may be used
pub record Key : Type 0 where
  -- each run shows all that the words of the preprocessor bring in
  pub is_shown : Bool
  pub parts : List Part
  pub direct : List Direct

abbrev pub whole_key_by : Lexicon → Known → Compiler → (environment : List (List ℕ × List ℕ)) → RunWords → Parsed → Key
whole_key_by l k c environment words p = record { is_shown = shows_by k c p.language; parts = key_by k c environment words p; direct = directs_by l k c p }

abbrev pub whole_key : Lexicon → Compiler → (environment : List (List ℕ × List ℕ)) → RunWords → Parsed → Key
whole_key l c environment words p = whole_key_by l (known_in l p) c environment words p

pub data Keeping : Type 0 where
  under : (key : Key) → Keeping
  not_kept : (why : List NoKey) → Keeping

abbrev pub keeping_by : List NoKey → Key → Keeping
keeping_by [] key = under key
keeping_by (why ∷ others) key = not_kept (why ∷ others)

-- its key, or why there is none
abbrev pub keeping_of : Lexicon → Compiler → (environment : List (List ℕ × List ℕ)) → RunWords → Parsed → Keeping
keeping_of l c environment words p = keeping_by (no_keys (known_in l p) c words p) (whole_key l c environment words p)

-- ---- rows

abbrev pub no_key_entry : NoKey → Entry
no_key_entry n = row_entry (codes "keep") (codes "no" ∷ reason_name n.reason ∷ n.word ∷ [])
