-- Direct mode: what a cache needs to find a key without a run of the compiler.
use Rattle.std.specs.Prelude.{ℕ, Bool, true, false, nat_eq, ◌&&◌, ◌||◌, not, List, [], ◌∷◌, ◌++◌, map, codes, if◌then◌else◌}
use Rattle.std.specs.List.{flat_map, list_all, list_any, starts_with}
use Rattle.std.specs.Str.{bytes_eq}
use Rattle.scl_gnu.specs.OutputFiles.{without_output_files}
use Rattle.scl_text.specs.Languages.{needs_c_preprocessing}
use Rattle.scl_text.specs.Records.{Parsed}
use Rattle.scl_text.specs.declared.language.Language.{Language}
use Rattle.scl_description.specs.Rows.{Entry, row_entry}
use Rattle.scl_reader.specs.declared.compiler.Compiler.{Compiler}
use Rattle.scl_catalogue.specs.Lookup.{Lexicon, running_of}
use Rattle.scl_catalogue.specs.declared.entry.Brings.{Brings}
use Rattle.scl_catalogue.specs.declared.entry.Brings.TheVariants.{Folder, Header, MacroFile, Other, Dependencies, Unknown}
use Rattle.scl_key.specs.Effects.{Judged, is_plain}
use Rattle.scl_key.specs.Families.{is_gnu}
use Rattle.scl_key.specs.Given.{Given, given_words}
use Rattle.scl_key.specs.Known.{Known, all_known, headers, is_text, known_in, macro_files}
use Rattle.scl_key.specs.Reads.{is_path}
use Rattle.scl_key.specs.Runs.{hides_header, is_assembler, marked_runs}

-- what a cache asks or does
pub data Direct : Type 0 where
  -- a variable whose value belongs in the first key
  env : (name : List ℕ) → Direct
  -- words with which the compiler names the folders that a run searches
  search : (words : List (List ℕ)) → Direct
  -- a header that words name, or that no word names
  first : (header : List ℕ) → Direct
  -- the pattern of what names a file in a source
  named : (pattern : List ℕ) → Direct
  -- a pattern that no source may have
  refuse_if_read : (pattern : List ℕ) → Direct

-- ---- rows

abbrev pub direct_fields : Direct → List (List ℕ)
direct_fields (env name) = codes "env" ∷ name ∷ []
direct_fields (search words) = codes "search" ∷ words
direct_fields (first header) = codes "first" ∷ header ∷ []
direct_fields (named pattern) = codes "named" ∷ pattern ∷ []
direct_fields (refuse_if_read pattern) = codes "refuse-if-read" ∷ pattern ∷ []

abbrev pub direct_entry : Direct → Entry
direct_entry d = row_entry (codes "direct") (direct_fields d)

-- rows `direct`
abbrev pub direct_entries : List Direct → List Entry
direct_entries ds = map direct_entry ds

-- ---- where the mode may be used

-- a value of the word before it, and no name of a file of words
abbrev pub is_value : List ℕ → Bool
is_value word = is_path word && not (starts_with nat_eq word (codes "@"))

-- a run reads nothing more because of the word
abbrev pub is_quiet : Lexicon → Judged → Bool
is_quiet l j = is_plain j.doing || (is_value j.word || is_plain (running_of l j.word))

-- a run names each file of which it shows the text
abbrev pub names_sources : Language → Bool
names_sources language = is_text language || (is_assembler language && needs_c_preprocessing language)

-- the files that its markers name, and those that stand where it searches, are all that a run reads
abbrev pub may_direct_by : Lexicon → Known → Compiler → Parsed → Bool
may_direct_by l k compiler p =
    is_gnu compiler
    && (names_sources p.language
    && (not (list_any (λ word. bytes_eq word hides_header) p.common_args) && (all_known k && list_all (is_quiet l) k.common)))

abbrev pub may_direct : Lexicon → Compiler → Parsed → Bool
may_direct l compiler p = may_direct_by l (known_in l p) compiler p

-- ---- what is searched

-- the value says where a run searches
abbrev pub is_searched : Brings → Bool
is_searched Folder = true
is_searched Header = false
is_searched MacroFile = false
is_searched Other = true
is_searched Dependencies = false
is_searched Unknown = false

-- the words of the preprocessor that say where a run searches
abbrev pub search_words : Given → List (List ℕ)
search_words g = if is_searched g.brings then given_words g else []

-- The record of a run that names the folders that it searches. It reads its input from standard input.
abbrev pub search_record : Known → Parsed → Parsed
search_record k p = record p {
  input = codes "-";
  double_dash_input = false;
  dependency_args = [];
  preprocessor_args = codes "-v" ∷ flat_map search_words k.given;
  common_args = without_output_files p.common_args;
}

-- ---- all of it

-- variables by which a run reads more, or another time
abbrev pub direct_variables : List (List ℕ)
direct_variables =
    codes "CPATH"
    ∷ codes "C_INCLUDE_PATH"
    ∷ codes "CPLUS_INCLUDE_PATH"
    ∷ codes "OBJC_INCLUDE_PATH"
    ∷ codes "OBJCPLUS_INCLUDE_PATH"
    ∷ codes "SOURCE_DATE_EPOCH"
    ∷ []

-- headers that no word and no source names: gcc includes them before all others
abbrev pub implied : List (List ℕ)
implied = codes "stdc-predef.h" ∷ []

-- What names a file in a source: its name stands after the first `<` or `"` of what is found, and ends before the last byte.
abbrev pub naming : List ℕ
naming = codes "(include|import)(_next)?[^!-~\n]*\\(?[^!-~\n]*(<[^>\n]*>|\"[^\"\n]*\")"

-- What reads the time, or what no name in a source says: macros of time, bytes of a file, pragmas, trigraphs and digraphs, an
-- included name that is a macro, a directive after a comment, and a name that is asked for by a macro.
abbrev pub unseen : List (List ℕ)
unseen =
    codes "__(DATE|TIME|TIMESTAMP)__"
    ∷ codes "__has_embed|#[^!-~\n]*embed"
    ∷ codes "ragma.*(dependency|module|pch_preprocess|include_alias)"
    ∷ codes "\\?\\?[/=]"
    ∷ codes "%:[^!-~\n]*[a-z/]"
    ∷ codes "^[^!-~\n]*#[^!-~\n]*(include|include_next|import)([^!-~\n]+[A-Za-z_$]|[^!-~\n]*/)"
    ∷ codes "\\*/[^!-~\n]*#"
    ∷ codes "#[^!-~\n]*/[*]"
    ∷ codes "__has_include(_next)?[^!-~\n]*(\\([^!-~\n]*[!#-;=-~]|/)"
    ∷ codes "define[^!-~\n].*__has_include(_next)?[^!-~\n]*([!-')-~]|$)"
    ∷ []

abbrev pub directs_if : Bool → Known → Compiler → Parsed → List Direct
directs_if may k c p =
    if may
    then map env direct_variables
    ++ map search (marked_runs c (search_record k p))
    ++ map first implied
    ++ map first (headers k ++ macro_files k)
    ++ named naming ∷ map refuse_if_read unseen
    else []

-- what a cache needs in direct mode; nothing if the mode may not be used
abbrev pub directs_by : Lexicon → Known → Compiler → Parsed → List Direct
directs_by l k c p = directs_if (may_direct_by l k c p) k c p

abbrev pub directs : Lexicon → Compiler → Parsed → List Direct
directs l c p = directs_by l (known_in l p) c p
