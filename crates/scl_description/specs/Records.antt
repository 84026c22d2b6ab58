-- The record of a command line as rows, and the record that rows have.
use Rattle.std.specs.Prelude.{ℕ, Bool, true, false, List, [], ◌∷◌, ◌++◌, map, codes, find, Option, Some, None, unwrap_or, if◌then◌else◌}
use Rattle.std.specs.Str.{bytes_eq}
use Rattle.scl_text.specs.declared.language.Language.{Language}
use Rattle.scl_text.specs.declared.language.Language.TheVariants as languages
use Rattle.scl_text.specs.declared.records.ColorMode.{ColorMode}
use Rattle.scl_text.specs.declared.records.ColorMode.TheVariants as colors
use Rattle.scl_text.specs.Records.{Artifact, artifact, Parsed}
use Rattle.scl_description.specs.Rows.{Entry, entry, words_entry, maybe_entry, yes_entry, row_entry, lone, rests_at, rows_in, entries_text}

-- ---- names of languages and colours

abbrev pub language_text : Language → List ℕ
language_text languages.Assembler = codes "Assembler"
language_text languages.AssemblerToPreprocess = codes "AssemblerToPreprocess"
language_text languages.C = codes "C"
language_text languages.CHeader = codes "CHeader"
language_text languages.GenericHeader = codes "GenericHeader"
language_text languages.Cxx = codes "Cxx"
language_text languages.CxxHeader = codes "CxxHeader"
language_text languages.CxxModule = codes "CxxModule"
language_text languages.ObjectiveC = codes "ObjectiveC"
language_text languages.ObjectiveCHeader = codes "ObjectiveCHeader"
language_text languages.ObjectiveCxx = codes "ObjectiveCxx"
language_text languages.ObjectiveCxxHeader = codes "ObjectiveCxxHeader"
language_text languages.Cuda = codes "Cuda"
language_text languages.Rust = codes "Rust"
language_text languages.Hip = codes "Hip"

abbrev pub all_languages : List Language
all_languages =
    languages.Assembler ∷ languages.AssemblerToPreprocess ∷ languages.C ∷ languages.CHeader ∷ languages.GenericHeader ∷ languages.Cxx ∷ languages.CxxHeader ∷ languages.CxxModule
    ∷ languages.ObjectiveC ∷ languages.ObjectiveCHeader ∷ languages.ObjectiveCxx ∷ languages.ObjectiveCxxHeader ∷ languages.Cuda ∷ languages.Rust ∷ languages.Hip ∷ []

abbrev pub color_text : ColorMode → List ℕ
color_text colors.Off = codes "off"
color_text colors.On = codes "on"
color_text colors.Auto = codes "auto"

abbrev pub all_colors : List ColorMode
all_colors = colors.Off ∷ colors.On ∷ colors.Auto ∷ []

-- ---- a record's rows

-- what follows `output`: the name, the path, and a third field if the file may be missing
abbrev pub output_rest : Artifact → List (List ℕ)
output_rest a = a.name ∷ a.path ∷ (if a.optional then codes "optional" ∷ [] else [])

abbrev pub outputs_entry : List Artifact → Entry
outputs_entry outputs = entry (codes "output") (map output_rest outputs)

-- what is compiled, and how
abbrev pub source_entries : Parsed → List Entry
source_entries p =
    row_entry (codes "input") (lone p.input)
    ∷ yes_entry (codes "double-dash-input") p.double_dash_input
    ∷ row_entry (codes "language") (lone (language_text p.language))
    ∷ row_entry (codes "compilation-flag") (lone p.compilation_flag)
    ∷ []

-- the outputs and the dependency file
abbrev pub output_entries : Parsed → List Entry
output_entries p = maybe_entry (codes "depfile") p.depfile ∷ outputs_entry p.outputs ∷ []

-- the lists of words, one row for each word
abbrev pub list_entries : Parsed → List Entry
list_entries p =
    words_entry (codes "dependency") p.dependency_args
    ∷ words_entry (codes "preprocessor") p.preprocessor_args
    ∷ words_entry (codes "common") p.common_args
    ∷ words_entry (codes "arch") p.arch_args
    ∷ words_entry (codes "unhashed") p.unhashed_args
    ∷ []

-- the files that are read besides the input: those that a distant compiler needs, and those on whose contents the result
-- depends
abbrev pub file_entries : Parsed → List Entry
file_entries p = words_entry (codes "dist") p.extra_dist_files ∷ words_entry (codes "hash") p.extra_hash_files ∷ []

-- the remaining fields
abbrev pub switch_entries : Parsed → List Entry
switch_entries p =
    yes_entry (codes "external-assembler") p.uses_external_assembler
    ∷ yes_entry (codes "show-includes") p.msvc_show_includes
    ∷ yes_entry (codes "explicit-language") p.msvc_explicit_language
    ∷ yes_entry (codes "profile-generate") p.profile_generate
    ∷ row_entry (codes "color") (lone (color_text p.color_mode))
    ∷ yes_entry (codes "no-rewrite-includes-only") p.suppress_rewrite_includes_only
    ∷ maybe_entry (codes "too-hard") p.too_hard_for_preprocessor_cache_mode
    ∷ []

-- the rows of a record
abbrev pub record_entries : Parsed → List Entry
record_entries p = source_entries p ++ output_entries p ++ list_entries p ++ file_entries p ++ switch_entries p

-- the names of these rows
abbrev pub record_names : List (List ℕ)
record_names =
    codes "input" ∷ codes "double-dash-input" ∷ codes "language" ∷ codes "compilation-flag" ∷ codes "depfile" ∷ codes "output"
    ∷ codes "dependency" ∷ codes "preprocessor" ∷ codes "common" ∷ codes "arch" ∷ codes "unhashed" ∷ codes "dist" ∷ codes "hash"
    ∷ codes "external-assembler" ∷ codes "show-includes" ∷ codes "explicit-language" ∷ codes "profile-generate" ∷ codes "color"
    ∷ codes "no-rewrite-includes-only" ∷ codes "too-hard" ∷ []

-- the lines of a record
abbrev pub description_of : Parsed → List ℕ
description_of p = entries_text (record_entries p)

-- ---- the record of rows

abbrev pub first_field : List (List ℕ) → List ℕ
first_field [] = []
first_field (word ∷ rest) = word

abbrev pub words_back : List (List (List ℕ)) → List (List ℕ)
words_back rests = map first_field rests

abbrev pub maybe_back : List (List (List ℕ)) → Option (List ℕ)
maybe_back [] = None
maybe_back (rest ∷ rests) = Some (first_field rest)

-- a word of which there is always a row
abbrev pub word_back : List (List (List ℕ)) → List ℕ
word_back rests = unwrap_or (maybe_back rests) []

abbrev pub yes_back : List (List (List ℕ)) → Bool
yes_back [] = false
yes_back (rest ∷ rests) = true

abbrev pub is_more : List (List ℕ) → Bool
is_more [] = false
is_more (word ∷ rest) = true

abbrev pub output_back : List (List ℕ) → Artifact
output_back [] = artifact [] [] false
output_back (name ∷ []) = artifact name [] false
output_back (name ∷ (path ∷ rest)) = artifact name path (is_more rest)

abbrev pub language_back : List (List (List ℕ)) → Language
language_back rests = unwrap_or (find (λ l. bytes_eq (language_text l) (word_back rests)) all_languages) languages.C

abbrev pub color_back : List (List (List ℕ)) → ColorMode
color_back rests = unwrap_or (find (λ c. bytes_eq (color_text c) (word_back rests)) all_colors) colors.Auto

-- the record, from what follows each name
abbrev pub record_by : (List ℕ → List (List (List ℕ))) → Parsed
record_by at = record {
  input = word_back (at (codes "input"));
  double_dash_input = yes_back (at (codes "double-dash-input"));
  language = language_back (at (codes "language"));
  compilation_flag = word_back (at (codes "compilation-flag"));
  depfile = maybe_back (at (codes "depfile"));
  outputs = map output_back (at (codes "output"));
  dependency_args = words_back (at (codes "dependency"));
  preprocessor_args = words_back (at (codes "preprocessor"));
  common_args = words_back (at (codes "common"));
  arch_args = words_back (at (codes "arch"));
  unhashed_args = words_back (at (codes "unhashed"));
  extra_dist_files = words_back (at (codes "dist"));
  extra_hash_files = words_back (at (codes "hash"));
  uses_external_assembler = yes_back (at (codes "external-assembler"));
  msvc_show_includes = yes_back (at (codes "show-includes"));
  msvc_explicit_language = yes_back (at (codes "explicit-language"));
  profile_generate = yes_back (at (codes "profile-generate"));
  color_mode = color_back (at (codes "color"));
  suppress_rewrite_includes_only = yes_back (at (codes "no-rewrite-includes-only"));
  too_hard_for_preprocessor_cache_mode = maybe_back (at (codes "too-hard"));
}

-- the record of a text. Other rows are ignored, and the order of rows counts only among those with one name. A field without
-- a row is C, `auto`, false or empty
abbrev pub record_in : List ℕ → Parsed
record_in text = record_by (rests_at (rows_in text))
