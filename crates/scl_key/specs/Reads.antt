-- The files that the words of a command may read, by what the words hold.
use Rattle.std.specs.Prelude.{ℕ, Bool, false, nat_eq, not, List, [], ◌∷◌, ◌++◌, drop, map, filter, codes, Option, if◌then◌else◌}
use Rattle.std.specs.List.{flat_map, list_any, starts_with}
use Rattle.std.specs.Option.{option_to_list}
use Rattle.scl_files.specs.Paths.{with_extension}
use Rattle.scl_text.specs.Commands.{object_of}
use Rattle.scl_text.specs.Records.{Parsed}
use Rattle.scl_reader.specs.declared.compiler.Compiler.{Compiler}
use Rattle.scl_catalogue.specs.declared.entry.Doing.{Doing}
use Rattle.scl_catalogue.specs.declared.entry.Doing.TheVariants as doings
use Rattle.scl_key.specs.Effects.{Judged, is_comma, is_plain, pieces, until}
use Rattle.scl_key.specs.Families.{is_clang}
use Rattle.scl_key.specs.Known.{Known, headers, macro_files}

-- a text, and what stands after each of its `=`: to its end after the first four, and up to the next after the others
abbrev pub with_values : List ℕ → List (List ℕ)
with_values text = text ∷ pieces 61 4 text

-- the parts between commas, if there are any
abbrev pub comma_parts : List ℕ → List (List ℕ)
comma_parts text = if list_any is_comma text then until 44 text ∷ pieces 44 0 text else []

-- what a word may hold that names a file: itself and each part between commas, and what stands after the `=` of those
abbrev pub values : List ℕ → List (List ℕ)
values word = with_values word ++ flat_map with_values (comma_parts word)

abbrev pub without_at : List ℕ → List ℕ
without_at value = if starts_with nat_eq value (codes "@") then drop 1 value else value

abbrev pub is_path : List ℕ → Bool
is_path [] = false
is_path (byte ∷ bytes) = not (nat_eq byte 45)

-- the paths that a word may name: none of a word that is known to read nothing
abbrev pub paths_by : Judged → List (List ℕ)
paths_by j = if is_plain j.doing then [] else filter is_path (map without_at (values j.word))

-- the profile that a word makes the compiler read, if it has a name that the word does not say
abbrev pub profile_by : Option (List ℕ) → Doing → List (List ℕ)
profile_by object doings.Plain = []
profile_by object doings.Exact = []
profile_by object doings.Macros = []
profile_by object doings.WritesUnnamed = []
profile_by object doings.TextHides = []
profile_by object doings.ReadsCounts = map (λ path. with_extension path (codes "gcda")) (option_to_list object)
profile_by object doings.ReadsSamples = codes "fbdata.afdo" ∷ []

abbrev pub profiles : Known → Parsed → List (List ℕ)
profiles k p = flat_map (λ j. profile_by (object_of p) j.doing) k.common

-- what clang may read in the place of a header that is included first
abbrev pub precompiled : List ℕ → List (List ℕ)
precompiled header = (header ++ codes ".pch") ∷ (header ++ codes ".gch") ∷ []

abbrev pub precompiled_headers : Compiler → Known → List (List ℕ)
precompiled_headers compiler k = if is_clang compiler then flat_map precompiled (headers k) else []

-- all files that may be read, and need not be there
abbrev pub files_perhaps : Known → Compiler → Parsed → List (List ℕ)
files_perhaps k compiler p = flat_map paths_by k.common ++ flat_map paths_by k.unhashed ++ macro_files k ++ profiles k p ++ precompiled_headers compiler k
