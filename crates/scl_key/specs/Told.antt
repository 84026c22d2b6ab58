-- What of a command line is hashed as it stands: made from the whole record, less what runs show.
use Rattle.std.specs.Prelude.{ℕ, Bool, true, false, not, ◌&&◌, ◌||◌, List, [], ◌∷◌, ◌++◌, map, filter, codes, None, if◌then◌else◌}
use Rattle.std.specs.List.{flat_map}
use Rattle.std.specs.Str.{bytes_eq}
use Rattle.scl_text.specs.Records.{Parsed}
use Rattle.scl_description.specs.Rows.{Entry, entry_rows}
use Rattle.scl_description.specs.Records.{first_field, record_entries}
use Rattle.scl_reader.specs.declared.compiler.Compiler.{Compiler}
use Rattle.scl_reader.specs.Compilers.{name_of}
use Rattle.scl_catalogue.specs.Lookup.{Lexicon}
use Rattle.scl_key.specs.Known.{shows}
use Rattle.scl_key.specs.Parts.{Part, is}

-- which words a cache runs at a miss
pub data RunWords : Type 0 where
  -- those of the built command
  built : RunWords
  -- the given ones, with the response files that they name
  given : (words files : List (List ℕ)) → RunWords
  -- none whose outcome may be kept, because of this hazard
  hazardous : (hazard : List ℕ) → RunWords

-- the record, less what runs show, and what no command takes
abbrev pub record_told : (is_shown : Bool) → Parsed → Parsed
record_told is_shown p = record p {
  preprocessor_args = if is_shown then [] else p.preprocessor_args;
  extra_dist_files = [];
  too_hard_for_preprocessor_cache_mode = None;
}

abbrev pub key_record : Lexicon → Compiler → Parsed → Parsed
key_record l compiler p = record_told (shows l compiler p) p

abbrev pub yes_or_no : Bool → List ℕ
yes_or_no true = codes "yes"
yes_or_no false = codes "no"

-- keys and values, one after the other
abbrev pub flat_pairs : List (List ℕ × List ℕ) → List (List ℕ)
flat_pairs [] = []
flat_pairs (pair ∷ pairs) = pair.0 ∷ pair.1 ∷ flat_pairs pairs

abbrev pub run_words_fields : RunWords → List (List ℕ)
run_words_fields built = codes "built" ∷ []
run_words_fields (given words files) = codes "given" ∷ words
run_words_fields (hazardous hazard) = codes "none" ∷ hazard ∷ []

-- the facts beside the record, where runs show the words of the preprocessor or do not
abbrev pub facts_shown : Compiler → (environment : List (List ℕ × List ℕ)) → RunWords → Bool → List Part
facts_shown compiler environment words is_shown =
    is (codes "version" ∷ codes "1" ∷ [])
    ∷ is (codes "compiler" ∷ name_of compiler ∷ [])
    ∷ is (codes "shown" ∷ yes_or_no is_shown ∷ [])
    ∷ is (codes "run-words" ∷ run_words_fields words)
    ∷ is (codes "environment" ∷ flat_pairs environment)
    ∷ []

-- the names of rows that a key leaves out
abbrev pub is_left_out : Bool → List ℕ → Bool
is_left_out is_shown name = bytes_eq name (codes "dist") || (bytes_eq name (codes "too-hard") || (is_shown && bytes_eq name (codes "preprocessor")))

-- the rows of a record that a key has
abbrev pub kept_rows : Bool → List (List (List ℕ)) → List (List (List ℕ))
kept_rows is_shown rows = filter (λ row. not (is_left_out is_shown (first_field row))) rows

-- the rows of an entry of a record
unfoldable pub told_entry : Entry → List Part
told_entry e = map is (entry_rows e)

abbrev pub told_entries : List Entry → List Part
told_entries entries = flat_map told_entry entries

-- the parts that are facts
abbrev pub told_by : (is_shown : Bool) → Compiler → (environment : List (List ℕ × List ℕ)) → RunWords → Parsed → List Part
told_by is_shown compiler environment words p = facts_shown compiler environment words is_shown ++ told_entries (record_entries (record_told is_shown p))

abbrev pub told : Lexicon → Compiler → (environment : List (List ℕ × List ℕ)) → RunWords → Parsed → List Part
told l compiler environment words p = told_by (shows l compiler p) compiler environment words p
