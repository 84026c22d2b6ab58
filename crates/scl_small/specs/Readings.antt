-- The outcome of a command line, for Diab or TaskingVX: a first verdict, and filters over the finished list of its options.
use Rattle.std.specs.Prelude.{ℕ, false, List, [], ◌∷◌, Option, None, Some, Result, Ok, Err, codes, ok_or}
use Rattle.scl_values.specs.Row.{Row}
use Rattle.scl_values.specs.Seen.{Seen}
use Rattle.scl_args.specs.Options.{last_flag, last_text, texts, list, side_of_flag, ◌>>=◌}
use Rattle.scl_files.specs.Paths.{with_extension}
use Rattle.scl_text.specs.Languages.{language_of_file_name}
use Rattle.scl_text.specs.Records.{Parsed, bare_record, artifact, Verdict, NotCompilation}
use Rattle.scl_text.specs.JudgedWords.{judged_cut}
use Rattle.scl_text.specs.Reasons.{unknown_source_language, no_input_file, multiple_input_files}
use Rattle.scl_text.specs.Refusals.{without_text}
use Rattle.scl_text.specs.declared.language.Language.{Language}
use Rattle.scl_small.specs.Places.{goes_to}
use Rattle.scl_small.specs.declared.place.Place.{Place}
use Rattle.scl_small.specs.declared.place.Place.TheVariants as places

module _ {K : Type 0} (place : K → Place) where
  -- the words of the options of this place, in order
  abbrev pub list_at : Place → List (Seen K) → List (List ℕ)
  list_at there os = list side_of_flag (goes_to place there) os

-- the options that words are cut into, judged each by itself; if none is refused, they are tested and recorded; `own` gives a
-- word's owner
abbrev pub reads : {K : Type 0} → (Seen K → Option Verdict) → (List (Seen K) → Result Parsed Verdict) → (List ℕ → Option (Row K)) → List (List ℕ) → Result Parsed Verdict
reads verdict tested own words = do
  options ← judged_cut (λ before. verdict) own false words
  tested options

-- ---- the fixed tests, and the record

-- the only input; several are refused without a text beside the reason
abbrev pub the_only_input : List (List ℕ) → Result (List ℕ) Verdict
the_only_input [] = Err no_input_file
the_only_input (input ∷ []) = Ok input
the_only_input (input ∷ other ∷ inputs) = Err (without_text (multiple_input_files (other ∷ inputs)))

-- the path of the object file: the one that is requested, else the input with extension o
abbrev pub object_path : Option (List ℕ) → List ℕ → List ℕ
object_path None input = with_extension input (codes "o")
object_path (Some path) input = path

-- the path of the dependency file, if one is requested; for an empty path the input with extension d
abbrev pub dependency_path : Option (List ℕ) → List ℕ → Option (List ℕ)
dependency_path None input = None
dependency_path (Some []) input = Some (with_extension input (codes "d"))
dependency_path (Some (byte ∷ path)) input = Some (byte ∷ path)

-- the record of a compilation with this flag, of an input in this language
module _ {K : Type 0} (place : K → Place) where
  abbrev pub record_of : List (Seen K) → List ℕ → List ℕ → Language → Parsed
  record_of os flag input language = record (bare_record input language flag) {
    depfile = dependency_path (last_text (goes_to place places.DepFile) os) input;
    outputs = artifact (codes "obj") (object_path (last_text (goes_to place places.Output) os) input) false ∷ [];
    dependency_args = list_at place places.Dependency os;
    preprocessor_args = list_at place places.Preprocessor os;
    common_args = list_at place places.Common os;
  }

  -- the record of a compilation with this flag, if there is one input, in a known language
  abbrev pub recorded : List (Seen K) → List ℕ → Result Parsed Verdict
  recorded os flag = do
    input ← the_only_input (texts (goes_to place places.Input) os)
    language ← ok_or (language_of_file_name input) unknown_source_language
    Ok (record_of os flag input language)

  -- the fixed tests, and the record; the function gives the flag in the command, by the last flag that requests a compilation
  abbrev pub tested_by : (List ℕ → List ℕ) → List (Seen K) → Result Parsed Verdict
  tested_by flag_for os = do
    flag ← ok_or (last_flag (goes_to place places.CompileFlag) os) NotCompilation
    recorded os (flag_for flag)
