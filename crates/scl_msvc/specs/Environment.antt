-- What the environment adds to a command line: words before and after its own; and its outcome with them.
use Rattle.std.specs.Prelude.{ℕ, ◌==◌, ◌||◌, not, Bool, List, [], ◌∷◌, ◌++◌, map, filter, Option, None, Some, is_some, Result, Ok, codes, if◌then◌else◌, ok_or}
use Rattle.std.specs.Option.{option_map}
use Rattle.std.specs.Str.{bytes_eq, chars}
use Rattle.scl_args.specs.Options.{◌>>=◌}
use Rattle.scl_files.specs.Decoding.{utf8_text}
use Rattle.scl_files.specs.MsvcText.{msvc_arguments}
use Rattle.scl_text.specs.Records.{Parsed, Verdict, because}
use Rattle.scl_files.specs.Views.{Viewed}
use Rattle.scl_msvc_reading.specs.Readings.{reading}

-- the variable whose words come before those of a command line, and the one whose words come after them
abbrev pub front_variable : List ℕ
front_variable = codes "CL"

abbrev pub back_variable : List ℕ
back_variable = codes "_CL_"

abbrev pub is_variable : List ℕ → Bool
is_variable key = bytes_eq key front_variable || bytes_eq key back_variable

-- the environment without the two variables
abbrev pub without_cl_env_vars : List (List ℕ × List ℕ) → List (List ℕ × List ℕ)
without_cl_env_vars pairs = filter (λ pair. not (is_variable pair.0)) pairs

-- the value of the first pair with the key
abbrev pub value_of : List ℕ → List (List ℕ × List ℕ) → Option (List ℕ)
value_of key [] = None
value_of key (pair ∷ pairs) = if bytes_eq pair.0 key then Some pair.1 else value_of key pairs

-- whether one of the two variables has a value
abbrev pub gives_words : List (List ℕ × List ℕ) → Bool
gives_words pairs = is_some (value_of front_variable pairs) || is_some (value_of back_variable pairs)

-- the word, with its first # replaced by =
abbrev pub with_equals : List ℕ → List ℕ
with_equals [] = []
with_equals (byte ∷ bytes) = if byte == 35 then 61 ∷ bytes else byte ∷ with_equals bytes

-- the words of a value, if it is a text
abbrev pub words_in : List ℕ → Option (List (List ℕ))
words_in value = option_map (λ text. map with_equals (msvc_arguments (chars text))) (utf8_text value)

-- the words of a variable; a value must be a text
abbrev pub variable_words : Verdict → Option (List ℕ) → Result (List (List ℕ)) Verdict
variable_words broken None = Ok []
variable_words broken (Some value) = ok_or (words_in value) broken

-- the words of the two variables: those before the words of a command line, and those after them
abbrev pub surroundings : List (List ℕ × List ℕ) → Result (List (List ℕ) × List (List ℕ)) Verdict
surroundings pairs = do
  front ← variable_words (because (codes "CL environment variable value broken")) (value_of front_variable pairs)
  back ← variable_words (because (codes "_CL_ environment variable value broken")) (value_of back_variable pairs)
  Ok (front, back)

-- the words of a command line between those of the two variables
abbrev pub surrounded : List (List ℕ × List ℕ) → List (List ℕ) → Result (List (List ℕ)) Verdict
surrounded pairs words = do
  front ← variable_words (because (codes "CL environment variable value broken")) (value_of front_variable pairs)
  back ← variable_words (because (codes "_CL_ environment variable value broken")) (value_of back_variable pairs)
  Ok (front ++ words ++ back)

-- the outcome of the words between those of the two variables
abbrev pub surrounded_reading : Bool → List ℕ → List (List ℕ × List ℕ) → Viewed → List (List ℕ) → Result Parsed Verdict
surrounded_reading is_clang directory pairs view words = do
  all ← surrounded pairs words
  reading is_clang directory view all
