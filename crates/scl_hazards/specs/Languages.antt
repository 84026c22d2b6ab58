-- The language in which the given command compiles the input, and that of the built command.
use Rattle.std.specs.Prelude.{ℕ, Bool, true, false, cond, not, ◌&&◌, nat_eq, List, [], ◌∷◌, drop, codes, Option, None, Some}
use Rattle.std.specs.List.{starts_with}
use Rattle.std.specs.Option.{option_or}
use Rattle.std.specs.Str.{bytes_eq}
use Rattle.scl_catalogue.specs.Found.{OptionSeen}
use Rattle.scl_catalogue.specs.declared.seen.Standing.{Standing}
use Rattle.scl_catalogue.specs.declared.seen.Standing.TheVariants as standing
use Rattle.scl_gnu_reading.specs.FixedTests.{language_of}
use Rattle.scl_text.specs.Languages.{language_of_gcc_text}
use Rattle.scl_text.specs.contracts.language.LanguagePartialEq.TheImpl as languages
use Rattle.scl_text.specs.declared.language.Language.{Language}
use Rattle.scl_text.specs.declared.language.Language.TheVariants as language

-- the text of a language that the long spelling names
abbrev pub long_text : List ℕ → Option (List ℕ)
long_text word = cond (starts_with nat_eq word (codes "--language=")) (Some (drop 11 word)) None

abbrev pub long_by : Standing → List ℕ → Option (List ℕ)
long_by standing.Raw name = None
long_by standing.Unknown name = long_text name
long_by standing.Known name = None

abbrev pub long_language : OptionSeen → Option (List ℕ)
long_language o = long_by o.standing o.name

abbrev pub text_by : Standing → (name kind value : List ℕ) → Option (List ℕ)
text_by standing.Raw name kind value = None
text_by standing.Unknown name kind value = long_text name
text_by standing.Known name kind value = cond (bytes_eq kind (codes "language")) (Some value) None

-- the text of a language that the option names in either spelling
abbrev pub language_text : OptionSeen → Option (List ℕ)
language_text o = text_by o.standing o.name o.kind o.value

abbrev pub is_raw : Standing → Bool
is_raw standing.Raw = true
is_raw standing.Unknown = false
is_raw standing.Known = false

abbrev pub is_input : OptionSeen → Bool
is_input o = is_raw o.standing && not (bytes_eq o.name (codes "--"))

-- the text of the language that was named last before the input, after this one
abbrev pub text_at_input : Option (List ℕ) → List OptionSeen → Option (List ℕ)
text_at_input text [] = text
text_at_input text (o ∷ os) = cond (is_input o) text (text_at_input (option_or (language_text o) text) os)

-- the text of the language that the long spelling named last, after this one
abbrev pub last_long_text : Option (List ℕ) → List OptionSeen → Option (List ℕ)
last_long_text text [] = text
last_long_text text (o ∷ os) = last_long_text (option_or (long_language o) text) os

-- the language of the built command: that of the record, unless the long spelling names one, which comes after
abbrev pub language_built : Language → Option (List ℕ) → Option Language
language_built language None = Some language
language_built language (Some text) = language_of_gcc_text text

abbrev pub same_language : Option Language → Option Language → Bool
same_language None None = true
same_language None (Some b) = false
same_language (Some a) None = false
same_language (Some a) (Some b) = languages.ghosts.eq a b

-- by the driver, the input, the language of the record and the options
abbrev pub is_other_language : Bool → List ℕ → Language → List OptionSeen → Bool
is_other_language plusplus input language options =
    not (same_language (language_of plusplus (text_at_input None options) input) (language_built language (last_long_text None options)))

-- the name by which a catalogue calls a language
abbrev pub language_name : Language → List ℕ
language_name language.Assembler = codes "assembler"
language_name language.AssemblerToPreprocess = codes "assembler-with-cpp"
language_name language.C = codes "c"
language_name language.CHeader = codes "c-header"
language_name language.GenericHeader = codes "header"
language_name language.Cxx = codes "c++"
language_name language.CxxHeader = codes "c++-header"
language_name language.CxxModule = codes "c++-module"
language_name language.ObjectiveC = codes "objective-c"
language_name language.ObjectiveCHeader = codes "objective-c-header"
language_name language.ObjectiveCxx = codes "objective-c++"
language_name language.ObjectiveCxxHeader = codes "objective-c++-header"
language_name language.Cuda = codes "cuda"
language_name language.Rust = codes "rs"
language_name language.Hip = codes "hip"
