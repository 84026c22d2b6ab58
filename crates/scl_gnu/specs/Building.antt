-- The words of a compile command.
use Rattle.std.specs.Prelude.{ℕ, List, [], ◌∷◌, ◌++◌, Option, None, Some, codes}
use Rattle.scl_args.specs.Options.{dash_words}
use Rattle.scl_text.specs.declared.records.ColorMode.{ColorMode}
use Rattle.scl_text.specs.declared.records.ColorMode.TheVariants as colors
use Rattle.scl_text.specs.Commands.{command_by}
use Rattle.scl_text.specs.Records.{Parsed}

abbrev pub language_words : Option (List ℕ) → List (List ℕ)
language_words None = []
language_words (Some text) = codes "-x" ∷ text ∷ []

abbrev pub color_words : ColorMode → List (List ℕ)
color_words colors.Off = []
color_words colors.On = codes "-fdiagnostics-color=always" ∷ []
color_words colors.Auto = codes "-fdiagnostics-color=always" ∷ []

-- the compile flag and the path of the object
abbrev pub front_words : Option (List ℕ) → List ℕ → Parsed → List (List ℕ)
front_words text object p = language_words text ++ p.compilation_flag ∷ codes "-o" ∷ object ∷ []

abbrev pub lists_in_order : (preprocessor dependency unhashed common arch : List (List ℕ)) → List (List ℕ)
lists_in_order preprocessor dependency unhashed common arch = preprocessor ++ dependency ++ unhashed ++ common ++ arch

abbrev pub list_words : Parsed → List (List ℕ)
list_words p = lists_in_order p.preprocessor_args p.dependency_args p.unhashed_args p.common_args p.arch_args

abbrev pub input_words : Parsed → List (List ℕ)
input_words p = dash_words p.double_dash_input ++ p.input ∷ []

abbrev pub back_words : Parsed → List (List ℕ)
back_words p = color_words p.color_mode ++ input_words p

-- with this text for the language and this object
abbrev pub command_words : Option (List ℕ) → Parsed → List ℕ → List (List ℕ)
command_words text p object = front_words text object p ++ list_words p ++ back_words p

-- the words of the command, if the record has an object
abbrev pub command : Option (List ℕ) → Parsed → Option (List (List ℕ))
command text p = command_by (command_words text) p
