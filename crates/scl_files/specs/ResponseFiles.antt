-- How a word names a response file, and which words the file has.
use Rattle.std.specs.Prelude.{ℕ, ◌==◌, ◌&&◌, ◌||◌, not, Bool, true, false, cond, filter, List, [], ◌∷◌, Option, None, Some}
use Rattle.std.specs.Option.{option_map, option_and_then}
use Rattle.std.specs.Str.{chars}
use Rattle.scl_files.specs.Characters.{at_sign, capital_e, capital_o, dash}
use Rattle.scl_files.specs.Paths.{join, same_path}
use Rattle.scl_files.specs.Views.{File}
use Rattle.scl_files.specs.GnuText.{gnu_arguments}
use Rattle.scl_files.specs.MsvcText.{msvc_arguments}
use Rattle.scl_files.specs.DiabText.{diab_arguments}
use Rattle.scl_files.specs.Decoding.{utf8_text, decoded}
use Rattle.scl_files.specs.declared.expand.ExpansionKind.{ExpansionKind}
use Rattle.scl_files.specs.declared.expand.ExpansionKind.TheVariants as kinds

-- what follows `@`
abbrev pub name_behind_at : List ℕ → Option (List ℕ)
name_behind_at [] = None
name_behind_at (b ∷ name) = cond (b == at_sign) (Some name) None

-- the name begins with E, O or @
abbrev pub is_reserved : List ℕ → Bool
is_reserved [] = false
is_reserved (b ∷ name) = b == capital_e || b == capital_o || b == at_sign

-- what follows `-@`, unless it is reserved
abbrev pub name_behind_dash_at : List ℕ → Option (List ℕ)
name_behind_dash_at [] = None
name_behind_dash_at (a ∷ []) = None
name_behind_dash_at (a ∷ (b ∷ name)) = cond (a == dash && b == at_sign && not (is_reserved name)) (Some name) None

-- the name of the file that the word names
abbrev pub file_name_in : ExpansionKind → List ℕ → Option (List ℕ)
file_name_in kinds.Gnu word = name_behind_at word
file_name_in kinds.Msvc word = name_behind_at word
file_name_in kinds.Diab word = name_behind_dash_at word

-- the path, from the directory, of the file that the word names
unfoldable pub named : ExpansionKind → List ℕ → List ℕ → Option (List ℕ)
named kind directory word = option_map (join directory) (file_name_in kind word)

-- the words in a file's bytes, if these are a text that can be read
unfoldable pub arguments : ExpansionKind → List ℕ → Option (List (List ℕ))
arguments kinds.Gnu bytes = option_map (λ text. gnu_arguments (chars text)) (utf8_text bytes)
arguments kinds.Msvc bytes = option_map (λ text. msvc_arguments (chars text)) (decoded bytes)
arguments kinds.Diab bytes = option_and_then (λ text. diab_arguments (chars text)) (utf8_text bytes)

-- while a file is open at the first path, no word opens one at the second
abbrev pub hides : ExpansionKind → List ℕ → List ℕ → Bool
hides kinds.Gnu path other = same_path path other
hides kinds.Msvc path other = true
hides kinds.Diab path other = same_path path other

-- the files that the words of the file at the path may name
abbrev pub files_inside : ExpansionKind → List ℕ → List File → List File
files_inside kind path files = filter (λ file. not (hides kind path file.path)) files
