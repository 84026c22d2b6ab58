-- Words with response files expanded.
use Rattle.std.specs.Prelude.{ℕ, zero, suc, List, [], ◌∷◌, length, Option, None, Some}
use Rattle.std.specs.List.{flat_map}
use Rattle.std.specs.Option.{option_and_then}
use Rattle.scl_files.specs.Views.{File, bytes_at}
use Rattle.scl_files.specs.ResponseFiles.{named, arguments, files_inside}
use Rattle.scl_files.specs.declared.expand.ExpansionKind.{ExpansionKind}

-- an open file, and the words left in it
pub record OpenFile : Type 0 where
  pub path : List ℕ
  pub words : List (List ℕ)

abbrev pub open_file_at : List ℕ → Option (List (List ℕ)) → Option OpenFile
open_file_at path None = None
open_file_at path (Some words) = Some (record { path = path; words = words })

-- the file among these that the word names, if its text can be read
unfoldable pub opened : ExpansionKind → List ℕ → List File → List ℕ → Option OpenFile
opened kind directory files word =
    option_and_then (λ path. open_file_at path (option_and_then (arguments kind) (bytes_at path files))) (named kind directory word)

-- the word, or what is in the file that it names
abbrev pub in_place : List ℕ → (OpenFile → List (List ℕ)) → Option OpenFile → List (List ℕ)
in_place word words_in None = word ∷ []
in_place word words_in (Some file) = words_in file

-- the expanded words, if n of the files are not open
abbrev pub expand_within : ℕ → ExpansionKind → List ℕ → List File → List (List ℕ) → List (List ℕ)
expand_within zero kind directory files words = words
expand_within (suc n) kind directory files words =
    flat_map (λ word. in_place word (λ file. expand_within n kind directory (files_inside kind file.path files) file.words) (opened kind directory files word)) words

-- the expanded words, if none of the files is open: a word that names one of them gives the words of that file, expanded
-- while it is open
unfoldable pub expand : ExpansionKind → List ℕ → List File → List (List ℕ) → List (List ℕ)
expand kind directory files words = expand_within (length files) kind directory files words
