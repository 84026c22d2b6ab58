-- The texts of response files that are expanded.
use Rattle.std.specs.Prelude.{ℕ, zero, suc, List, [], ◌++◌, length, Option, None, Some}
use Rattle.std.specs.List.{flat_map}
use Rattle.std.specs.Option.{option_to_list}
use Rattle.scl_files.specs.Views.{File, bytes_at}
use Rattle.scl_files.specs.ResponseFiles.{files_inside}
use Rattle.scl_files.specs.Expand.{OpenFile, opened}
use Rattle.scl_files.specs.declared.expand.ExpansionKind.{ExpansionKind}

-- the text of the file that a word opens, if it opens one, and the texts inside that file
abbrev pub with_text : List File → (OpenFile → List (List ℕ)) → Option OpenFile → List (List ℕ)
with_text files inside None = []
with_text files inside (Some file) = option_to_list (bytes_at file.path files) ++ inside file

-- the texts, if n of the files are not open
abbrev pub texts_within : ℕ → ExpansionKind → List ℕ → List File → List (List ℕ) → List (List ℕ)
texts_within zero kind directory files words = []
texts_within (suc n) kind directory files words =
    flat_map (λ word. with_text files (λ file. texts_within n kind directory (files_inside kind file.path files) file.words) (opened kind directory files word)) words

-- the texts of the files that words open, if none of the files is open, each as often as it is opened
unfoldable pub texts_in_place : ExpansionKind → List ℕ → List File → List (List ℕ) → List (List ℕ)
texts_in_place kind directory files words = texts_within (length files) kind directory files words

-- the texts of the files that one word opens
abbrev pub texts_of : ExpansionKind → List ℕ → List File → List ℕ → List (List ℕ)
texts_of kind directory files word = with_text files (λ file. texts_in_place kind directory (files_inside kind file.path files) file.words) (opened kind directory files word)
