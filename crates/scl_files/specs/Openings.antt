-- Which files an expansion opens, and whether its words and openings are within limits.
use Rattle.std.specs.Prelude.{ℕ, zero, suc, ◌&&◌, nat_le, not, Bool, filter, List, [], ◌∷◌, length, Option, None, Some}
use Rattle.std.specs.List.{flat_map}
use Rattle.std.specs.Option.{option_to_list}
use Rattle.scl_files.specs.Paths.{same_path}
use Rattle.scl_files.specs.Views.{File, bytes_at}
use Rattle.scl_files.specs.ResponseFiles.{files_inside}
use Rattle.scl_files.specs.Expand.{OpenFile, opened, expand}
use Rattle.scl_files.specs.Within.{bytes_in, is_within}
use Rattle.scl_files.specs.declared.expand.ExpansionKind.{ExpansionKind}
use Rattle.scl_files.specs.declared.expand.Limits.{Limits}

-- the path of the file that a word opens, if it opens one, and what is opened inside that file
abbrev pub opening : (OpenFile → List (List ℕ)) → Option OpenFile → List (List ℕ)
opening inside None = []
opening inside (Some file) = file.path ∷ inside file

-- the openings, if n of the files are not open
abbrev pub openings_within : ℕ → ExpansionKind → List ℕ → List File → List (List ℕ) → List (List ℕ)
openings_within zero kind directory files words = []
openings_within (suc n) kind directory files words =
    flat_map (λ word. opening (λ file. openings_within n kind directory (files_inside kind file.path files) file.words) (opened kind directory files word)) words

-- the paths of the files that the words open, if none of the files is open: in order, each as often as it is opened
unfoldable pub openings : ExpansionKind → List ℕ → List File → List (List ℕ) → List (List ℕ)
openings kind directory files words = openings_within (length files) kind directory files words

-- the texts of the files at the paths
abbrev pub texts_at : List File → List (List ℕ) → List (List ℕ)
texts_at files paths = flat_map (λ path. option_to_list (bytes_at path files)) paths

-- whether there are no more of these openings than the limits allow, and no more bytes in the texts, each as often as it is
-- opened
abbrev pub are_opened_within : Limits → List File → List (List ℕ) → Bool
are_opened_within most files paths = nat_le (length paths) most.words && nat_le (bytes_in (texts_at files paths)) most.bytes

-- whether the words of the expansion and its openings are within the limits
abbrev pub is_expanded_within : Limits → ExpansionKind → List ℕ → List File → List (List ℕ) → Bool
is_expanded_within most kind directory files words =
    is_within most (expand kind directory files words) && are_opened_within most files (openings kind directory files words)

-- each path at its first occurrence
abbrev pub each_once : List (List ℕ) → List (List ℕ)
each_once [] = []
each_once (path ∷ paths) = path ∷ filter (λ other. not (same_path path other)) (each_once paths)

-- the texts of the files that the words open, each once, however often it is opened
unfoldable pub texts_once : ExpansionKind → List ℕ → List File → List (List ℕ) → List (List ℕ)
texts_once kind directory files words = texts_at files (each_once (openings kind directory files words))
