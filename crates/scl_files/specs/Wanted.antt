-- Which files an expansion asks for that are not among these.
use Rattle.std.specs.Prelude.{◌≡◌, ℕ, List, [], ◌∷◌, Option, None, Some}
use Rattle.std.specs.List.{flat_map}
use Rattle.scl_values.specs.Each.{Each}
use Rattle.scl_files.specs.Views.{File, bytes_at}
use Rattle.scl_files.specs.ResponseFiles.{named}
use Rattle.scl_files.specs.Expand.{expand}
use Rattle.scl_files.specs.declared.expand.ExpansionKind.{ExpansionKind}
use Rattle.scl_files.specs.declared.expand.ExpansionKind.TheVariants as kinds

-- the path, if nothing was found there
abbrev pub if_absent : List ℕ → Option (List ℕ) → List (List ℕ)
if_absent path None = path ∷ []
if_absent path (Some bytes) = []

-- the path that a word names, if it names one and none of the files is there
abbrev pub lacked_at : List File → Option (List ℕ) → List (List ℕ)
lacked_at files None = []
lacked_at files (Some path) = if_absent path (bytes_at path files)

abbrev pub lacked_by : ExpansionKind → List ℕ → List File → List ℕ → List (List ℕ)
lacked_by kind directory files word = lacked_at files (named kind directory word)

-- the paths that words name and at which there is none of the files
abbrev pub lacked : ExpansionKind → List ℕ → List File → List (List ℕ) → List (List ℕ)
lacked kind directory files words = flat_map (lacked_by kind directory files) words

-- the words that may name an absent file. Of GNU and Diab these are the words after expansion, because a word that names an
-- absent file stays; of MSVC the given words, because words inside its files name none
abbrev pub words_asked : ExpansionKind → List ℕ → List File → List (List ℕ) → List (List ℕ)
words_asked kinds.Gnu directory files words = expand kinds.Gnu directory files words
words_asked kinds.Msvc directory files words = words
words_asked kinds.Diab directory files words = expand kinds.Diab directory files words

-- the paths of the absent files that the expansion would open
unfoldable pub wanted : ExpansionKind → List ℕ → List File → List (List ℕ) → List (List ℕ)
wanted kind directory files words = lacked kind directory files (words_asked kind directory files words)

-- each of the files is on the disk, with the same bytes
abbrev pub HasFiles : List File → List File → Type 0
HasFiles disk files = (path bytes : List ℕ) → bytes_at path files ≡ Some bytes → bytes_at path disk ≡ Some bytes

-- the disk has no file at these paths
abbrev pub HasNone : List File → List (List ℕ) → Type 0
HasNone disk paths = Each (λ path. bytes_at path disk ≡ None) paths

-- if the disk has these files, and none of the others that are wanted, it gives the same words
abbrev pub WantedFilesDecide : Type 0
WantedFilesDecide =
    (kind : ExpansionKind) (directory : List ℕ) (files disk : List File) (words : List (List ℕ))
    → HasFiles disk files → HasNone disk (wanted kind directory files words)
    → expand kind directory disk words ≡ expand kind directory files words
