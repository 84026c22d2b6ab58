-- What holds of every expansion.
use Rattle.std.specs.Prelude.{◌≡◌, ℕ, false, List, [], ◌∷◌, ◌++◌, Some, None, is_some}
use Rattle.std.specs.List.{list_any}
use Rattle.scl_values.specs.Each.{Each}
use Rattle.scl_files.specs.Paths.{same_path}
use Rattle.scl_files.specs.Views.{File, bytes_at}
use Rattle.scl_files.specs.ResponseFiles.{file_name_in, named, arguments, files_inside}
use Rattle.scl_files.specs.Expand.{OpenFile, opened, in_place, expand}
use Rattle.scl_files.specs.declared.expand.ExpansionKind.{ExpansionKind}
use Rattle.scl_files.specs.declared.expand.ExpansionKind.TheVariants as kinds

-- a word gives itself, or the expansion of the words of its file while that file is open; then the other words follow
abbrev pub WordsAreExpandedOneByOne : Type 0
WordsAreExpandedOneByOne =
    (kind : ExpansionKind) (directory : List ℕ) (files : List File) (word : List ℕ) (words : List (List ℕ))
    → expand kind directory files (word ∷ words)
    ≡ in_place word (λ file. expand kind directory (files_inside kind file.path files) file.words) (opened kind directory files word)
    ++ expand kind directory files words

abbrev pub WordsOfMsvcFilesStand : Type 0
WordsOfMsvcFilesStand =
    (directory : List ℕ) (files : List File) (word : List ℕ) (words : List (List ℕ))
    → expand kinds.Msvc directory files (word ∷ words)
    ≡ in_place word (λ file. file.words) (opened kinds.Msvc directory files word) ++ expand kinds.Msvc directory files words

abbrev pub AbsentFilesLeaveTheirWords : Type 0
AbsentFilesLeaveTheirWords =
    (kind : ExpansionKind) (directory : List ℕ) (files : List File) (word path : List ℕ) (words : List (List ℕ))
    → named kind directory word ≡ Some path → bytes_at path files ≡ None
    → expand kind directory files (word ∷ words) ≡ word ∷ expand kind directory files words

abbrev pub UnreadableFilesLeaveTheirWords : Type 0
UnreadableFilesLeaveTheirWords =
    (kind : ExpansionKind) (directory : List ℕ) (files : List File) (word path bytes : List ℕ) (words : List (List ℕ))
    → named kind directory word ≡ Some path → bytes_at path files ≡ Some bytes → arguments kind bytes ≡ None
    → expand kind directory files (word ∷ words) ≡ word ∷ expand kind directory files words

abbrev pub OpenFilesAreAbsentInside : Type 0
OpenFilesAreAbsentInside = (kind : ExpansionKind) (path : List ℕ) (files : List File) → bytes_at path (files_inside kind path files) ≡ None

abbrev pub PlainWordsStand : Type 0
PlainWordsStand =
    (kind : ExpansionKind) (directory : List ℕ) (files : List File) (words : List (List ℕ))
    → list_any (λ word. is_some (file_name_in kind word)) words ≡ false → expand kind directory files words ≡ words

-- the paths of open files, each named by a word while the ones before it are open
pub data IsChain (kind : ExpansionKind) (directory : List ℕ) : List File → List (List ℕ) → Type 0 where
  none : (files : List File) → IsChain kind directory files []
  opens : (files : List File) (word : List ℕ) (open_file : OpenFile) (paths : List (List ℕ)) → opened kind directory files word ≡ Some open_file
      → IsChain kind directory (files_inside kind open_file.path files) paths → IsChain kind directory files (open_file.path ∷ paths)

-- no two of the paths have the same components
abbrev pub AllApart : List (List ℕ) → Type 0
AllApart [] = Unit {0}
AllApart (path ∷ paths) = Each (λ other. same_path path other ≡ false) paths × AllApart paths

abbrev pub EachFileIsOpenOnce : Type 0
EachFileIsOpenOnce = (kind : ExpansionKind) (directory : List ℕ) (files : List File) (paths : List (List ℕ)) → IsChain kind directory files paths → AllApart paths
