-- What a view has: files, directories and other paths that exist. Paths are compared by their components.
use Rattle.std.specs.Prelude.{ℕ, Bool, false, cond, ◌||◌, List, [], ◌∷◌, Option, None, Some, is_some, Vec}
use Rattle.std.specs.List.{list_any}
use Rattle.std.specs.declared.alloc.Global.{Global}
use Rattle.scl_files.specs.Paths.{same_path}

pub record File : Type 0 where
  pub path : List ℕ
  pub bytes : List ℕ

-- what was added, the newest first; a file that is added again keeps its place
pub record Viewed : Type 0 where
  pub files : List File
  pub directories : List (List ℕ)
  pub existing : List (List ℕ)
  pub is_multiarch : Bool

abbrev pub empty_view : Viewed
empty_view = record { files = []; directories = []; existing = []; is_multiarch = false }

-- the bytes of the newest file at the path, if there is one
abbrev pub bytes_at : List ℕ → List File → Option (List ℕ)
bytes_at path [] = None
bytes_at path (file ∷ files) = cond (same_path file.path path) (Some file.bytes) (bytes_at path files)

-- the file's bytes in place of those of the newest file at its path
abbrev pub with_bytes : File → List File → List File
with_bytes file [] = []
with_bytes file (other ∷ files) = cond (same_path other.path file.path) (record { path = other.path; bytes = file.bytes } ∷ files) (other ∷ with_bytes file files)

-- the files with one more; it replaces one at the same path
abbrev pub put_file : File → List File → List File
put_file file files = cond (is_some (bytes_at file.path files)) (with_bytes file files) (file ∷ files)

-- whether the path is among these
abbrev pub is_among : List ℕ → List (List ℕ) → Bool
is_among path others = list_any (λ other. same_path other path) others

abbrev pub is_directory : List ℕ → Viewed → Bool
is_directory path view = is_among path view.directories

-- there is a file or a directory at the path, or it was added as existing
abbrev pub exists : List ℕ → Viewed → Bool
exists path view = is_some (bytes_at path view.files) || (is_directory path view || is_among path view.existing)

-- an entry of a map as a file of the view
abbrev pub file_of : List ℕ × Vec ℕ Global → File
file_of entry = record { path = entry.0; bytes = entry.1.items }

abbrev pub entry_path : {T : Type 0} → List ℕ × T → List ℕ
entry_path entry = entry.0
