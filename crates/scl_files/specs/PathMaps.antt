-- Maps from paths to values.
use Rattle.std.specs.Prelude.{ℕ, cond, List, [], ◌∷◌, Option, None, Some, is_some}
use Rattle.scl_files.specs.Paths.{same_path}

-- the value of the first entry at the path
abbrev pub value_at : {T : Type 0} → List ℕ → List (List ℕ × T) → Option T
value_at path [] = None
value_at path (entry ∷ entries) = cond (same_path entry.0 path) (Some entry.1) (value_at path entries)

-- the entries, with this value in the first entry at the path
abbrev pub replaced_at : {T : Type 0} → List ℕ → T → List (List ℕ × T) → List (List ℕ × T)
replaced_at path value [] = []
replaced_at path value (entry ∷ entries) = cond (same_path entry.0 path) ((entry.0, value) ∷ entries) (entry ∷ replaced_at path value entries)

-- the entries with this value at the path
abbrev pub put_at : {T : Type 0} → List ℕ → T → List (List ℕ × T) → List (List ℕ × T)
put_at path value entries = cond (is_some (value_at path entries)) (replaced_at path value entries) ((path, value) ∷ entries)
