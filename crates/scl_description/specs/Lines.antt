-- Lines of bytes.
use Rattle.std.specs.Prelude.{ℕ, List, [], ◌∷◌, ◌++◌, Option, Some, None, ◌==◌, if◌then◌else◌}
use Rattle.std.specs.List.{onto_first}
use Rattle.scl_files.specs.Characters.{line_feed}

-- the bytes before a mark and after it, with one more byte in front
abbrev pub with_first : ℕ → Option (List ℕ × List ℕ) → Option (List ℕ × List ℕ)
with_first b None = None
with_first b (Some parts) = Some (b ∷ parts.0, parts.1)

-- the bytes before the first mark and those after it, if there is a mark
abbrev pub cut_at : ℕ → List ℕ → Option (List ℕ × List ℕ)
cut_at mark [] = None
cut_at mark (b ∷ bs) = if b == mark then Some ([], bs) else with_first b (cut_at mark bs)

-- the lines, each up to its LF; the last may have none
abbrev pub lines_of : List ℕ → List (List ℕ)
lines_of [] = []
lines_of (b ∷ bs) = if b == line_feed then [] ∷ lines_of bs else onto_first b (lines_of bs)

-- a text and its LF
abbrev pub line : List ℕ → List ℕ
line text = text ++ line_feed ∷ []
