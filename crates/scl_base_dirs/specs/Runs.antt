-- A preprocessed text whose line markers tell names by their bases.
use Rattle.std.specs.Prelude.{ℕ, Bool, cond, List, [], ◌∷◌, ◌++◌}
use Rattle.std.specs.List.{join_with_byte}
use Rattle.scl_base_dirs.specs.Cuts.{has_none, parts}
use Rattle.scl_base_dirs.specs.Markers.{begins_raw, mapped_line}

abbrev pub line_feed : ℕ
line_feed = 10

-- the lines: each marker up to the first line in which a raw string may begin is mapped
abbrev pub mapped_lines : List (List ℕ) → List (List ℕ) → List (List ℕ)
mapped_lines dirs [] = []
mapped_lines dirs (line ∷ lines) = mapped_line dirs line ∷ cond (begins_raw line) lines (mapped_lines dirs lines)

-- a whole text; the directories are quoted as names in markers are
abbrev pub mapped_text : List (List ℕ) → List ℕ → List ℕ
mapped_text dirs text = join_with_byte line_feed (mapped_lines dirs (parts line_feed text))

-- no byte ends a line
abbrev pub is_one_line : List ℕ → Bool
is_one_line text = has_none line_feed text

-- a text of which some is mapped: the directories, quoted; the line that has begun; whether a raw string may have begun before
pub record Mapping : Type 0 where
  pub dirs : List (List ℕ)
  pub begun : List ℕ
  pub is_raw : Bool

-- what is still to come of the mapped text, if this follows
abbrev pub to_come : Mapping → List ℕ → List ℕ
to_come mapping text = cond mapping.is_raw (mapping.begun ++ text) (mapped_text mapping.dirs (mapping.begun ++ text))
