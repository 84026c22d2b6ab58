use Rattle.std.proofs.Common.{◌≡◌, ℕ, List, ◌++◌, map, take}
use Rattle.std.specs.List.{concat}
use Rattle.scl_values.specs.Words.{words_of}
use Rattle.scl_base_dirs.specs.Bases.{quoted}
use Rattle.scl_base_dirs.specs.Runs.{mapped_text, to_come}
use Rattle.scl_base_dirs.proofs.run.map_pieces.Given as goal

abbrev pub invariant-loop-piece : goal.invariant-loop-piece
invariant-loop-piece l = (following : List ℕ) → l.mapped.items ++ to_come l.mapper following ≡ mapped_text (map (quoted l.fn.quoting) (words_of l.dirs)) (concat (words_of (take l.piece-index l.pieces)) ++ following)
