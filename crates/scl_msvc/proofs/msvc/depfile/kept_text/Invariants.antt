use Rattle.std.proofs.Common.{◌≡◌, ◌∷◌, [], ◌++◌, filter}
use Rattle.scl_files.specs.Characters.{line_feed}
use Rattle.scl_msvc.specs.Depfile.{ended_by, is_kept, kept_text}
use Rattle.scl_msvc.proofs.msvc.depfile.kept_text.Given as goal

abbrev pub invariant-loop-line : goal.invariant-loop-line
invariant-loop-line l = l.kept.items ++ ended_by (line_feed ∷ []) (filter (is_kept l.keeps_all l.prefix) l.line-iterator) ≡ kept_text l.keeps_all l.prefix l.fn.stderr
