use Rattle.std.proofs.Common.{◌≡◌, ◌++◌, take, map}
use Rattle.scl_values.specs.Words.{words_of}
use Rattle.scl_rounds.proofs.search.push_lines.Given as goal

abbrev pub invariant-loop-line : goal.invariant-loop-line
invariant-loop-line l = words_of l.names.items ≡ words_of l.initial.names.items ++ map (λ line. line.now) (take l.line-index l.lines)
