use Rattle.std.proofs.Common.{◌≡◌, ◌++◌, take, map}
use Rattle.scl_values.specs.Words.{words_of}
use Rattle.scl_rounds.specs.Headers.{compiled}
use Rattle.scl_rounds.proofs.header.push_all_compiled.Given as goal

abbrev pub invariant-loop-header : goal.invariant-loop-header
invariant-loop-header l = words_of l.paths.items ≡ words_of l.initial.paths.items ++ map compiled (words_of (take l.header-index l.headers))
