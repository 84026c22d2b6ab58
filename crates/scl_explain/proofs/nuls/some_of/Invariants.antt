use Rattle.std.proofs.Common.{◌≡◌, drop}
use Rattle.scl_values.specs.Words.{words_of}
use Rattle.scl_explain.specs.Nuls.{some_hold_nul}
use Rattle.scl_explain.proofs.nuls.some_of.Given as goal

abbrev pub invariant-loop-word : goal.invariant-loop-word
invariant-loop-word l = some_hold_nul (words_of (drop l.word-index l.words)) ≡ some_hold_nul (words_of l.words)
