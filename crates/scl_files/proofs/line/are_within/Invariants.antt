use Rattle.std.proofs.Common.{◌≡◌, ℕ, ◌+◌, ◌≤◌, length, take}
use Rattle.scl_values.specs.Words.{words_of}
use Rattle.scl_files.specs.Within.{bytes_in}
use Rattle.scl_files.proofs.line.are_within.Given as goal

abbrev pub invariant-loop-word : goal.invariant-loop-word
invariant-loop-word l = record {
  left : l.left + bytes_in (words_of (take l.word-index l.fn.words)) ≡ l.fn.most.bytes;
  few : length l.fn.words ≤ l.fn.most.words;
}
