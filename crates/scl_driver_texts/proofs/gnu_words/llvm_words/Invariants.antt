use Rattle.std.proofs.Common.{◌≡◌, ◌++◌, drop, map, filter}
use Rattle.scl_files.specs.GnuText.{is_not_empty}
use Rattle.scl_values.specs.Words.{words_of}
use Rattle.scl_driver_texts.specs.Pieces.{before_nul}
use Rattle.scl_driver_texts.specs.GnuWords.{llvm_words}
use Rattle.scl_driver_texts.proofs.gnu_words.llvm_words.Given as goal

abbrev pub invariant-loop-word : goal.invariant-loop-word
invariant-loop-word l = words_of l.words.items ++ map before_nul (filter is_not_empty (words_of (drop l.word-index l.word-items))) ≡ llvm_words l.fn.text
