use Rattle.std.proofs.Common.{◌≡◌, drop}
use Rattle.scl_driver_texts.specs.GnuWords.{gnu_words}
use Rattle.scl_driver_texts.specs.Readers.{left}
use Rattle.scl_driver_texts.proofs.gnu_words.gnu_words.Given as goal

abbrev pub invariant-loop-byte : goal.invariant-loop-byte
invariant-loop-byte l = left l.reader (drop l.byte-index l.text) ≡ gnu_words l.fn.dialect l.text
