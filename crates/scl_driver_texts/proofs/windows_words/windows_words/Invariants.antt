use Rattle.std.proofs.Common.{◌≡◌, ◌≤◌, drop}
use Rattle.scl_driver_texts.specs.WindowsWords.{pieces, windows_words}
use Rattle.scl_driver_texts.specs.Readers.{made}
use Rattle.scl_windows_words.specs.Reading.{left_in}
use Rattle.scl_driver_texts.proofs.windows_words.windows_words.Given as goal

abbrev pub invariant-loop-byte : goal.invariant-loop-byte
invariant-loop-byte l = record {
  left : made l.words (pieces (left_in l.reader (drop l.byte-index l.text))) ≡ windows_words l.fn.text;
  count : l.reader.backslashes ≤ l.byte-index;
}
