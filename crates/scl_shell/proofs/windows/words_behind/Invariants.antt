use Rattle.std.proofs.Common.{◌≡◌, ◌≤◌, drop}
use Rattle.scl_shell.specs.WindowsText.{words_behind}
use Rattle.scl_shell.specs.WindowsReader.{made}
use Rattle.scl_windows_words.specs.Reading.{left_in}
use Rattle.scl_shell.proofs.windows.words_behind.Given as goal

abbrev pub invariant-loop-byte : goal.invariant-loop-byte
invariant-loop-byte l = record {
  left : made l.words (left_in l.reader (drop l.byte-index l.text)) ≡ words_behind l.fn.text;
  count : l.reader.backslashes ≤ l.byte-index;
}
