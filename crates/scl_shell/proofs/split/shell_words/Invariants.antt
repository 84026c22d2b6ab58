use Rattle.std.proofs.Common.{◌≡◌, None, drop}
use Rattle.scl_values.specs.Words.{words_of}
use Rattle.scl_shell.specs.ShellReader.{begun_of}
use Rattle.scl_shell.specs.declared.split.Mode.TheVariants as mode
use Rattle.scl_shell.proofs.ShellLemmas.{before, read_from}
use Rattle.scl_shell.proofs.split.shell_words.Given as goal

abbrev pub invariant-loop-byte : goal.invariant-loop-byte
invariant-loop-byte l = before (words_of l.words.items) (read_from l.mode (begun_of l.begun) (drop l.byte-index l.text)) ≡ read_from mode.Plain None l.text
