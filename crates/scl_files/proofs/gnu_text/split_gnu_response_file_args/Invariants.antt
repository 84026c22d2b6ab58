use Rattle.std.proofs.Common.{◌≡◌, [], ◌++◌}
use Rattle.std.specs.Str.{chars, IsUtf8}
use Rattle.std.specs.Str.Iter.{chars_rest}
use Rattle.std.specs.String.{string_bytes}
use Rattle.scl_values.specs.Words.{words_of}
use Rattle.scl_files.specs.declared.gnu_text.Mode.TheVariants as mode
use Rattle.scl_files.proofs.GnuLemmas.{read_from}
use Rattle.scl_files.proofs.gnu_text.split_gnu_response_file_args.Given as goal

abbrev pub invariant-loop-c : goal.invariant-loop-c
invariant-loop-c l =
    IsUtf8 (chars_rest l.c-iterator)
    × (words_of l.arguments.items ++ read_from l.mode (string_bytes l.argument) (chars (chars_rest l.c-iterator)) ≡ read_from mode.Plain [] (chars l.text))
