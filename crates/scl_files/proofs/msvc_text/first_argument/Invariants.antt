use Rattle.std.proofs.Common.{◌≡◌, [], ◌+◌, ◌≤◌, length, false}
use Rattle.std.specs.Str.{chars, IsUtf8}
use Rattle.std.specs.Str.Iter.{chars_rest}
use Rattle.scl_files.specs.MsvcReader.{read_on}
use Rattle.scl_files.specs.MsvcReader.{reads}
use Rattle.scl_files.proofs.msvc_text.first_argument.Given as goal

abbrev pub invariant-loop-c : goal.invariant-loop-c
invariant-loop-c l = record {
  utf8 : IsUtf8 (chars_rest l.chars);
  room : l.reader.backslashes + length (chars_rest l.chars) ≤ length l.text;
  same : reads l.reader (chars (chars_rest l.chars)) ≡ read_on false [] 0 false (chars l.text);
}

abbrev pub decreases-loop-c : goal.decreases-loop-c
decreases-loop-c l = length (chars_rest l.chars)
