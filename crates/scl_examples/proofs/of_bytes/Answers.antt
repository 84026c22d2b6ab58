use Rattle.std.proofs.Common.{rules}
use Rattle.std.specs.Char.Utf16.{utf16_chars}
use Rattle.std.specs.Str.{is_utf8, chars}
use Rattle.scl_files.specs.Decoding.{decoded}
use Rattle.scl_examples.proofs.of_bytes.Goals as goal

-- src/lib.rt:45:1
pub returns-clause-texts_are_read_by_their_marks :
    goal.returns-clause-texts_are_read_by_their_marks
unfolding decoded is_utf8 chars utf16_chars lib.Utf8.encode
returns-clause-texts_are_read_by_their_marks c = search rules

-- src/lib.rt:45:1
pub returns-clause-local_texts_are_read : goal.returns-clause-local_texts_are_read
unfolding is_utf8 chars lib.Utf8.encode
returns-clause-local_texts_are_read c = search rules
