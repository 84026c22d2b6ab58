use Rattle.std.proofs.Common.{◌≡◌, ◌++◌, map, encode_utf8_all}
use Rattle.std.specs.Str.{chars, IsUtf8}
use Rattle.std.specs.Str.Iter.{split_whitespace_rest}
use Rattle.scl_values.specs.Words.{words_of}
use Rattle.scl_files.specs.DiabText.{diab_words}
use Rattle.scl_files.proofs.diab_text.split_diab.Given as goal

abbrev pub invariant-loop-word : goal.invariant-loop-word
invariant-loop-word l = record {
  utf8 : IsUtf8 (split_whitespace_rest l.word-iterator);
  all : words_of l.words.items ++ map encode_utf8_all (diab_words (chars (split_whitespace_rest l.word-iterator))) ≡ map encode_utf8_all (diab_words (chars l.text));
}
