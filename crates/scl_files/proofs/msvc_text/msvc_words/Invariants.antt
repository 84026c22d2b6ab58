use Rattle.std.proofs.Common.{◌≡◌, ◌++◌, false}
use Rattle.std.specs.Str.{chars}
use Rattle.scl_values.specs.Words.{words_of}
use Rattle.scl_files.specs.MsvcText.{msvc_arguments}
use Rattle.scl_files.proofs.msvc_text.msvc_words.Given as goal

abbrev pub invariant-loop-argument : goal.invariant-loop-argument
invariant-loop-argument l = record {
  going : l.argument-iterator.ended ≡ false;
  all : words_of l.words.items ++ l.argument-iterator.words ≡ msvc_arguments (chars l.text);
}
