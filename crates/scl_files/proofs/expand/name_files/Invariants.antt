use Rattle.std.proofs.Common.{◌≡◌, drop, is_some}
use Rattle.std.specs.List.{list_any}
use Rattle.scl_values.specs.Words.{words_of}
use Rattle.scl_files.specs.ResponseFiles.{file_name_in}
use Rattle.scl_files.proofs.expand.name_files.Given as goal

abbrev pub invariant-loop-word : goal.invariant-loop-word
invariant-loop-word l = list_any (λ word. is_some (file_name_in l.kind word)) (words_of (drop l.word-index l.words)) ≡ list_any (λ word. is_some (file_name_in l.kind word)) (words_of l.words)
