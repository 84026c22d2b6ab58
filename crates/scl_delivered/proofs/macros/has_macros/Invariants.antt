use Rattle.std.proofs.Common.{◌≡◌, drop, filter}
use Rattle.std.specs.Cmp.Lexicographic.{pointwise}
use Rattle.std.specs.Str.{bytes_eq}
use Rattle.scl_values.specs.Words.{words_of}
use Rattle.scl_shared_key.specs.Objects.{is_macro}
use Rattle.scl_delivered.proofs.macros.has_macros.Given as goal

abbrev pub invariant-loop-word : goal.invariant-loop-word
invariant-loop-word l =
    pointwise bytes_eq (filter is_macro (words_of (drop l.word-index l.words))) (words_of l.left)
    ≡ pointwise bytes_eq (filter is_macro (words_of l.words)) (words_of l.macros)
