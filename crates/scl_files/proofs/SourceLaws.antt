-- Indices of words.
use Rattle.std.proofs.Common.{◌≡◌, ℕ, ◌+◌, zero, suc, List, [], ◌∷◌, ◌++◌, length, Option, Some, Vec, refl, ap, add-one, length-append, ◌∙◌, arith}
use Rattle.std.proofs.lemmas.List.{length-map}
use Rattle.std.specs.declared.alloc.Global.{Global}
use Rattle.scl_values.specs.Words.{words_of}
use Rattle.scl_files.specs.Sources.{indices}

pub indices_more : (n : ℕ) → indices (n + 1) ≡ indices n ++ Some n ∷ []
indices_more n = ap indices (add-one n)

pub indices_count : (n : ℕ) → length (indices n) ≡ n
indices_count zero = refl
indices_count (suc n) = length-append (indices n) (Some n ∷ []) ∙ omega (arith, indices_count n)

pub words_count : (words : List (Vec ℕ Global)) → length (words_of words) ≡ length words
words_count words = length-map words (λ word. word.items)
