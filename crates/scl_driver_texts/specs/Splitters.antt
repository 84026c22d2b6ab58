-- The splitters of the compilers' drivers, and the texts that they split differently than the rules.
use Rattle.std.specs.Prelude.{ℕ, nat_eq, ◌||◌, Bool, false, cond, not, List, [], ◌∷◌, drop, Option, None, Some}
use Rattle.std.specs.List.{starts_with}
use Rattle.std.specs.Option.{option_map}
use lib.Pointwise.{pointwise}
use Rattle.scl_files.specs.Decoding.{utf8_mark, decoded}
use Rattle.scl_driver_texts.specs.GnuWords.{libiberty_words, llvm_words}
use Rattle.scl_driver_texts.specs.WindowsWords.{windows_words}
use Rattle.scl_driver_texts.specs.declared.splitter.Splitter.{Splitter}
use Rattle.scl_driver_texts.specs.declared.splitter.Splitter.TheVariants as splitters

-- what LLVM reads of a file: without its mark; UTF-16 after a mark is converted to UTF-8, and none if it is malformed
unfoldable pub llvm_text : List ℕ → Option (List ℕ)
llvm_text bytes =
    cond (starts_with nat_eq bytes utf8_mark) (Some (drop 3 bytes))
    (cond (starts_with nat_eq bytes (0xFF ∷ 0xFE ∷ []) || starts_with nat_eq bytes (0xFE ∷ 0xFF ∷ [])) (decoded bytes) (Some bytes))

-- the words of a file's bytes; none if the driver stops
unfoldable pub split : Splitter → List ℕ → Option (List (List ℕ))
split splitters.Libiberty bytes = Some (libiberty_words bytes)
split splitters.LlvmGnu bytes = option_map llvm_words (llvm_text bytes)
split splitters.LlvmWindows bytes = option_map windows_words (llvm_text bytes)

abbrev pub are_same : List (List ℕ) → List (List ℕ) → Bool
are_same words others = pointwise (pointwise nat_eq) words others

abbrev pub are_these : Option (List (List ℕ)) → List (List ℕ) → Bool
are_these None words = false
are_these (Some others) words = are_same others words

-- the driver does not split the file into these words
abbrev pub is_otherwise : Splitter → List ℕ → List (List ℕ) → Bool
is_otherwise splitter bytes words = not (are_these (split splitter bytes) words)
