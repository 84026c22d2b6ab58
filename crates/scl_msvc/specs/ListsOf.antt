-- The words of the lists of a command, as the code stores them.
use Rattle.std.specs.Prelude.{ℕ, List}
use Rattle.scl_values.specs.Words.{words_of}
use Rattle.scl_msvc.specs.Building.{lists_in_order}
use Rattle.scl_msvc.specs.declared.msvc.words.Lists.{Lists}

abbrev pub lists_of : Lists → List (List ℕ)
lists_of lists = lists_in_order (words_of lists.preprocessor.items) (words_of lists.dependency.items) (words_of lists.unhashed.items) (words_of lists.common.items)
