-- What a value holds.
use Rattle.std.specs.Prelude.{ℕ, Bool, true, false, List, []}
use Rattle.scl_values.specs.declared.held.Held.{Held}
use Rattle.scl_values.specs.declared.held.Held.TheVariants as held

-- the word; empty if nothing is held
abbrev pub word_held : Held → List ℕ
word_held held.Nothing = []
word_held (held.Word word) = word.now
word_held (held.Path path) = path.now

abbrev pub is_path_held : Held → Bool
is_path_held held.Nothing = false
is_path_held (held.Word word) = false
is_path_held (held.Path path) = true
