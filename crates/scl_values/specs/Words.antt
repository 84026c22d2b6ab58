-- Words, as lists of byte strings.
use Rattle.std.specs.Prelude.{ℕ, List, map, Vec}
use Rattle.std.specs.declared.alloc.Global.{Global}

-- the words of a list of byte strings
abbrev pub words_of : List (Vec ℕ Global) → List (List ℕ)
words_of words = map (λ word. word.items) words
