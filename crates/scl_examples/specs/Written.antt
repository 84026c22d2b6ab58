-- How rows are written.
use Rattle.std.specs.Prelude.{ℕ, ◌==◌, List, codes}
use Prim.Native.String.{String}
use Rattle.std.specs.List.{slice_split}

-- `=`
abbrev pub equals : ℕ
equals = 61

-- `@`
abbrev pub at_sign : ℕ
at_sign = 64

-- the words of a text, with a space between two
abbrev pub words : String → List (List ℕ)
words text = slice_split (λ byte. byte == 32) (codes text)
