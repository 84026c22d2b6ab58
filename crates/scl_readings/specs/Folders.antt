-- The folders that a compiler says it searches.
use Rattle.std.specs.Prelude.{ℕ, ◌+◌, List, length, take, drop, Option, codes}
use Rattle.std.specs.Option.{option_and_then, option_map}
use Rattle.scl_readings.specs.Lines.{lines_after}
use Rattle.scl_readings.specs.Places.{first_place}

-- what stands after the first place of one text, up to the next of another
abbrev pub between : List ℕ → List ℕ → List ℕ → Option (List ℕ)
between begin end text =
    option_and_then (λ at. let rest = drop (at + length begin) text in option_map (λ count. take count rest) (first_place end rest)) (first_place begin text)

-- the folders of the list that `-v` writes, each on a line after a space
abbrev pub folders : List ℕ → Option (List (List ℕ))
folders said = option_map (lines_after 0x20) (between (codes "search starts here:") (codes "End of search list.") said)
