-- What a reader has read, and what is still to come.
use Rattle.std.specs.Prelude.{ℕ, zero, suc, List, [], ◌∷◌}
use Rattle.scl_windows_words.specs.Parts.{Item, backslashes, items, Part, gap, stands, doubled, open_end, parts}
use Rattle.scl_windows_words.specs.declared.reader.Mark.{Mark}
use Rattle.scl_windows_words.specs.declared.reader.Mark.TheVariants as marks
use Rattle.scl_windows_words.specs.declared.reader.Reader.{Reader}
use Rattle.scl_windows_words.specs.declared.reader.Step.{Step}

-- the parts of items that are still to come
abbrev pub to_come : Reader → List Item → List Part
to_come r is = parts r.gaps r.place is

-- the parts of bytes that are still to come
abbrev pub left_in : Reader → List ℕ → List Part
left_in r bytes = to_come r (items r.backslashes bytes)

-- backslashes of a word before other parts, if there are any
abbrev pub stood : ℕ → List Part → List Part
stood zero ps = ps
stood (suc n) ps = stands (backslashes (suc n)) ∷ ps

-- what a mark says, before other parts
abbrev pub marked : Mark → List Part → List Part
marked marks.Nothing ps = ps
marked marks.Separates ps = gap ∷ ps
marked marks.Opens ps = stands [] ∷ ps
marked (marks.Stands c) ps = stands (c ∷ []) ∷ ps
marked marks.Doubles ps = doubled ∷ ps
marked marks.StaysOpen ps = open_end ∷ ps

-- a step before other parts
abbrev pub stepped : Step → List Part → List Part
stepped s ps = stood s.backslashes (marked s.mark ps)
