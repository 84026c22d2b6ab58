-- Rows that the code borrows.
use Rattle.std.specs.Prelude.{ℕ, List, map, Vec}
use Rattle.std.specs.Borrow.{Bor}
use Rattle.std.specs.declared.alloc.Global.{Global}
use Rattle.scl_values.specs.Words.{words_of}

abbrev pub borrowed : List (Bor (List (Vec ℕ Global))) → List (List (List ℕ))
borrowed rows = map (λ row. words_of row.now) rows
