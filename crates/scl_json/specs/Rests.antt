-- What follows the names of rows, as the code has it.
use Rattle.std.specs.Prelude.{ℕ, List, map, Vec}
use Rattle.std.specs.Borrow.{Bor}
use Rattle.std.specs.declared.alloc.Global.{Global}
use Rattle.scl_values.specs.Words.{words_of}

abbrev pub rests_of : List (Bor (List (Vec ℕ Global))) → List (List (List ℕ))
rests_of rests = map (λ rest. words_of rest.now) rests
