-- A disk in memory, with at most one broken path.
use Rattle.std.specs.Prelude.{ℕ, Bool, false, List, Option, None, Some, Vec}
use Rattle.std.specs.Str.{bytes_eq}
use Rattle.std.specs.declared.alloc.Global.{Global}

-- whether each read at the path fails: it is the broken one, byte by byte
abbrev pub is_broken : Option (Vec ℕ Global) → List ℕ → Bool
is_broken None path = false
is_broken (Some broken) path = bytes_eq broken.items path
