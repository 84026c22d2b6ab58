-- What the numbers of an entry leave out.
use Rattle.std.specs.Prelude.{◌≡◌, ℕ, List, Option}
use Rattle.std.specs.List.{list_any}
use Rattle.scl_catalogue.specs.Form.{Case, Tells}
use Rattle.scl_catalogue.specs.Found.{OptionSeen}
use Rattle.scl_catalogue.specs.Numbered.{entry_with}
use Rattle.scl_catalogue.specs.Speaking.{case_speaks_of, speaks_of}
use Rattle.scl_catalogue.specs.declared.case.Compiler.{Compiler}
use Rattle.scl_catalogue.specs.declared.case.Version.{Version}
use Rattle.scl_catalogue.specs.declared.speaking.Level.{Level}

-- An entry speaks of each option of which one of its cases does, and of no other: its numbers pass over none.
abbrev pub NumbersPassOverNone : Type 0
NumbersPassOverNone =
    (tells : Tells) (name says : List ℕ) (cases : List Case) (compiler : Compiler) (version : Option Version) (level : Level) (o : OptionSeen)
    → speaks_of compiler version level o (entry_with tells name says cases) ≡ list_any (case_speaks_of compiler version level o) cases
