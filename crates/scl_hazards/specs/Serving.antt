-- Which compilers an entry speaks of.
use Rattle.std.specs.Prelude.{Bool}
use Rattle.std.specs.List.{list_any}
use Rattle.scl_catalogue.specs.Form.{Case, Entry}
use Rattle.scl_catalogue.specs.contracts.case.CompilerPartialEq.TheImpl as compilers
use Rattle.scl_catalogue.specs.declared.case.Compiler.{Compiler}
use Rattle.scl_catalogue.specs.declared.case.Served.{Served}

abbrev pub serves : Compiler → Served → Bool
serves compiler s = compilers.ghosts.eq s.compiler compiler

abbrev pub is_case_of : Compiler → Case → Bool
is_case_of compiler c = list_any (serves compiler) c.served

-- a case of the entry speaks of the compiler, in one of its versions
abbrev pub is_of : Compiler → Entry → Bool
is_of compiler e = list_any (is_case_of compiler) e.cases
