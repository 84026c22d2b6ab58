use Rattle.std.proofs.Common.{◌≡◌, ◌++◌}
use Rattle.std.specs.String.{string_bytes}
use Rattle.scl_files.specs.MsvcReader.{backslashes}
use Rattle.scl_files.proofs.msvc_text.push_backslashes.Given as goal

abbrev pub invariant-loop : goal.invariant-loop
invariant-loop l = string_bytes l.argument ≡ string_bytes l.initial.argument ++ backslashes l.counter
