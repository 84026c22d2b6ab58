use Rattle.std.proofs.Common.{◌≡◌, drop}
use Rattle.scl_text.specs.Commands.{pairs_of}
use Rattle.scl_msvc.specs.Environment.{value_of}
use Rattle.scl_hazards.proofs.clang_cl.value_of.Given as goal

abbrev pub invariant-loop-name : goal.invariant-loop-name
invariant-loop-name l = value_of l.key (pairs_of (drop l.name-index l.env_vars)) ≡ value_of l.key (pairs_of l.env_vars)
