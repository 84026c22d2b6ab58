use Rattle.std.proofs.Common.{◌≡◌, ◌++◌, drop}
use Rattle.scl_text.specs.Commands.{pairs_of}
use Rattle.scl_msvc.specs.Environment.{without_cl_env_vars}
use Rattle.scl_msvc.proofs.msvc.environment.without_cl_env_vars.Given as goal

abbrev pub invariant-loop-key : goal.invariant-loop-key
invariant-loop-key l = pairs_of l.kept.items ++ without_cl_env_vars (pairs_of (drop l.key-index l.env_vars)) ≡ without_cl_env_vars (pairs_of l.env_vars)
