use Rattle.std.proofs.Common.{◌≡◌, ◌++◌, take, map, filter}
use Rattle.scl_key.specs.Views.{no_keys_of, paths_of}
use Rattle.scl_key.specs.Keys.{no_key, is_no_file}
use Rattle.scl_key.specs.declared.no_key.Reason.TheVariants as Reason
use Rattle.scl_key.proofs.no_key.push_no_files.Given as goal

abbrev pub invariant-loop-output : goal.invariant-loop-output
invariant-loop-output l = no_keys_of l.why.items ≡ no_keys_of l.initial.why.items ++ map (no_key Reason.OutputIsNoFile) (filter is_no_file (paths_of (take l.output-index l.outputs)))
