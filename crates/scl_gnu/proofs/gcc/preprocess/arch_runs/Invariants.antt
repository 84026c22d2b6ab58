use Rattle.std.proofs.Common.{◌≡◌, ◌++◌, drop}
use Rattle.std.specs.Option.{option_copied}
use Rattle.scl_values.specs.Words.{words_of}
use Rattle.scl_text.specs.Records.{parsed_of}
use Rattle.scl_text.specs.Runs.{runs_of}
use Rattle.scl_gnu.specs.Preprocess.{arch_runs}
use Rattle.scl_gnu.proofs.gcc.preprocess.arch_runs.Given as goal

abbrev pub invariant-loop-index : goal.invariant-loop-index
invariant-loop-index l =
    runs_of l.runs.items ++ arch_runs (option_copied l.text) (words_of l.settings) (parsed_of l.parsed) (words_of (drop l.index l.archs))
    ≡ arch_runs (option_copied l.text) (words_of l.settings) (parsed_of l.parsed) (words_of l.archs)
