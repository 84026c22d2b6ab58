use Rattle.std.proofs.Common.{◌≡◌, drop, map}
use Rattle.std.specs.List.{list_all}
use Rattle.scl_values.specs.Words.{words_of}
use Rattle.scl_delivered.specs.Macros.{defines}
use Rattle.scl_delivered.proofs.macros.all_define.Given as goal

abbrev pub invariant-loop-run : goal.invariant-loop-run
invariant-loop-run l =
    list_all (defines (words_of l.macros)) (map (λ run. words_of run.now) (drop l.run-index l.runs))
    ≡ list_all (defines (words_of l.macros)) (map (λ run. words_of run.now) l.runs)
