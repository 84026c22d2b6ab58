use Rattle.std.proofs.Common.{◌≡◌, map, drop}
use Rattle.std.specs.List.{list_any}
use Rattle.scl_catalogue.specs.Views.{condition_of}
use Rattle.scl_catalogue_text.specs.Files.{asks_for_options}
use Rattle.scl_catalogue_text.proofs.file.some_ask_for_options.Given as goal

abbrev pub invariant-loop-condition : goal.invariant-loop-condition
invariant-loop-condition l = list_any asks_for_options (map condition_of (drop l.condition-index l.conditions)) ≡ list_any asks_for_options (map condition_of l.conditions)
