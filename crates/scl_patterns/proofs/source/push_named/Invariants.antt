use Rattle.std.proofs.Common.{◌≡◌, ◌++◌, drop, map}
use Rattle.std.specs.List.{filter_map}
use Rattle.scl_values.specs.Words.{words_of}
use Rattle.scl_patterns.specs.Sources.{name_asked, named_behind}
use Rattle.scl_patterns.proofs.source.push_named.Given as goal

abbrev pub invariant-loop-rest : goal.invariant-loop-rest
invariant-loop-rest l = words_of l.names.items ++ filter_map name_asked (map (λ rest. rest.now) (drop l.rest-index l.rest-items)) ≡ words_of l.fn.names.items ++ named_behind l.fn.word l.fn.text
