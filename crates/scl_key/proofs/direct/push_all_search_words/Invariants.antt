use Rattle.std.proofs.Common.{◌≡◌, ◌++◌, take}
use Rattle.std.specs.List.{flat_map}
use Rattle.scl_values.specs.Words.{words_of}
use Rattle.scl_key.specs.Directs.{search_words}
use Rattle.scl_key.specs.KnownViews.{all_given}
use Rattle.scl_key.proofs.direct.push_all_search_words.Given as goal

abbrev pub invariant-loop-one : goal.invariant-loop-one
invariant-loop-one l = words_of l.found.items ≡ words_of l.initial.found.items ++ flat_map search_words (all_given (take l.one-index l.given))
