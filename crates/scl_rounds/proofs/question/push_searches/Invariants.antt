use Rattle.std.proofs.Common.{◌≡◌, ◌++◌, drop, map}
use Rattle.std.specs.List.{flat_map}
use Rattle.scl_key.specs.Views.{directs_of}
use Rattle.scl_questions.specs.Views.{questions_of}
use Rattle.scl_rounds.specs.Keys.{search_in, searches}
use Rattle.scl_rounds.specs.Searches.{asked_search}
use Rattle.scl_rounds.specs.Views.{key_of}
use Rattle.scl_rounds.proofs.question.push_searches.Given as goal

abbrev pub invariant-loop-one : goal.invariant-loop-one
invariant-loop-one l =
    questions_of l.questions.items ++ map asked_search (flat_map search_in (directs_of (drop l.one-index l.key.direct.now)))
    ≡ questions_of l.initial.questions.items ++ map asked_search (searches (key_of l.key))
