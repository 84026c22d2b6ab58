use Rattle.std.proofs.Common.{◌≡◌, drop}
use Rattle.std.specs.List.{list_all}
use Rattle.scl_catalogue.specs.Views.{lexicon_of}
use Rattle.scl_key.specs.Directs.{is_quiet}
use Rattle.scl_key.specs.KnownViews.{all_judged}
use Rattle.scl_key.proofs.direct.are_quiet.Given as goal

abbrev pub invariant-loop-one : goal.invariant-loop-one
invariant-loop-one l = list_all (is_quiet (lexicon_of l.lexicon)) (all_judged (drop l.one-index l.words)) ≡ list_all (is_quiet (lexicon_of l.lexicon)) (all_judged l.words)
