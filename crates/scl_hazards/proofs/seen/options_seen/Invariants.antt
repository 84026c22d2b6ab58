use Rattle.std.proofs.Common.{◌≡◌, map, take}
use Rattle.scl_catalogue.specs.Views.{seen_of}
use Rattle.scl_values.specs.Seen.{seen}
use Rattle.scl_values.specs.Words.{words_of}
use Rattle.scl_hazards.specs.Options.{options_seen}
use Rattle.scl_hazards.proofs.seen.options_seen.Given as goal

abbrev pub invariant-loop-option : goal.invariant-loop-option
invariant-loop-option g l =
    let see = seen g.T.ArgumentValue.kind_of g.T.IntoArg.word_of in
    map seen_of l.all.items ≡ options_seen g.T.Kinded.kind_text g.T.Kinded.is_common (words_of l.words) (map see (take l.option-index l.options))
