use Rattle.std.proofs.Common.{take, ap, ◌∙◌}
use Rattle.std.proofs.lemmas.List.{take_min}
use Rattle.scl_values.specs.Words.{words_of}
use Rattle.scl_rows.proofs.LineLaws.{words_taken}
use Rattle.scl_rows.proofs.row.first_words.Goals as goal

pub returns : goal.returns
returns c =
    ap (λ n. words_of (take n c.args.words.now)) c.min.ensures
    ∙ ap words_of (take_min c.args.count c.args.words.now)
    ∙ words_taken c.args.count c.args.words.now
