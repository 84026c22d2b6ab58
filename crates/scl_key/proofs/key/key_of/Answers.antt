use Rattle.std.proofs.Common.{ap, ◌∙◌}
use Rattle.scl_catalogue.specs.Views.{lexicon_of}
use Rattle.scl_text.specs.Commands.{pairs_of}
use Rattle.scl_text.specs.Records.{Parsed, parsed_of}
use Rattle.scl_key.specs.Keys.{Keeping, keeping_by, no_keys, whole_key_by}
use Rattle.scl_key.specs.Known.{Known}
use Rattle.scl_key.specs.Views.{run_words_of}
use Rattle.scl_key.proofs.key.key_of.Goals as goal

pub returns : goal.returns
returns c =
    let p : Parsed = parsed_of c.args.line.now.parsed.now in
    let by : Known → Keeping = λ k. keeping_by
    (no_keys k c.args.line.now.compiler (run_words_of c.args.line.now.words) p)
    (whole_key_by (lexicon_of c.args.line.now.lexicon.now) k c.args.line.now.compiler (pairs_of c.args.line.now.environment.now) (run_words_of c.args.line.now.words) p) in
    c.in_ok-keeping.ensures ∙ ap by c.in_ok-known.ensures
