use Rattle.std.proofs.Common.{◌++◌, ap, sym, ◌∙◌}
use Rattle.std.proofs.lemmas.List.{take-map}
use Rattle.scl_values.specs.Words.{words_of}
use Rattle.scl_args.proofs.FirstLaws.{put-first}
use Rattle.scl_text.proofs.command.push_words.Goals as goal

pub returns-in_err-push_word-clause-err : goal.returns-in_err-push_word-clause-err
returns-in_err-push_word-clause-err c =
    let stands = ap words_of c.in_err-push_word.ensures.err ∙ c.loop-word.invariant in
    put-first _ _ _ _ c.loop-word.word-index (stands ∙ ap (λ ws. words_of c.args.list.now.items ++ ws) (sym (take-map _ c.loop-word.word-index _)))
