use Rattle.std.proofs.Common.{◌≡◌, [], ◌++◌, ◌∷◌, Some, refl, sym, ap, ◌∙◌}
use Rattle.std.proofs.lemmas.List.{append-nil, map-append}
use Rattle.std.specs.Str.{chars}
use Rattle.scl_values.specs.Words.{words_of}
use Rattle.scl_files.proofs.DiabLemmas.{takes_word, step-word, no_words, arguments-plain}
use Rattle.scl_files.proofs.diab_text.split_diab.Goals as goal

pub loop-word-preserved : goal.loop-word-preserved
loop-word-preserved c =
    let taken = takes_word _ c.in-Some.word.now _ c.loop-word.invariant.utf8 c.in-Some.ensures.steps in
    let pushed : words_of c.push.new.self.items ≡ words_of c.loop-word.words.items ++ c.in-Some.word.now ∷ [] =
    rw (c.in_ok-push.ensures.items, map-append, c.in_ok-from_slice.ensures.items, c.as_bytes.ensures.value) refl in
    record { utf8 = taken.utf8; all = step-word _ _ _ _ c.in-Some.word.now _ taken c.loop-word.invariant.all pushed }

pub returns : goal.returns
returns c =
    let all = rw (no_words _ c.loop-word.invariant.utf8 c.in-None.ensures.steps.1, append-nil) at c.loop-word.invariant.all in
    ap Some all ∙ sym (arguments-plain (chars c.args.text.now) (sym c.has_quote.ensures ∙ c.if-has_quote.false))
