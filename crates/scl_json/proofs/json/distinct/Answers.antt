use Rattle.std.proofs.Common.{ap, ◌∙◌}
use Rattle.scl_values.specs.Words.{words_of}
use Rattle.scl_json.proofs.NameLaws.{name-preserved}
use Rattle.scl_json.proofs.json.distinct.Goals as goal

pub loop-word-preserved : goal.loop-word-preserved
loop-word-preserved c =
    name-preserved c.args.words.now c.loop-word.word-index c.word-item.result (words_of c.loop-word.names.items) (words_of c.put_name.new.names.items) _ _
    c.loop-word-test.true (c.deref.ensures.value ∙ ap (λ word. word.items) c.word-item.is) c.loop-word.invariant c.in_ok-put_name.ensures
