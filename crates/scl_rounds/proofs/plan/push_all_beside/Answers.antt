use Rattle.std.proofs.Common.{◌≡◌, ◌+◌, ◌++◌, [], ◌∷◌, take, sym, ap, append_assoc, ◌∙◌, arith}
use Rattle.std.proofs.lemmas.Grind.{common_steps}
use Rattle.std.specs.List.{flat_map}
use Rattle.scl_values.specs.Words.{words_of}
use Rattle.scl_rounds.specs.Plans.{beside_in}
use Rattle.scl_rounds.specs.Views.{key_of}
use Rattle.scl_rounds.proofs.CodeLemmas.{flat_more}
use Rattle.scl_rounds.proofs.plan.push_all_beside.Goals as goal

pub loop-word-preserved : goal.loop-word-preserved
loop-word-preserved c =
    let each = beside_in (key_of c.args.key.now) in
    let at = c.loop-word.word-index in
    let words = c.deref-word-items.result.now in
    let before = words_of c.args.names.now.items in
    let pushed : words_of c.push_beside.new.names.items ≡ words_of c.loop-word.names.items ++ each c.word-item.result.items =
    c.in_ok-push_beside.ensures ∙ ap (λ word. words_of c.loop-word.names.items ++ each word) c.deref.ensures.value in
    let more : take (at + 1) words ≡ take at words ++ c.word-item.result ∷ [] = grind (arith, common_steps) in
    pushed
    ∙ ap (λ them. them ++ each c.word-item.result.items) c.loop-word.invariant
    ∙ append_assoc before (flat_map each (words_of (take at words))) (each c.word-item.result.items)
    ∙ ap (λ them. before ++ them) (sym (flat_more each (take at words) c.word-item.result))
    ∙ ap (λ words. before ++ flat_map each (words_of words)) (sym more)
