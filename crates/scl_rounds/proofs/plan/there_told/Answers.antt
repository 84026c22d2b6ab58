use Rattle.std.proofs.Common.{rules, ◌≡◌, ◌+◌, ◌++◌, ◌∷◌, drop, Some, sym, ap, ◌∙◌, arith}
use Rattle.std.proofs.lemmas.Grind.{common_steps}
use Rattle.std.specs.Option.{option_map}
use Rattle.scl_values.specs.Words.{words_of}
use Rattle.scl_questions.specs.Views.{row_of}
use Rattle.scl_rounds.specs.Plans.{there_row, there_told}
use Rattle.scl_rounds.specs.Views.{machine_of}
use Rattle.scl_rounds.proofs.FileLemmas.{there_there}
use Rattle.scl_rounds.proofs.plan.there_told.Goals as goal

pub loop-name-preserved : goal.loop-name-preserved
loop-name-preserved c =
    let m = machine_of c.args.told.now in
    let at = c.loop-name.name-index in
    let names = c.args.names.now in
    let it : Some (row_of c.in-Some.row.items) ≡ there_row m c.name-item.result.items = search rules in
    let joined : c.append.new.self.items ≡ c.loop-name.answer.items ++ c.in-Some.row.items = search rules in
    let rest : drop at names ≡ c.name-item.result ∷ drop (at + 1) names = grind (arith, common_steps) in
    ap (λ items. option_map (λ rest. row_of items ++ rest) (there_told m (words_of (drop (at + 1) names)))) joined
    ∙ there_there m c.name-item.result.items (words_of (drop (at + 1) names)) c.loop-name.answer.items c.in-Some.row.items it
    ∙ ap (λ names. option_map (λ rest. row_of c.loop-name.answer.items ++ rest) (there_told m (words_of names))) (sym rest)
    ∙ c.loop-name.invariant
