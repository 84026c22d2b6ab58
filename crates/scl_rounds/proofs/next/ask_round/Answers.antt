use Rattle.std.proofs.Common.{◌≡◌, length, drop, Some, sym, ap, ◌∙◌, rules}
use Rattle.std.specs.Option.{option_map}
use Rattle.scl_questions.specs.Answers.{told}
use Rattle.scl_questions.specs.Rounds.{asks, over, refused, joined, round}
use Rattle.scl_questions.specs.Talks.{looks_up}
use Rattle.scl_questions.specs.Views.{questions_of, replies_of}
use Rattle.scl_rounds.specs.Answers.{outcome_on}
use Rattle.scl_rounds.specs.Rounds.{stage}
use Rattle.scl_rounds.specs.Views.{key_of}
use Rattle.scl_rounds.proofs.CodeLemmas.{as_many, dropped}
use Rattle.scl_rounds.proofs.StepLemmas.{stands}
use Rattle.scl_rounds.proofs.next.ask_round.Goals as goal

pub returns-in-Over : goal.returns-in-Over
returns-in-Over c =
    let many : length (questions_of c.args.asked.now.items) ≡ length c.args.asked.now.items = as_many c.args.asked.now.items in
    let asked : stage (key_of c.args.key.now) c.args.phase (told (questions_of c.args.asked.now.items) (replies_of c.args.answers.now)) ≡ Some (questions_of c.in-Some.questions.items) =
    ap (λ items. stage (key_of c.args.key.now) c.args.phase (told (questions_of items) (replies_of c.args.answers.now))) (sym c.as_slice.ensures.value)
    ∙ sym c.in_ok-questions.ensures
    ∙ ap (option_map (λ questions. questions_of questions.items)) c.in-Some.is in
    let every : questions_of c.ask_all.new.asked.items ≡ joined (questions_of c.args.asked.now.items) (questions_of c.in-Some.questions.items) = search rules in
    let so : over ≡ round (length (questions_of c.args.asked.now.items)) (questions_of c.ask_all.new.asked.items) (replies_of c.args.answers.now) = search rules in
    λ later.
    stands (outcome_on (key_of c.args.key.now)) (stage (key_of c.args.key.now) c.args.phase) later (questions_of c.args.asked.now.items) (questions_of c.ask_all.new.asked.items)
    (questions_of c.in-Some.questions.items) (replies_of c.args.answers.now) over asked every so

pub returns-in_ok-split_off-in-Asks : goal.returns-in_ok-split_off-in-Asks
returns-in_ok-split_off-in-Asks c =
    let many : length (questions_of c.args.asked.now.items) ≡ length c.args.asked.now.items = as_many c.args.asked.now.items in
    let asked : stage (key_of c.args.key.now) c.args.phase (told (questions_of c.args.asked.now.items) (replies_of c.args.answers.now)) ≡ Some (questions_of c.in-Some.questions.items) =
    ap (λ items. stage (key_of c.args.key.now) c.args.phase (told (questions_of items) (replies_of c.args.answers.now))) (sym c.as_slice.ensures.value)
    ∙ sym c.in_ok-questions.ensures
    ∙ ap (option_map (λ questions. questions_of questions.items)) c.in-Some.is in
    let every : questions_of c.ask_all.new.asked.items ≡ joined (questions_of c.args.asked.now.items) (questions_of c.in-Some.questions.items) = search rules in
    let so : asks ≡ round (length (questions_of c.args.asked.now.items)) (questions_of c.ask_all.new.asked.items) (replies_of c.args.answers.now) = search rules in
    let rest : questions_of c.in_ok-split_off-in-Asks.field-0.items ≡ drop (length (questions_of c.args.asked.now.items)) (questions_of c.ask_all.new.asked.items)
    = search (rules, dropped (length c.args.asked.now.items) c.ask_all.new.asked.items) in
    λ later.
    ap looks_up rest
    ∙ stands (outcome_on (key_of c.args.key.now)) (stage (key_of c.args.key.now) c.args.phase) later (questions_of c.args.asked.now.items) (questions_of c.ask_all.new.asked.items)
    (questions_of c.in-Some.questions.items) (replies_of c.args.answers.now) asks asked every so

pub returns-in-Refused : goal.returns-in-Refused
returns-in-Refused c =
    let many : length (questions_of c.args.asked.now.items) ≡ length c.args.asked.now.items = as_many c.args.asked.now.items in
    let asked : stage (key_of c.args.key.now) c.args.phase (told (questions_of c.args.asked.now.items) (replies_of c.args.answers.now)) ≡ Some (questions_of c.in-Some.questions.items) =
    ap (λ items. stage (key_of c.args.key.now) c.args.phase (told (questions_of items) (replies_of c.args.answers.now))) (sym c.as_slice.ensures.value)
    ∙ sym c.in_ok-questions.ensures
    ∙ ap (option_map (λ questions. questions_of questions.items)) c.in-Some.is in
    let every : questions_of c.ask_all.new.asked.items ≡ joined (questions_of c.args.asked.now.items) (questions_of c.in-Some.questions.items) = search rules in
    let so : refused c.in-Refused.number ≡ round (length (questions_of c.args.asked.now.items)) (questions_of c.ask_all.new.asked.items) (replies_of c.args.answers.now) = search rules in
    λ later.
    stands (outcome_on (key_of c.args.key.now)) (stage (key_of c.args.key.now) c.args.phase) later (questions_of c.args.asked.now.items) (questions_of c.ask_all.new.asked.items)
    (questions_of c.in-Some.questions.items) (replies_of c.args.answers.now) (refused c.in-Refused.number) asked every so
