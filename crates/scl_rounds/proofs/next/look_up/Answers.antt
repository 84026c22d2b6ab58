use Rattle.std.proofs.Common.{◌≡◌, ◌+◌, suc, [], None, Some, IfOk, drop, map, ap, sym, subst, ◌∙◌, arith, rules}
use Rattle.std.proofs.Math.Seq.{drop-cons}
use Rattle.std.proofs.lemmas.List.{drop_all}
use Rattle.scl_questions.specs.Talks.{said}
use Rattle.scl_questions.specs.Views.{questions_of, replies_of}
use Rattle.scl_rounds.specs.Answers.{outcome_on}
use Rattle.scl_rounds.specs.Rounds.{all_phases, rounds, stage}
use Rattle.scl_rounds.specs.Views.{key_of, next_of, said_or}
use Rattle.scl_rounds.proofs.next.look_up.Goals as goal

pub loop-phase-init : goal.loop-phase-init
loop-phase-init c = ap (λ items. said (outcome_on (key_of c.args.key.now)) (rounds (key_of c.args.key.now)) (questions_of items) (replies_of c.args.answers.now)) c.new-asked.ensures.items

pub returns-in-Some : goal.returns-in-Some
returns-in-Some c =
    let later = map (stage (key_of c.args.key.now)) (drop (suc c.loop-phase.phase-index) all_phases) in
    let it : c.in_ok-next.field-0 ≡ Some c.in-Some.next = search rules in
    ap (said_or (said (outcome_on (key_of c.args.key.now)) later (questions_of c.ask_round.new.asked.items) (replies_of c.args.answers.now))) (sym it)
    ∙ c.in_ok-next.ensures later
    ∙ ap (λ phases. said (outcome_on (key_of c.args.key.now)) (map (stage (key_of c.args.key.now)) phases) (questions_of c.loop-phase.asked.items) (replies_of c.args.answers.now))
    (sym (drop-cons all_phases c.loop-phase.phase-index _ (omega (arith, c.loop-phase-test.true))))
    ∙ c.loop-phase.invariant

pub loop-phase-preserved : goal.loop-phase-preserved
loop-phase-preserved c =
    let later = map (stage (key_of c.args.key.now)) (drop (suc c.loop-phase.phase-index) all_phases) in
    let it : c.in_ok-next.field-0 ≡ None = search rules in
    let next : c.loop-phase.phase-index + 1 ≡ suc c.loop-phase.phase-index = omega arith in
    ap (λ n. said (outcome_on (key_of c.args.key.now)) (map (stage (key_of c.args.key.now)) (drop n all_phases)) (questions_of c.ask_round.new.asked.items) (replies_of c.args.answers.now)) next
    ∙ ap (said_or (said (outcome_on (key_of c.args.key.now)) later (questions_of c.ask_round.new.asked.items) (replies_of c.args.answers.now))) (sym it)
    ∙ c.in_ok-next.ensures later
    ∙ ap (λ phases. said (outcome_on (key_of c.args.key.now)) (map (stage (key_of c.args.key.now)) phases) (questions_of c.loop-phase.asked.items) (replies_of c.args.answers.now))
    (sym (drop-cons all_phases c.loop-phase.phase-index _ (omega (arith, c.loop-phase-test.true))))
    ∙ c.loop-phase.invariant

pub returns : goal.returns
returns c =
    let none : drop c.loop-phase.phase-index all_phases ≡ [] = drop_all c.loop-phase.phase-index all_phases (omega (arith, c.loop-phase-test.false)) in
    subst (λ it. IfOk c.end.result (λ next. next_of next ≡ it))
    (ap (λ items. said (outcome_on (key_of c.args.key.now)) [] (questions_of items) (replies_of c.args.answers.now)) c.deref.ensures.value
    ∙ ap (λ phases. said (outcome_on (key_of c.args.key.now)) (map (stage (key_of c.args.key.now)) phases) (questions_of c.loop-phase.asked.items) (replies_of c.args.answers.now)) (sym none)
    ∙ c.loop-phase.invariant)
    c.end.ensures
