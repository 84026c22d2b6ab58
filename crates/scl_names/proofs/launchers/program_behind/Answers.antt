use Rattle.std.proofs.Common.{rules, ap, ◌∙◌}
use Rattle.scl_values.specs.Words.{words_of}
use Rattle.scl_names.specs.LaunchersGiven.{front_by}
use Rattle.scl_names.proofs.LauncherLaws.{step-on, stop-on}
use Rattle.scl_names.proofs.launchers.program_behind.Goals as goal

pub returns-in-None : goal.returns-in-None
returns-in-None c =
    stop-on c.args.words.now c.loop-at.at c.index-words-at.result c.deref.result.now (words_of c.args.more.now) (front_by c.loop-at.launched) _ c.loop-at-test.true
    (c.deref.ensures.value ∙ ap (λ word. word.items) c.index-words-at.is) (search rules) c.loop-at.invariant

pub loop-at-preserved : goal.loop-at-preserved
loop-at-preserved c =
    step-on c.args.words.now c.loop-at.at c.index-words-at.result c.deref.result.now (words_of c.args.more.now) (front_by c.loop-at.launched) (front_by c.in-Some.next) _ c.loop-at-test.true
    (c.deref.ensures.value ∙ ap (λ word. word.items) c.index-words-at.is) (search rules) c.loop-at.invariant
