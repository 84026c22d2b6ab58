use Rattle.std.proofs.Common.{sym, ap, ◌∙◌, length}
use Rattle.scl_hazards.proofs.EndLemmas.{ends-more, ends-same}
use Rattle.scl_hazards.proofs.delimiter.ends_of.Goals as goal
use Rattle.scl_hazards.proofs.delimiter.ends_of.Goals.{in-Some+in_ok-insert, in_default}

pub loop-word-preserved : goal.loop-word-preserved
loop-word-preserved c =
    let words = c.args.words.now in
    let i = c.loop-word.word-index in
    elim c.match-split_last.branch [
      | in-Some+in_ok-insert w ↦
          rw w.ends-is (ends-more words i c.word-item.result c.loop-word-test.true c.word-item.is (w.in-Some.last.now, w.in-Some.front) c.loop-word.ends w.insert.new.self
          (sym c.deref.ensures.value ∙ w.in-Some.ensures.cases.0) w.in_ok-insert.ensures.updates c.loop-word.invariant)
      | in_default w ↦ rw w.ends-is (ends-same words i c.word-item.result c.loop-word-test.true c.word-item.is c.loop-word.ends (ap (λ word. length word) (sym c.deref.ensures.value) ∙ w.in_default.ensures.cases) c.loop-word.invariant)
    ]
