use Rattle.std.proofs.Common.{◌≡◌, ◌≢◌, [], ◌∷◌, sym, ◌∙◌}
use Rattle.std.proofs.lemmas.Bool.{false≢true}
use Rattle.scl_values.specs.Words.{words_of}
use Rattle.scl_files.specs.ExpansionState.{words_left, open_files}
use Rattle.scl_files.proofs.StepLemmas.{left-inner, openings-inner, steps-inner, left-close, openings-close, steps-close, steps_by}
use Rattle.scl_files.proofs.expansion.Expansion.step.Goals as goal

pub returns-in-Some : goal.returns-in-Some
returns-in-Some c =
    let self = c.args.self.now in
    let some_open : self.open_files ≢ [] = λ e. false≢true (sym c.if-is_empty.false ∙ c.is_empty.ensures.1 e) in
    steps_by _ _ _ _ _ _ c.give.result c.give.new.self
    (rw c.in-Some.ensures (left-inner self.kind self.directory.now self.view.now.files self.open_files (words_of self.words.now) c.in-Some.word.items (words_left c.next.new.self) some_open))
    (rw c.in-Some.ensures (openings-inner self.kind self.directory.now self.view.now.files self.open_files (words_of self.words.now) c.in-Some.word.items (words_left c.next.new.self) some_open))
    (rw c.in-Some.ensures (steps-inner self.kind self.directory.now self.view.now.files self.open_files (words_of self.words.now) c.in-Some.word.items (words_left c.next.new.self) some_open))
    c.give.ensures

pub returns : goal.returns
returns c =
    let self = c.args.self.now in
    let these : self.open_files ≡ (c.in-Some-pop._path.items, c.in-Some-pop.around) ∷ c.pop.new.self = c.in-Some-pop.ensures in
    let none : words_left self.inner ≡ [] = c.in_default.ensures.0 in
    let others = open_files (words_left c.in-Some-pop.around) c.pop.new.self in
    rw (these, none) (
      left-close self.kind self.directory.now self.view.now.files others (words_of self.words.now) c.in-Some-pop._path.items,
      openings-close self.kind self.directory.now self.view.now.files others (words_of self.words.now) c.in-Some-pop._path.items,
      steps-close self.kind self.directory.now self.view.now.files others (words_of self.words.now) c.in-Some-pop._path.items,
    )
