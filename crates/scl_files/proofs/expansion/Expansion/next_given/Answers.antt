use Rattle.std.proofs.Common.{◌≡◌, [], ◌∷◌, arith, refl}
use Rattle.std.proofs.lemmas.Grind.{common_steps}
use Rattle.scl_values.specs.Words.{words_of}
use Rattle.scl_files.proofs.StepLemmas.{left-first, openings-first, steps-first, steps_by}
use Rattle.scl_files.proofs.ExpandLemmas.{expand-nil}
use Rattle.scl_files.proofs.OpeningLemmas.{openings-nil}
use Rattle.scl_files.proofs.expansion.Expansion.next_given.Goals as goal

pub returns-in_default : goal.returns-in_default
returns-in_default c =
    let none : c.args.self.now.words.now ≡ [] = grind (arith, common_steps) in
    rw (c.requires, none) (
      expand-nil c.args.self.now.kind c.args.self.now.directory.now c.args.self.now.view.now.files,
      openings-nil c.args.self.now.kind c.args.self.now.directory.now c.args.self.now.view.now.files,
    )

pub returns : goal.returns
returns c =
    let self = c.args.self.now in
    let words : words_of self.words.now ≡ c.in_ok-word.word.items ∷ words_of c.in-Some.words.now = rw (c.in-Some.ensures.cases.0, c.in_ok-word.ensures.items, c.deref.ensures.value) refl in
    steps_by _ _ _ _ _ _ c.give.result c.give.new.self
    (rw (c.requires, words) (left-first self.kind self.directory.now self.view.now.files (words_of c.in-Some.words.now) c.in_ok-word.word.items))
    (rw (c.requires, words) (openings-first self.kind self.directory.now self.view.now.files (words_of c.in-Some.words.now) c.in_ok-word.word.items))
    (rw (c.requires, words) (steps-first self.kind self.directory.now self.view.now.files (words_of c.in-Some.words.now) c.in_ok-word.word.items))
    c.give.ensures
