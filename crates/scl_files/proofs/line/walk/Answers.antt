use Rattle.std.proofs.Common.{◌≡◌, ◌<◌, ◌≤◌, [], ◌∷◌, ◌++◌, get_or, length, replicate, Ok, Err, sym, subst}
use Rattle.scl_files.specs.Expand.{expand}
use Rattle.scl_files.specs.Openings.{openings}
use Rattle.scl_files.specs.Walks.{AreTooMany, WalksOn}
use Rattle.scl_values.specs.Words.{words_of}
use Rattle.scl_files.proofs.ExpandedLemmas.{IsWalking, none_from, walk_begins, walk_ends, walk_goes_on, walk_stops, word_at}
use Rattle.scl_files.proofs.line.walk.Goals as goal

pub loop-word-init : goal.loop-word-init
loop-word-init c =
    let given = c.args.given.now in
    rw c.as_slice-left.ensures.value (walk_begins c.args.kind c.args.cwd.now c.args.view.now.files c.args.most (words_of given.words.items) given.ats.items c.args.all.now c.requires)

pub loop-word-preserved : goal.loop-word-preserved
loop-word-preserved c =
    let kind = c.args.kind in
    let directory = c.args.cwd.now in
    let files = c.args.view.now.files in
    let most = c.args.most in
    let given = c.args.given.now in
    let all = c.loop-word.all in
    let i = c.loop-word.word-index in
    let word = c.word-item.result in
    let within = subst (λ ws. i < length ws) c.deref-word-items.ensures.value c.loop-word-test.true in
    let is = subst (λ ws. word ≡ get_or ws i word) c.deref-word-items.ensures.value c.word-item.is in
    let walking = subst (λ ls. IsWalking kind directory files most (words_of given.words.items) ls given.ats.items c.loop-word.left.now c.args.all.now all) (word_at given.words.items i word within is) c.loop-word.invariant in
    let on = subst (λ w. WalksOn most kind directory files (w ∷ []) (all.ats.items ++ replicate (length (expand kind directory files (w ∷ []))) c.first_at.result) all (Ok tt) c.walk_given.new.all) c.deref.ensures.value
    (rw c.in-Ok.is at c.in_ok-walk_given.ensures) in
    walk_goes_on kind directory files most (words_of given.words.items) word.items _ given.ats.items c.loop-word.left.now c.behind-left.result.now c.args.all.now all walking
    c.first_at.result c.walk_given.new.all c.first_at.ensures c.behind-left.ensures on

pub returns-in-Err : goal.returns-in-Err
returns-in-Err c =
    let kind = c.args.kind in
    let directory = c.args.cwd.now in
    let files = c.args.view.now.files in
    let most = c.args.most in
    let given = c.args.given.now in
    let all = c.loop-word.all in
    let i = c.loop-word.word-index in
    let word = c.word-item.result in
    let within = subst (λ ws. i < length ws) c.deref-word-items.ensures.value c.loop-word-test.true in
    let is = subst (λ ws. word ≡ get_or ws i word) c.deref-word-items.ensures.value c.word-item.is in
    let walking = subst (λ ls. IsWalking kind directory files most (words_of given.words.items) ls given.ats.items c.loop-word.left.now c.args.all.now all) (word_at given.words.items i word within is) c.loop-word.invariant in
    let many = subst (λ w. AreTooMany most files (words_of all.words.items ++ expand kind directory files (w ∷ [])) (words_of all.openings.items ++ openings kind directory files (w ∷ []))) c.deref.ensures.value
    (rw c.in-Err.is at c.in_ok-walk_given.ensures) in
    walk_stops kind directory files most (words_of given.words.items) word.items _ given.ats.items c.loop-word.left.now c.loop-word.left.now c.args.all.now all walking many

pub returns : goal.returns
returns c =
    let given = c.args.given.now in
    let past = subst (λ ws. length ws ≤ c.loop-word.word-index) c.deref-word-items.ensures.value c.loop-word-test.false in
    walk_ends c.args.kind c.args.cwd.now c.args.view.now.files c.args.most (words_of given.words.items) given.ats.items c.loop-word.left.now c.args.all.now c.loop-word.all
    (subst (λ ls. IsWalking c.args.kind c.args.cwd.now c.args.view.now.files c.args.most (words_of given.words.items) ls given.ats.items c.loop-word.left.now c.args.all.now c.loop-word.all)
    (none_from given.words.items c.loop-word.word-index past) c.loop-word.invariant)
