use Rattle.std.proofs.Common.{◌≡◌, ◌++◌, List, Vec, ℕ, ap, ◌∙◌}
use Rattle.std.specs.declared.alloc.Global.{Global}
use Rattle.scl_files.specs.Expand.{expand}
use Rattle.scl_files.specs.Openings.{each_once, openings, texts_at, texts_once}
use Rattle.scl_files.specs.Wanted.{wanted}
use Rattle.scl_values.specs.Words.{words_of}
use Rattle.scl_files.proofs.ExpandedLemmas.{named_expanded, named_too_many}
use Rattle.scl_files.proofs.line.expand_named.Goals as goal

pub lacked_files-requires : goal.lacked_files-requires
lacked_files-requires c =
    let on = rw c.in-Ok.is at c.in_ok-walk.ensures in
    let all = expand c.args.kind c.args.cwd.now c.args.view.now.files (words_of c.args.given.now.words.items) in
    rw (c.deref-3.ensures.value, c.deref-2.ensures.value) (on.0 ∙ ap (λ (ws : List (Vec ℕ Global)). words_of ws ++ all) c.new-all.ensures.words)

pub returns : goal.returns
unfolding texts_once
returns c =
    let on = rw c.in-Ok.is at c.in_ok-walk.ensures in
    let files = c.args.view.now.files in
    let given = c.args.given.now in
    let all = openings c.args.kind c.args.cwd.now files (words_of given.words.items) in
    let paths : words_of c.deref.result.now ≡ all = ap words_of c.deref.ensures.value ∙ on.1 ∙ ap (λ (ws : List (Vec ℕ Global)). words_of ws ++ all) c.new-all.ensures.openings in
    named_expanded c.args.most c.args.kind c.args.cwd.now files (words_of given.words.items) given.ats.items c.new-all.result c.walk.new.all (words_of c.in_ok-texts.texts.items) (words_of c.in_ok-lacked.lacked.items)
    c.new-all.ensures.words c.new-all.ensures.openings c.new-all.ensures.ats on
    (c.in_ok-texts.ensures ∙ ap (λ ps. texts_at files (each_once ps)) paths)
    (c.in_ok-lacked.ensures ∙ ap (λ (ws : List (Vec ℕ Global)). wanted c.args.kind c.args.cwd.now files (words_of ws)) c.deref-2.ensures.value)

pub returns-in-Err : goal.returns-in-Err
returns-in-Err c =
    named_too_many c.args.most c.args.kind c.args.cwd.now c.args.view.now.files (words_of c.args.given.now.words.items) c.args.given.now.ats.items c.new-all.result c.new-all.ensures.words c.new-all.ensures.openings
    (rw c.in-Err.is at c.in_ok-walk.ensures)
