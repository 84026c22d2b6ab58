use Rattle.std.proofs.Common.{◌≡◌, ℕ, true, false, List, ◌∷◌, ◌++◌, refl, sym, ap, subst, ◌∙◌}
use Rattle.std.specs.Option.{is_some, option_to_list}
use Rattle.scl_values.specs.Words.{words_of}
use Rattle.scl_files.specs.PathMaps.{value_at}
use Rattle.scl_files.specs.Views.{bytes_at}
use Rattle.scl_files.proofs.OnceLemmas.{Once, nothing_once}
use Rattle.scl_files.proofs.WalkLemmas.{known_more, new_more}
use Rattle.scl_files.proofs.texts.texts_once.Goals as goal

pub loop-path-init : goal.loop-path-init
loop-path-init c = rw (c.new-texts.ensures.items, c.new-seen.ensures) (nothing_once c.args.view.now.files)

pub loop-path-preserved-then-contains : goal.loop-path-preserved-then-contains
loop-path-preserved-then-contains c =
    let seen = c.loop-path.seen in
    let known : is_some (value_at c.path-item.result.items seen) ≡ true = subst (λ (p : List ℕ). is_some (value_at p seen) ≡ true) c.deref.ensures.value (sym c.contains.ensures ∙ c.if-contains.true) in
    known_more c.args.view.now.files c.args.paths.now c.loop-path.path-index c.path-item.result c.loop-path-test.true c.path-item.is c.loop-path.texts.items seen known c.loop-path.invariant

pub loop-path-preserved : goal.loop-path-preserved
loop-path-preserved c =
    let files = c.args.view.now.files in
    let path = c.path-item.result in
    let seen = c.loop-path.seen in
    let unknown : is_some (value_at path.items seen) ≡ false = subst (λ (p : List ℕ). is_some (value_at p seen) ≡ false) c.deref.ensures.value (sym c.contains.ensures ∙ c.if-contains.false) in
    let put : words_of c.push_text.new.texts.items ≡ words_of c.loop-path.texts.items ++ option_to_list (bytes_at path.items files) =
    subst (λ (p : List ℕ). words_of c.push_text.new.texts.items ≡ words_of c.loop-path.texts.items ++ option_to_list (bytes_at p files)) c.deref-in-loop-path.ensures.value c.in_ok-push_text.ensures in
    let entry : c.in_ok-from_slice.field-0.items ≡ path.items = c.in_ok-from_slice.ensures.items ∙ c.deref-in-loop-path-2.ensures.value in
    rw (c.in_ok-add.ensures.ok, entry) (new_more files c.args.paths.now c.loop-path.path-index path c.loop-path-test.true c.path-item.is c.loop-path.texts.items c.push_text.new.texts.items seen unknown put c.loop-path.invariant)
