use Rattle.std.proofs.Common.{◌≡◌, ◌++◌, ◌∷◌, [], true, false, sym, ap, subst, ◌∙◌, arith}
use Rattle.std.proofs.lemmas.Grind.{common_steps}
use Rattle.std.specs.List.{list_any}
use Rattle.std.specs.Str.{bytes_eq}
use Rattle.scl_values.specs.Words.{words_of}
use Rattle.scl_text.proofs.ArchLemmas.{new_words-nil, new_words-seen, new_words-unseen}
use Rattle.scl_msvc.specs.Depfile.{HasWords}
use Rattle.scl_msvc.proofs.DepfileLemmas.{has-none, has-unchanged, has-more, was-seen, was-unseen}
use Rattle.scl_msvc.proofs.msvc.depfile.gather.Goals as goal

pub loop-line-init : goal.loop-line-init
loop-line-init c = record {
  names = grind (arith, common_steps, new_words-nil);
  set = grind (arith, common_steps, has-none c.new-seen.result c.new-seen.ensures.empty);
}

pub loop-line-preserved-in_ok-push_word : goal.loop-line-preserved-in_ok-push_word
loop-line-preserved-in_ok-push_word c =
    let key = c.in_ok-from_slice.field-0 in
    let unseen = subst (λ w. list_any (bytes_eq w) (words_of c.loop-line.names.items) ≡ false) c.in_ok-from_slice.ensures.items
    (was-unseen c.loop-line.seen key _ c.loop-line.invariant.set (sym c.if-branch.true ∙ c.in_ok-insert.ensures.added)) in
    record {
      names = grind (arith, common_steps, new_words-unseen, unseen);
      set = subst (λ ws. HasWords c.insert.new.self ws) (ap (λ w. words_of c.loop-line.names.items ++ w ∷ []) c.in_ok-from_slice.ensures.items ∙ sym c.in_ok-push_word.ensures.ok)
          (has-more c.loop-line.seen c.insert.new.self key _ c.loop-line.invariant.set c.in_ok-insert.ensures.keys);
    }

pub loop-line-preserved : goal.loop-line-preserved
loop-line-preserved c =
    let key = c.in_ok-from_slice.field-0 in
    let seen = subst (λ w. list_any (bytes_eq w) (words_of c.loop-line.names.items) ≡ true) c.in_ok-from_slice.ensures.items
    (was-seen c.loop-line.seen key _ c.loop-line.invariant.set (sym c.if-branch.false ∙ c.in_ok-insert.ensures.added)) in
    record {
      names = grind (arith, common_steps, new_words-seen, seen);
      set = has-unchanged c.loop-line.seen c.insert.new.self _ c.loop-line.invariant.set (grind (arith, common_steps, c.in_ok-insert.ensures.unchanged, c.if-branch.false));
    }
