use Rattle.std.proofs.Common.{◌≡◌, true, ◌∷◌, [], Ok, Err, Some, refl}
use Rattle.std.proofs.lemmas.List.Elements.{All-nil, All-push}
use Rattle.scl_cutting.specs.Iter.{cutter}
use Rattle.scl_values.specs.Tables.{owner_in}
use Rattle.scl_values.specs.Texts.{is_delimited_by_ascii}
use Rattle.scl_cutting.proofs.WordsLemmas.{leaves_after, after_options-append}
use Rattle.scl_cutting.proofs.words.cut_words.Goals as goal

pub loop-item-init : goal.loop-item-init
loop-item-init g c =
    let start = c.cutter-arguments.ensures in
    let st = start.state in (
      λ items h. rw c.in_ok-options.ensures.items (rw (start.arg_info, st.0, st.1, st.2, start.words) at h),
      rw c.in_ok-options.ensures.items (All-nil (λ option. is_delimited_by_ascii option ≡ true)),
    )

pub loop-item-preserved : goal.loop-item-preserved
loop-item-preserved g c =
    let a = c.loop-item.arguments in
    let t = c.next.new.self in
    let after = leaves_after g.T.ArgumentValue.make_gives
    (cutter a.arguments (owner_in (g.S.SearchableArgInfo.tables a.arg_info)) a.double_dashes a.only_raw a.ended)
    (cutter t.arguments (owner_in (g.S.SearchableArgInfo.tables t.arg_info)) t.double_dashes t.only_raw t.ended)
    (Some c.in-Some.item) c.in-Some.ensures.steps in
    let first = rw c.in-Ok.is at after in
    let printable = rw c.in-Ok.is at c.in-Some.ensures.steps.4 in (
      λ items h. rw (c.in_ok-push-in-Ok.ensures.items, after_options-append g.T.ArgumentValue.make_gives) (c.loop-item.invariant.0 (Ok c.in-Ok.option ∷ items) (first.0, _, first.1, first.2, h)),
      rw c.in_ok-push-in-Ok.ensures.items (All-push (λ option. is_delimited_by_ascii option ≡ true) _ _ c.loop-item.invariant.1 printable),
    )

pub returns-in-Err-clause-items : goal.returns-in-Err-clause-items
returns-in-Err-clause-items g c =
    let a = c.loop-item.arguments in
    let t = c.next.new.self in
    let after = leaves_after g.T.ArgumentValue.make_gives
    (cutter a.arguments (owner_in (g.S.SearchableArgInfo.tables a.arg_info)) a.double_dashes a.only_raw a.ended)
    (cutter t.arguments (owner_in (g.S.SearchableArgInfo.tables t.arg_info)) t.double_dashes t.only_raw t.ended)
    (Some c.in-Some.item) c.in-Some.ensures.steps in
    let first = rw c.in-Err.is at after in
    c.loop-item.invariant.0 (Err c.in-Err.error ∷ []) (first, refl)
