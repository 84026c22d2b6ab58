use Rattle.std.proofs.Common.{◌≡◌, ◌++◌, IfOk, ap, subst, ◌∙◌}
use Rattle.std.specs.List.{flat_map}
use Rattle.scl_values.specs.Words.{words_of}
use Rattle.scl_rounds.specs.Headers.{folders, headers, included_as}
use Rattle.scl_rounds.specs.Shown.{each_once, marked}
use Rattle.scl_rounds.specs.Views.{key_in, machine_of}
use Rattle.scl_rounds.proofs.HeaderLemmas.{places_are}
use Rattle.scl_rounds.proofs.header.places.Goals as goal

pub returns : goal.returns
returns c =
    let key = key_in c.args.told.now in
    let m = machine_of c.args.told.now in
    let searched = words_of c.args.searched.now in
    let them = words_of c.in_ok-headers.headers.items in
    let one : them ≡ headers key m searched = c.in_ok-headers.ensures in
    let two : words_of c.deref-3.result.now ≡ folders key m them searched =
    ap words_of c.deref-3.ensures.value ∙ c.in_ok-folders.ensures ∙ ap (λ it. folders key m (words_of it) searched) c.deref.ensures.value in
    let three : words_of c.deref-4.result.now ≡ each_once (flat_map included_as them) =
    ap words_of c.deref-4.ensures.value
    ∙ c.in_ok-names.ensures
    ∙ ap each_once (c.in_ok-all_included_as.ensures ∙ ap (λ it. flat_map included_as (words_of it)) c.deref-2.ensures.value) in
    let four : words_of c.deref-5.result.now ≡ them ++ marked key m = ap words_of c.deref-5.ensures.value ∙ c.in_ok-sources.ensures in
    subst (λ it. IfOk c.places_by.result (λ paths. words_of paths.items ≡ it))
    (places_are key m searched them (words_of c.deref-3.result.now) (words_of c.deref-4.result.now) (words_of c.deref-5.result.now) one two three four)
    c.places_by.ensures
