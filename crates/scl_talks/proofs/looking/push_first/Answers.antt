use Rattle.std.proofs.Common.{◌≡◌, ◌∙◌, ◌∷◌, ◌++◌, [], List, codes, ap, sym}
use Rattle.std.proofs.lemmas.Result.{on_ok_weaker}
use Rattle.scl_describe.specs.DescriptionsGiven.{kept_told}
use Rattle.scl_description.specs.Rows.{Entry, entries_text, lone, row_entry}
use Rattle.scl_description.proofs.TakerLaws.{entries_added, first_entry as one_entry, text_has}
use Rattle.scl_talks.specs.Names.{first_name}
use Rattle.scl_talks.specs.Next.{first_entries, first_entry}
use Rattle.scl_talks.proofs.looking.push_first.Goals as goal

pub returns-in_ok-name-in-Under : goal.returns-in_ok-name-in-Under
returns-in_ok-name-in-Under c =
    let place = c.args.place.now in
    let text = c.args.text.now in
    let said : Entry = row_entry (codes "first") (lone c.deref-in-Under.result.now) in
    let same : said ≡ first_entry place text.items =
    ap (λ name. row_entry (codes "first") (lone name)) (c.deref-in-Under.ensures.value ∙ c.in_ok-name-in-Under.ensures ∙ ap (first_name place) c.deref.ensures.value) in
    let told : first_entries place text.items (kept_told c.args.kept.now) ≡ first_entry place text.items ∷ [] = ap (λ kept. first_entries place text.items (kept_told kept)) c.in-Under.is in
    on_ok_weaker c.tell_word.result
    (λ added.
    entries_added text c.tell_word.new.rows (said ∷ []) (one_entry text_has text c.tell_word.new.rows said added)
    ∙ ap (λ (entries : List Entry). text.items ++ entries_text entries) (ap (λ (e : Entry). e ∷ []) same ∙ sym told))
    c.tell_word.ensures
