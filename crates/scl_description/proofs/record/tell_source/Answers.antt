use Rattle.std.proofs.Common.{rules, ◌≡◌, ◌∷◌, [], List, ℕ, codes, subst}
use Rattle.std.proofs.lemmas.Result.{on_ok_weaker}
use Rattle.scl_text.specs.Records.{Parsed, parsed_of}
use Rattle.scl_description.specs.Rows.{Entry, entry_rows, row_entry, yes_entry, lone}
use Rattle.scl_description.specs.Records.{language_text}
use Rattle.scl_description.specs.Takers.{Adds}
use Rattle.scl_description.proofs.TakerLaws.{first_entry, then_entry}
use Rattle.scl_description.proofs.record.tell_source.Goals as goal

pub returns : goal.returns
returns g c =
    let p : Parsed = parsed_of c.args.parsed.now in
    let has = g.R.TakesRows.has in
    let start = c.args.rows.now in
    let x1 : Entry = row_entry (codes "input") (lone p.input) in
    let x2 : Entry = yes_entry (codes "double-dash-input") p.double_dash_input in
    let x3 : Entry = row_entry (codes "language") (lone (language_text p.language)) in
    let input : c.deref.result.now ≡ p.input = search (rules, c.deref.ensures.value) in
    let flag : c.deref-2.result.now ≡ p.compilation_flag = search (rules, c.deref-2.ensures.value) in
    let first = first_entry has start c.tell_word.new.rows x1 (subst (λ (text : List ℕ). Adds has start c.tell_word.new.rows (entry_rows (row_entry (codes "input") (lone text)))) input c.in_ok-tell_word.ensures) in
    let dashed = then_entry has start c.tell_word.new.rows c.tell_yes.new.rows (x1 ∷ []) x2 first c.in_ok-tell_yes.ensures in
    let spoken = then_entry has start c.tell_yes.new.rows c.tell_language.new.rows (x1 ∷ x2 ∷ []) x3 dashed c.in_ok-tell_language.ensures in
    on_ok_weaker c.tell_word-2.result
    (λ last. then_entry has start c.tell_language.new.rows c.tell_word-2.new.rows (x1 ∷ x2 ∷ x3 ∷ []) (row_entry (codes "compilation-flag") (lone p.compilation_flag)) spoken
    (subst (λ (text : List ℕ). Adds has c.tell_language.new.rows c.tell_word-2.new.rows (entry_rows (row_entry (codes "compilation-flag") (lone text)))) flag last))
    c.tell_word-2.ensures
