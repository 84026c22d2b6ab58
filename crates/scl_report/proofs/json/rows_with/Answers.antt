use Rattle.std.proofs.Common.{◌≡◌, ◌++◌, List, ℕ, Vec, ap, ◌∙◌, option_copied}
use Rattle.std.proofs.lemmas.List.{map-append}
use Rattle.std.specs.declared.alloc.Global.{Global}
use Rattle.scl_values.specs.Words.{words_of}
use Rattle.scl_text.specs.Runs.{runs_of}
use Rattle.scl_description.specs.RowLists.{held}
use Rattle.scl_description.specs.Rows.{rows_of}
use Rattle.scl_description.proofs.TakerLaws.{list_added}
use Rattle.scl_describe.specs.DescriptionsGiven.{rows_given}
use Rattle.scl_report.specs.Objects.{own_entries}
use Rattle.scl_report.proofs.json.rows_with.Goals as goal

pub returns : goal.returns
returns c =
    let own : List (List (List ℕ)) = rows_of (own_entries (option_copied c.args.unrunnable) c.args.case.now c.args.answered.now) in
    let front : runs_of c.into_rows.result.items ≡ held c.args.front ++ own = c.into_rows.ensures ∙ list_added c.args.front c.tell_own.new.rows own c.in_ok-tell_own.ensures in
    ap (λ items. runs_of items) c.in_ok-append.ensures.items
    ∙ map-append (λ (words : Vec (Vec ℕ Global) Global). words_of words.items) c.in_ok-rows.rows.items c.into_rows.result.items
    ∙ ap (λ (rows : List (List (List ℕ))). rows ++ runs_of c.into_rows.result.items) c.in_ok-rows.ensures
    ∙ ap (λ (rows : List (List (List ℕ))). rows_given c.args.answered.now.description ++ rows) front
