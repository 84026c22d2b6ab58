use Rattle.std.proofs.Common.{◌≡◌, List, ℕ, Vec, ap, ◌∙◌}
use Rattle.std.proofs.lemmas.Result.{IfOk-weaker}
use Rattle.std.specs.declared.alloc.Global.{Global}
use Rattle.scl_description.specs.RowLists.{held}
use Rattle.scl_description.specs.Rows.{rows_of}
use Rattle.scl_json.specs.Objects.{entries_in, json_of}
use Rattle.scl_report.specs.Firsts.{error}
use Rattle.scl_report.specs.Objects.{refused_entries}
use Rattle.scl_report.proofs.json.refused_object.Goals as goal

pub returns : goal.returns
returns c =
    let written : List (List (List ℕ)) → List ℕ = λ rows. json_of (entries_in error rows) in
    let rows : List (List (List ℕ)) = rows_of (refused_entries c.args.named.entry c.args.named.file.now c.args.why.now) in
    IfOk-weaker c.object_with.result (λ (json : Vec ℕ Global). json.items ≡ written (held c.in_ok-rows.rows)) (λ (json : Vec ℕ Global). json.items ≡ written rows) (λ json is. is ∙ ap written c.in_ok-rows.ensures) c.object_with.ensures
