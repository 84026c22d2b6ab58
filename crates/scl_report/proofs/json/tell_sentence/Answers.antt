use Rattle.std.proofs.Common.{◌≡◌, map, ◌∙◌}
use Rattle.scl_rows.specs.Rows.{told}
use Rattle.scl_report.specs.Nothing.{why_nothing}
use Rattle.scl_report.proofs.json.tell_sentence.Goals as goal

pub returns-in-NotCompilation : goal.returns-in-NotCompilation
returns-in-NotCompilation g c =
    let why : c.as_bytes.result.now ≡ why_nothing (map told c.args.answered.now.description.options.items) = c.as_bytes.ensures.value ∙ (rw c.deref.ensures.value at c.why_nothing-why.ensures) in
    rw c.in-NotCompilation.is (rw why at c.tell_word.ensures)
