use Rattle.std.proofs.Common.{◌≡◌, ◌++◌, List, ℕ, map, ap, ◌∙◌}
use Rattle.scl_text.specs.Commands.{pairs_of}
use Rattle.scl_text.specs.Records.{Parsed, parsed_of}
use Rattle.scl_description.specs.Rows.{rows_of}
use Rattle.scl_description.specs.Records.{record_entries}
use Rattle.scl_key.specs.Parts.{Part, is}
use Rattle.scl_key.specs.Told.{facts_shown, kept_rows}
use Rattle.scl_key.specs.Views.{parts_of, run_words_of}
use Rattle.scl_key.proofs.PartLaws.{facts_told, record_kept}
use Rattle.scl_key.proofs.told.told.Goals as goal

pub returns : goal.returns
returns c =
    let p : Parsed = parsed_of c.args.line.now.parsed.now in
    let beside : List Part = facts_shown c.args.line.now.compiler (pairs_of c.args.line.now.environment.now) (run_words_of c.args.line.now.words) c.args.is_shown in
    let rows : List (List (List ℕ)) = kept_rows c.args.is_shown (rows_of (record_entries p)) in
    let taken : parts_of c.tell_record.new.rows.parts.items ≡ parts_of c.in_ok-parts.parts.items ++ map is rows =
    facts_told (record { alloc = c.args.alloc; is_shown = c.args.is_shown; parts = c.in_ok-parts.parts }) c.tell_record.new.rows (rows_of (record_entries p)) c.in_ok-tell_record.ensures in
    taken ∙ ap (λ (parts : List Part). parts ++ map is rows) c.in_ok-parts.ensures
    ∙ ap (λ (parts : List Part). beside ++ parts) (record_kept c.args.is_shown p)
