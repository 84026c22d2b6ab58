-- Of a request the same is reported on the disk as in a view with enough of it, and it has the same rows.
use Rattle.std.proofs.Common.{ap, ◌∙◌}
use Rattle.scl_reader.proofs.QuestionLaws.{headers-decided, wholes-decided}
use Rattle.scl_reader.specs.CommandLines.{given_in}
use Rattle.scl_reader.specs.PrecompiledHeaders.{has_precompiled_header}
use Rattle.scl_reader.specs.Questions.{on_disk}
use Rattle.scl_reader.specs.Reads.{read_of}
use Rattle.scl_describe.specs.Decided.{TellingIsDecided, RowsAreDecided}
use Rattle.scl_describe.specs.Hazards.{told_with}
use Rattle.scl_describe.specs.OptionRows.{rows_in}

pub rows-decided : RowsAreDecided
rows-decided r disk extends none = ap rows_in (wholes-decided r disk extends none)

pub telling-decided : TellingIsDecided
telling-decided known r disk extends none =
    ap (λ reading. told_with known r.environment (has_precompiled_header (given_in (on_disk r disk)) (read_of (on_disk r disk))) reading) (wholes-decided r disk extends none)
    ∙ ap (λ has. told_with known r.environment has (read_of r)) (headers-decided r disk extends none)
