use Rattle.scl_describe.proofs.RowLaws.{rows-share, rows-tell}
use Rattle.scl_describe.proofs.laws.of_rows.Goals as goal

pub returns : goal.returns
returns c = record { rows_tell = rows-tell; rows_share_words = rows-share }
