use Rattle.scl_rows.proofs.GnuTells.{gnu-given, gnu-tells}
use Rattle.scl_rows.proofs.laws.of_gnu_rows.Goals as goal

pub returns : goal.returns
returns c = record { rows_tell = gnu-tells; rows_share_words = gnu-given }
