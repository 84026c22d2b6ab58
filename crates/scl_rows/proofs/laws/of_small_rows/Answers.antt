use Rattle.scl_rows.proofs.SmallTells.{small-given, small-tells}
use Rattle.scl_rows.proofs.laws.of_small_rows.Goals as goal

pub returns : goal.returns
returns g c = record { rows_tell = small-tells; rows_share_words = small-given }
