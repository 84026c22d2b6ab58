use Rattle.scl_rows.proofs.MsvcTells.{msvc-given, msvc-tells}
use Rattle.scl_rows.proofs.laws.of_msvc_rows.Goals as goal

pub returns : goal.returns
returns c = record { rows_tell = msvc-tells; rows_share_words = msvc-given }
