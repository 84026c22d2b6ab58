use Rattle.scl_description.proofs.RowLaws.{rows-back}
use Rattle.scl_description.proofs.RecordLaws.{description-back, description-back-among}
use Rattle.scl_description.proofs.laws.of_descriptions.Goals as goal

pub returns-clause-rows_read_back : goal.returns-clause-rows_read_back
returns-clause-rows_read_back c = rows-back

pub returns-clause-description_reads_back : goal.returns-clause-description_reads_back
returns-clause-description_reads_back c = description-back

pub returns-clause-description_reads_back_among : goal.returns-clause-description_reads_back_among
returns-clause-description_reads_back_among c = description-back-among
