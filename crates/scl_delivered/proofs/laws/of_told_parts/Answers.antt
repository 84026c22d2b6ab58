use Rattle.scl_delivered.proofs.ToldLaws.{parts_are_told_as_rows, told_parts_are_read_back}
use Rattle.scl_delivered.proofs.laws.of_told_parts.Goals as goal

pub returns : goal.returns
returns c = record { as_rows = parts_are_told_as_rows; are_read_back = told_parts_are_read_back }
