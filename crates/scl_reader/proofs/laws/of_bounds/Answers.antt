use Rattle.scl_reader.proofs.InnerLineLaws.{clang-inner-within}
use Rattle.scl_reader.proofs.laws.of_bounds.Goals as goal

pub returns : goal.returns
returns c = record { clang_inner_is_within = clang-inner-within }
