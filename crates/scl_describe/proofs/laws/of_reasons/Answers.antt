use Rattle.scl_describe.proofs.ExplainedLaws.{gnu-explained, msvc-explained, diab-explained, tasking-explained}
use Rattle.scl_describe.proofs.laws.of_reasons.Goals as goal

pub returns-clause-gcc_and_clang : goal.returns-clause-gcc_and_clang
returns-clause-gcc_and_clang c = gnu-explained

pub returns-clause-cl : goal.returns-clause-cl
returns-clause-cl c = msvc-explained

pub returns-clause-diab : goal.returns-clause-diab
returns-clause-diab c = diab-explained

pub returns-clause-tasking : goal.returns-clause-tasking
returns-clause-tasking c = tasking-explained
