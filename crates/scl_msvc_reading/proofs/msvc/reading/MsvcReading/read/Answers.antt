use Rattle.std.proofs.Common.{false}
use Rattle.scl_files.specs.Expanded.{expanded_of}
use Rattle.scl_text.specs.Records.{outcome_of}
use Rattle.scl_values.specs.Words.{words_of}
use Rattle.scl_msvc_reading.proofs.ReadLaws.{read_said, within_is}
use Rattle.scl_msvc_reading.proofs.msvc.reading.MsvcReading.read.Goals as goal

pub returns : goal.returns
returns c =
    let inner = rw c.in-Ok.is at c.in_ok-inner.ensures in
    read_said c.args.most c.args.is_clang c.args.cwd.now c.args.view.now (expanded_of c.args.expanded) c.in_ok-outer.outer c.in_ok-outer.ensures c.line.result.now c.line.ensures
    (words_of c.args.environment.items) c.in-Ok.inner (outcome_of c.in_ok-outcome.outcome) inner.0 inner.1
    (rw (← c.line-2.ensures, ← c.line-xclang.ensures, ← c.line-clang.ensures) c.in_ok-outcome.ensures)

pub returns-in-Err : goal.returns-in-Err
returns-in-Err c =
    within_is c.args.most c.args.is_clang c.args.cwd.now c.args.view.now (expanded_of c.args.expanded) c.in_ok-outer.outer c.in_ok-outer.ensures c.line.result.now c.line.ensures false
    (rw c.in-Err.is at c.in_ok-inner.ensures)
