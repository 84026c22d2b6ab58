use Rattle.std.proofs.Common.{sym}
use Rattle.std.proofs.lemmas.Result.{IfOk-weaker}
use Rattle.scl_reader.specs.CommandLines.{Request, asked_for, given_by}
use Rattle.scl_reader.proofs.RecordLaws.{record_is_given}
use Rattle.scl_reader.proofs.compiler.Compiler.answer.Goals as goal

pub returns-clause-record : goal.returns-clause-record
returns-clause-record c =
    let request : Request = asked_for c.args.self (given_by c.args.line.now) in
    IfOk-weaker c.ask-2.result _ _ (λ answer is. record_is_given request c.args.executable.now answer (is request.words (sym c.in_ok-outcome.ensures))) c.ask-2.ensures
