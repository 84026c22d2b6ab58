use Rattle.std.proofs.Common.{◌≡◌, true}
use Rattle.scl_reader.proofs.ReadLaws.{IsOf, answer_of_read}
use Rattle.scl_reader.specs.CommandLines.{Request, asked_for, given_by}
use Rattle.scl_reader.specs.Reads.{read_of}
use Rattle.scl_reader.specs.Within.{has_at_most}
use Rattle.scl_reader.proofs.compiler.Compiler.answer_within.Goals as goal

pub returns-in_ok-into_answer-in-Ok : goal.returns-in_ok-into_answer-in-Ok
returns-in_ok-into_answer-in-Ok c =
    let request : Request = asked_for c.args.self (given_by c.args.line.now) in
    let read : (has_at_most c.args.most request ≡ true) × (c.in-Ok.reading ≡ read_of request) = rw c.in-Ok.is at c.in_ok-reading.ensures in
    let answer = c.in_ok-into_answer-in-Ok.field-0 in
    let of : IsOf request c.args.executable.now answer = answer_of_read request c.args.executable.now answer c.in-Ok.reading read.1 c.in_ok-into_answer-in-Ok.ensures in
    record { within = (read.0, of.is); parts = of.parts; read_again = of.read_again }
