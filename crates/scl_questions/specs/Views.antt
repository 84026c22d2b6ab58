-- What the code's values stand for.
use Rattle.std.specs.Prelude.{ℕ, List, map, codes, Option, None, Some, Vec}
use Rattle.std.specs.Borrow.{Bor}
use Rattle.std.specs.declared.alloc.Global.{Global}
use Rattle.std.specs.Option.{option_map}
use Rattle.scl_values.specs.Words.{words_of}
use Rattle.scl_lookup.specs.Keys.{Field, said, summed, Row}
use Rattle.scl_lookup.specs.Questions.{Question, env, program, file, bytes, names, real, times, run, Standing, regular, folder, special, missing, Program, Written}
use Rattle.scl_questions.specs.Answers.{Reply, value, tool, standing, content, listed, path, stamp, written}
use Rattle.scl_questions.specs.Rounds.{Round, over, asks, refused}
use Rattle.scl_questions.specs.declared.answer.Answer as declared_answer
use Rattle.scl_questions.specs.declared.answer.Answer.TheVariants as answers
use Rattle.scl_questions.specs.declared.answer.Program as declared_program
use Rattle.scl_questions.specs.declared.answer.Standing as declared_standing
use Rattle.scl_questions.specs.declared.answer.Standing.TheVariants as standings
use Rattle.scl_questions.specs.declared.answer.Written as declared_written
use Rattle.scl_questions.specs.declared.question.Language.{Language}
use Rattle.scl_questions.specs.declared.question.Language.TheVariants as languages
use Rattle.scl_questions.specs.declared.question.Question as declared_question
use Rattle.scl_questions.specs.declared.question.Question.TheVariants as questions
use Rattle.scl_questions.specs.declared.round.Round as declared_round
use Rattle.scl_questions.specs.declared.round.Round.TheVariants as rounds
use Rattle.scl_questions.specs.declared.row.Field as declared_field
use Rattle.scl_questions.specs.declared.row.Field.TheVariants as fields

abbrev pub language_of : Language → List ℕ
language_of languages.C = codes "C"
language_of languages.Own = codes ""

abbrev pub question_of : declared_question.Question → Question
question_of (questions.Env name) = env name.items
question_of (questions.Program name) = program name.items
question_of (questions.File at) = file at.items
question_of (questions.Bytes at) = bytes at.items
question_of (questions.Names at) = names at.items
question_of (questions.Real at) = real at.items
question_of (questions.Times at) = times at.items
question_of (questions.Run language words) = run (language_of language) (words_of words.items)

abbrev pub questions_of : List declared_question.Question → List Question
questions_of asked = map question_of asked

abbrev pub standing_of : declared_standing.Standing → Standing
standing_of (standings.Regular sum) = regular sum.items
standing_of standings.Folder = folder
standing_of standings.Special = special
standing_of standings.Missing = missing

-- what stands at a path, if that was answered; else nothing
abbrev pub standing_at : Option (Bor declared_standing.Standing) → Standing
standing_at None = missing
standing_at (Some it) = standing_of it.now

abbrev pub program_of : declared_program.Program → Program
program_of p = record { sum = p.sum.items; links = words_of p.links.items }

abbrev pub written_of : declared_written.Written → Written
written_of w = record { status = w.status; output = w.output.items; messages = w.messages.items; own = w.own.items }

abbrev pub reply_of : declared_answer.Answer → Reply
reply_of (answers.Value it) = value (option_map (λ text. text.items) it)
reply_of (answers.Program it) = tool (option_map program_of it)
reply_of (answers.Standing it) = standing (standing_of it)
reply_of (answers.Bytes it) = content (option_map (λ text. text.items) it)
reply_of (answers.Names them) = listed (words_of them.items)
reply_of (answers.Real it) = path it.items
reply_of (answers.Times it) = stamp it.items
reply_of (answers.Written it) = written (written_of it)

abbrev pub replies_of : List declared_answer.Answer → List Reply
replies_of answers = map reply_of answers

abbrev pub round_of : declared_round.Round → Round
round_of rounds.Over = over
round_of rounds.Asks = asks
round_of (rounds.Refused number) = refused number

abbrev pub field_of : declared_field.Field → Field
field_of (fields.Said text) = said text.items
field_of (fields.Summed sum) = summed sum.items

abbrev pub row_of : List declared_field.Field → Row
row_of row = map field_of row

abbrev pub rows_of : List (Vec declared_field.Field Global) → List Row
rows_of rows = map (λ row. row_of row.items) rows
