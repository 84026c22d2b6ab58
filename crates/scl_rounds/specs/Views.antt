-- What the code's values stand for.
use Rattle.std.specs.Prelude.{None, Some, Option}
use Rattle.scl_key.specs.Views.{directs_of, parts_of}
use Rattle.scl_lookup.specs.Questions.{Machine}
use Rattle.scl_questions.specs.Answers.{told}
use Rattle.scl_questions.specs.Talks.{Said, looks_up, ends, refuses}
use Rattle.scl_questions.specs.Views.{questions_of, replies_of, rows_of}
use Rattle.scl_rounds.specs.declared.answer.Told as declared_told
use Rattle.scl_rounds.specs.declared.key.Key as declared_key
use Rattle.scl_rounds.specs.declared.next.Next as declared_next
use Rattle.scl_rounds.specs.declared.next.Next.TheVariants as nexts
use Rattle.scl_rounds.specs.Answers.{Outcome}
use Rattle.scl_rounds.specs.Keys.{Key}

abbrev pub key_of : declared_key.Key → Key
key_of k = record { place = k.place.now; parts = parts_of k.parts.now; direct = directs_of k.direct.now }

abbrev pub key_in : declared_told.Told → Key
key_in t = key_of t.key.now

-- the machine that answers so
abbrev pub machine_of : declared_told.Told → Machine
machine_of t = told (questions_of t.asked.now) (replies_of t.answers.now)

abbrev pub next_of : declared_next.Next → Said Outcome
next_of (nexts.LookUp questions) = looks_up (questions_of questions.items)
next_of (nexts.Found rows is_listed) = ends (Some (record { rows = rows_of rows.items; is_listed = is_listed }))
next_of nexts.Nothing = ends None
next_of (nexts.Refused number) = refuses number

-- what is said in a round, or else behind it
abbrev pub said_or : (behind : Said Outcome) → Option declared_next.Next → Said Outcome
said_or behind None = behind
said_or behind (Some next) = next_of next
