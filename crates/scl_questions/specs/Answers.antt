-- Answers of any kind, in the order of their questions, and the machine that answers so.
use Rattle.std.specs.Prelude.{ℕ, ◌==◌, Bool, cond, List, [], ◌∷◌, Option, None, Some}
use Rattle.scl_lookup.specs.Questions.{Question, env, program, file, bytes, names, real, times, run, Standing, missing, Program, Written, Machine}
use Rattle.scl_questions.specs.Same.{kind, same}

pub data Reply : Type 0 where
  value : (it : Option (List ℕ)) → Reply
  tool : (it : Option Program) → Reply
  standing : (it : Standing) → Reply
  content : (it : Option (List ℕ)) → Reply
  listed : (them : List (List ℕ)) → Reply
  path : (it : List ℕ) → Reply
  stamp : (it : List ℕ) → Reply
  written : (it : Written) → Reply

-- of which question it is an answer
abbrev pub reply_kind : Reply → ℕ
reply_kind (value it) = 0
reply_kind (tool it) = 1
reply_kind (standing it) = 2
reply_kind (content it) = 3
reply_kind (listed them) = 4
reply_kind (path it) = 5
reply_kind (stamp it) = 6
reply_kind (written it) = 7

abbrev pub fits : Question → Reply → Bool
fits question reply = kind question == reply_kind reply

-- what a machine answers
abbrev pub reply_on : Machine → Question → Reply
reply_on m (env name) = value (m (env name))
reply_on m (program name) = tool (m (program name))
reply_on m (file at) = standing (m (file at))
reply_on m (bytes at) = content (m (bytes at))
reply_on m (names at) = listed (m (names at))
reply_on m (real at) = path (m (real at))
reply_on m (times at) = stamp (m (times at))
reply_on m (run language words) = written (m (run language words))

-- the reply to a question, among those to questions that were asked
abbrev pub reply_to : Question → List Question → List Reply → Option Reply
reply_to question [] replies = None
reply_to question (first ∷ asked) [] = None
reply_to question (first ∷ asked) (reply ∷ replies) = cond (same first question) (Some reply) (reply_to question asked replies)

-- ---- the answer that a reply gives; where there is none, or one of another kind, it is nothing

abbrev pub value_in : Option Reply → Option (List ℕ)
value_in (Some (value it)) = it
value_in other = None

abbrev pub tool_in : Option Reply → Option Program
tool_in (Some (tool it)) = it
tool_in other = None

abbrev pub standing_in : Option Reply → Standing
standing_in (Some (standing it)) = it
standing_in other = missing

abbrev pub content_in : Option Reply → Option (List ℕ)
content_in (Some (content it)) = it
content_in other = None

abbrev pub listed_in : Option Reply → List (List ℕ)
listed_in (Some (listed them)) = them
listed_in other = []

abbrev pub path_in : Option Reply → List ℕ
path_in (Some (path it)) = it
path_in other = []

abbrev pub stamp_in : Option Reply → List ℕ
stamp_in (Some (stamp it)) = it
stamp_in other = []

-- a run that failed
abbrev pub unwritten : Written
unwritten = record { status = 1; output = []; messages = []; own = [] }

abbrev pub written_in : Option Reply → Written
written_in (Some (written it)) = it
written_in other = unwritten

-- the machine that replies describe
abbrev pub told : List Question → List Reply → Machine
told asked replies (env name) = value_in (reply_to (env name) asked replies)
told asked replies (program name) = tool_in (reply_to (program name) asked replies)
told asked replies (file at) = standing_in (reply_to (file at) asked replies)
told asked replies (bytes at) = content_in (reply_to (bytes at) asked replies)
told asked replies (names at) = listed_in (reply_to (names at) asked replies)
told asked replies (real at) = path_in (reply_to (real at) asked replies)
told asked replies (times at) = stamp_in (reply_to (times at) asked replies)
told asked replies (run language words) = written_in (reply_to (run language words) asked replies)
